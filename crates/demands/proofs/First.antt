-- Demand 1: the refusal of each operation is the first that applies, exactly then, and leaves what was lent as it came.
--
--   demand1           demand 1
--
-- Assumes nothing.
use Rattle.std.specs.Prelude.{Result, Ok, Err}
use mathlib.Core.List.{List}
use Prim.Native.Nat.{ℕ}
use lib.ListN.{length}
use Rattle.calls.specs.declared.Refusal.{Refusal}
use Rattle.calls.specs.Refusal.{ended, Refuses, number, says}
use Rattle.calls.proofs.Laws.{allowed_refuses, refused_refuses, checked_refuses, told_refuses}
use Rattle.adaptation.specs.declared.al1m.Judgement.{Judgement}
use Rattle.adaptation.specs.AL1M.{sent_length}
use Rattle.adaptation.specs.Sending.{encode_tests, Sends}
use Rattle.adaptation.specs.Receiving.{RepairLent, receive_tests, Receives}
use Rattle.adaptation.specs.AL1.{passed}
use Rattle.table.specs.Table.{replaced}
use Rattle.packets.specs.Packet.{wrote, read}
use Rattle.channels.specs.Channels.{opened, closed, reset, posted}
use Rattle.channels.specs.Layers.{sending, taking}
use Rattle.multiplex.specs.Demultiplexer.{demultiplexed}
use Rattle.multiplex.specs.Multiplexer.{multiplexed}
use Rattle.demands.specs.Answers.{judged, Demand1}

-- ---- AL1M, where what is allowed is a relation

encoding : (b e : ℕ) (u before after : List ℕ) (r : Result ℕ Refusal) → Sends b e u before r after
    → Refuses (ended (says r) after) (encode_tests (length u) b e (length before)) before
encoding b e u before after (Ok m) (a, p) = allowed_refuses before _ m after a
encoding b e u before after (Err k) p = refused_refuses before _ (number k) after p.first p.same

receiving : (b e : ℕ) (w : List ℕ) (before after : RepairLent) (r : Result Judgement Refusal) → Receives b e w before r after
    → Refuses (ended (judged r) after) (receive_tests (length w) b e before) before
receiving b e w before after (Ok j) (a, p) = allowed_refuses before _ j after a
receiving b e w before after (Err k) p = refused_refuses before _ (number k) after p.first p.same

-- ---- each operation

pub demand1 : Demand1
unfolding sent_length passed sending taking opened closed reset posted replaced wrote read demultiplexed multiplexed
demand1 = record {
  lengths = λ t b e. told_refuses _ _;
  encoding = encoding;
  receiving = receiving;
  passing = λ u. told_refuses _ _;
  sending = λ x n numbered u. checked_refuses x _ _ _;
  taking = λ s n numbered w. checked_refuses s _ _ _;
  opening = λ s n g. checked_refuses s _ _ _;
  closing = λ s n. checked_refuses s _ _ _;
  resetting = λ s n. checked_refuses s _ _ _;
  posting = λ s w n u. checked_refuses (record { channels = s; octets = w }) _ _ _;
  replacing = λ t c s. checked_refuses t _ _ _;
  packing = λ o c mark xs before. checked_refuses before _ _ _;
  unpacking = λ u. told_refuses _ _;
  demultiplexing = λ x t c mark xs. checked_refuses x _ _ _;
  multiplexing = λ x w t c room. checked_refuses x _ _ _;
}
