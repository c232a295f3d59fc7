-- Demand 1: any octets, settings, tables and order of calls are answered; bad input is refused under a number from the table, the
-- first in the order of document 01 that applies and exactly then, and a refusal leaves the state and every lent buffer as it came.
--
--   judged r        what a value of AL1M's `Received` says
--   Demand1         each operation, on any state, table, buffer and number: it refuses by its list of tests, which stands beside its
--                   definition. What is not refused is answered: the functions require nothing, and what they answer is told by the same
--                   definitions. proofs/First.antt proves it
--
-- Assumes nothing.
use Rattle.std.specs.Prelude.{Bool, List, ℕ, length, Result, Ok, Err}
use Rattle.calls.specs.declared.Refusal.{Refusal}
use Rattle.calls.specs.Refusal.{Told, refused, told, ended, Refuses, number, says}
use Rattle.adaptation.specs.AL1M.{length_tests, sent_length}
use Rattle.adaptation.specs.Sending.{encode_tests, Sends}
use Rattle.adaptation.specs.Receiving.{RepairLent, receive_tests, Receives}
use Rattle.adaptation.specs.AL1.{pass_tests, passed}
use Rattle.adaptation.specs.declared.al1m.Judgement.{Judgement}
use Rattle.table.specs.Table.{replace_tests, replaced}
use Rattle.packets.specs.Packet.{write_tests, wrote, read_tests, read}
use Rattle.channels.specs.declared.Channels.{Channels}
use Rattle.channels.specs.Channels.{open_tests, close_tests, reset_tests, post_tests, opened, closed, reset, posted}
use Rattle.channels.specs.Layers as layers
use Rattle.multiplex.specs.Demultiplexer.{DemuxLent, demultiplex_tests, demultiplexed}
use Rattle.multiplex.specs.Multiplexer.{MuxLent, multiplex_tests, multiplexed}

abbrev pub judged : Result Judgement Refusal → Told Judgement
judged (Ok j) = told j
judged (Err r) = refused (number r)

pub record Demand1 : Type 0 where
  pub lengths : (t b e : ℕ) → Refuses {X = Unit {0}} (ended (sent_length t b e) tt) (length_tests t b e) tt
  pub encoding : (b e : ℕ) (u before after : List ℕ) (r : Result ℕ Refusal) → Sends b e u before r after
      → Refuses (ended (says r) after) (encode_tests (length u) b e (length before)) before
  pub receiving : (b e : ℕ) (w : List ℕ) (before after : RepairLent) (r : Result Judgement Refusal) → Receives b e w before r after
      → Refuses (ended (judged r) after) (receive_tests (length w) b e before) before
  pub passing : (u : List ℕ) → Refuses {X = Unit {0}} (ended (passed u) tt) (pass_tests u) tt
  pub sending : (x : layers.SendLent) (n : ℕ) (numbered : Bool) (u : List ℕ)
      → Refuses (layers.sending x n numbered u) (layers.sending_tests x n numbered u) x
  pub taking : (s : Channels) (n : ℕ) (numbered : Bool) (w : List ℕ) → Refuses (layers.taking s n numbered w) (layers.taking_tests s n numbered w) s
  pub opening : (s : Channels) (n : ℕ) (g : Bool) → Refuses (opened s n g) (open_tests s n) s
  pub closing : (s : Channels) (n : ℕ) → Refuses (closed s n) (close_tests s n) s
  pub resetting : (s : Channels) (n : ℕ) → Refuses (reset s n) (reset_tests s n) s
  pub posting : (s : Channels) (w : List ℕ) (n : ℕ) (u : List ℕ) → Refuses (posted s w n u) (post_tests s n u) (record { channels = s; octets = w })
  pub replacing : (t : List ℕ) (c : ℕ) (s : List ℕ) → Refuses (replaced t c s) (replace_tests c s) t
  pub packing : (o : Bool) (c : ℕ) (mark : Bool) (xs before : List ℕ) → Refuses (wrote o c mark xs before) (write_tests c xs (length before)) before
  pub unpacking : (u : List ℕ) → Refuses {X = Unit {0}} (ended (read u) tt) (read_tests u) tt
  pub demultiplexing : (x : DemuxLent) (t : List ℕ) (c : ℕ) (mark : Bool) (xs : List ℕ)
      → Refuses (demultiplexed x t c mark xs) (demultiplex_tests x t c mark xs) x
  pub multiplexing : (x : MuxLent) (w t : List ℕ) (c room : ℕ) → Refuses (multiplexed x w t c room) (multiplex_tests x t c room) x
