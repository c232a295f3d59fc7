-- The refusal numbers of document 01, and of document 02's packets, operation by operation, in the documents' order: the numbers of each operation's tests, which stand
-- beside its definition. Of the tests themselves this says nothing; exactly when each number is given is said in specs/Exactly.antt.
--
--   numbers l    the numbers of the tests l, in their order
--   Orders       those of each operation; proofs/Ordered.antt proves it
--
-- Assumes nothing.
use Rattle.std.specs.Prelude.{◌≡◌, Bool, List, [], ◌∷◌, ℕ}
use Rattle.calls.specs.Refusal.{Test, ◌when◌}
use Rattle.adaptation.specs.Sending.{encode_tests}
use Rattle.adaptation.specs.Receiving.{RepairLent, receive_tests}
use Rattle.adaptation.specs.AL1M.{length_tests}
use Rattle.adaptation.specs.AL1.{pass_tests}
use Rattle.table.specs.Table.{replace_tests}
use Rattle.packets.specs.Packet.{write_tests, read_tests}
use Rattle.channels.specs.declared.Channels.{Channels}
use Rattle.channels.specs.Channels.{open_tests, close_tests, reset_tests, post_tests}
use Rattle.channels.specs.Layers.{SendLent, sending_tests, taking_tests}
use Rattle.multiplex.specs.Demultiplexer.{DemuxLent, demultiplex_tests}
use Rattle.multiplex.specs.Multiplexer.{MuxLent, multiplex_tests}

abbrev pub numbers : List Test → List ℕ
numbers [] = []
numbers ((k when b) ∷ l) = k ∷ numbers l

pub record Orders : Type 0 where
  -- "AL1M units"; the length question is lent no room, and its third test never holds
  pub lengths : (t b e : ℕ) → numbers (length_tests t b e) ≡ 1 ∷ 2 ∷ 3 ∷ []
  pub encoding : (t b e room : ℕ) → numbers (encode_tests t b e room) ≡ 1 ∷ 2 ∷ 3 ∷ []
  pub receiving : (n b e : ℕ) (lent : RepairLent) → numbers (receive_tests n b e lent) ≡ 1 ∷ 2 ∷ 3 ∷ []
  -- "AL1 and AL2"
  pub passing : (u : List ℕ) → numbers (pass_tests u) ≡ 2 ∷ []
  pub sending : (x : SendLent) (n : ℕ) (numbered : Bool) (u : List ℕ) → numbers (sending_tests x n numbered u) ≡ 5 ∷ 2 ∷ 3 ∷ []
  pub taking : (s : Channels) (n : ℕ) (numbered : Bool) (w : List ℕ) → numbers (taking_tests s n numbered w) ≡ 5 ∷ 2 ∷ []
  -- "Multiplex table"
  pub replacing : (c : ℕ) (s : List ℕ) → numbers (replace_tests c s) ≡ 4 ∷ 14 ∷ 10 ∷ []
  -- document 02, ticket 4: flag, the header's octets, header, length, closing flag
  pub packing : (c : ℕ) (xs : List ℕ) (room : ℕ) → numbers (write_tests c xs room) ≡ 4 ∷ 2 ∷ 3 ∷ []
  pub unpacking : (u : List ℕ) → numbers (read_tests u) ≡ 15 ∷ 15 ∷ 17 ∷ 2 ∷ 15 ∷ []
  -- "Demultiplexer"
  pub opening : (s : Channels) (n : ℕ) → numbers (open_tests s n) ≡ 13 ∷ 12 ∷ []
  pub closing : (s : Channels) (n : ℕ) → numbers (close_tests s n) ≡ 5 ∷ 14 ∷ []
  pub resetting : (s : Channels) (n : ℕ) → numbers (reset_tests s n) ≡ 5 ∷ []
  pub demultiplexing : (x : DemuxLent) (t : List ℕ) (c : ℕ) (mark : Bool) (xs : List ℕ)
      → numbers (demultiplex_tests x t c mark xs) ≡ 2 ∷ 4 ∷ 6 ∷ 5 ∷ 7 ∷ 8 ∷ 3 ∷ []
  -- "Multiplexer"
  pub posting : (s : Channels) (n : ℕ) (u : List ℕ) → numbers (post_tests s n u) ≡ 2 ∷ 5 ∷ 11 ∷ []
  pub multiplexing : (x : MuxLent) (t : List ℕ) (c room : ℕ) → numbers (multiplex_tests x t c room) ≡ 2 ∷ 4 ∷ 3 ∷ 5 ∷ 9 ∷ []
