-- The small set of document 01, as one table, with the changed places (document 02, ticket 2). All octets are in hex.
--
--   Vector       one line of it
--   ReceivedAs   what receiving a word comes to, whatever is lent for the repair, if it is enough
--   Holds v      what it says, of the definitions
--   Small        the table: A1 to A10, in this order; proofs/Vectors.antt proves it
--
-- Assumes nothing.
use Rattle.std.specs.Prelude.{◌≡◌, List, [], ◌∷◌, ℕ, ◌≤◌, length, true, Result, Ok}
use Rattle.octets.specs.Written.{written}
use Rattle.algebra.specs.Polynomial.{polynomial}
use Rattle.codeword.specs.Element.{elements}
use Rattle.codeword.specs.CodeWord as code
use Rattle.calls.specs.declared.Refusal.{Refusal}
use Rattle.calls.specs.Refusal.{Told, refused, told}
use Rattle.checks.specs.Check.{check_of}
use Rattle.checks.specs.Width.{kind_at}
use Rattle.adaptation.specs.declared.al1m.Judgement.{Judgement}
use Rattle.adaptation.specs.AL1M.{sent_length}
use Rattle.adaptation.specs.Sending.{Coded}
use Rattle.adaptation.specs.Receiving.{RepairLent, Receives, handed_unit}
use Rattle.adaptation.specs.declared.Badge.{Badge}
use Rattle.adaptation.specs.declared.Badge.TheVariants.{Clean, Corrected, OutOfReach, CheckFailed}
use Rattle.table.specs.Entry.{times, until_closing, Elements, none, channel, list, is_entry_tree, numbers}
use Rattle.table.specs.Form.{is_entry}
use Rattle.table.specs.Slots.{entry_slots, payload_slots, channels_of}

pub data Vector : Type 0 where
  -- the check of so many bits of these octets
  check : ℕ → List ℕ → List ℕ → Vector
  -- g for e
  generator : ℕ → List ℕ → Vector
  -- a unit, with a check of so many bits and e, is sent as these octets
  sent : ℕ → ℕ → List ℕ → List ℕ → Vector
  -- a received word, with the same settings: badge, changed, unit; and the changed places
  received : ℕ → ℕ → List ℕ → Badge → ℕ → List ℕ → List ℕ → Vector
  -- the length question: unit, check, e
  lengths : ℕ → ℕ → ℕ → Told ℕ → Vector
  -- an entry, and the channels of so many octets under it
  channels : Elements → ℕ → List ℕ → Vector

-- whatever is lent for the repair, if it is enough
abbrev pub ReceivedAs : ℕ → ℕ → List ℕ → Badge → ℕ → List ℕ → List ℕ → Type 0
ReceivedAs b e w x k u l =
    (before after : RepairLent) (r : Result Judgement Refusal) → length w ≤ length before.repair → e ≤ length before.places → Receives b e w before r after
    → (r ≡ Ok (record { badge = x; changed = k; length = length u })) × (handed_unit x w after.repair (length u) ≡ u)
    × (after.places ≡ written before.places 0 l)

abbrev pub Holds : Vector → Type 0
Holds (check b u c) = check_of (kind_at b) u ≡ c
Holds (generator e g) = code.generator e ≡ polynomial elements (code.word g)
Holds (sent b e u c) = Coded (kind_at b) e u c
Holds (received b e w x k u l) = ReceivedAs b e w x k u l
Holds (lengths t b e r) = sent_length t b e ≡ r
Holds (channels x n l) =
    (is_entry_tree x ≡ true) × (is_entry (numbers x) ≡ true) × (channels_of (entry_slots x n) ≡ l) × (channels_of (payload_slots (numbers x) n) ≡ l)

-- A10's entry is [channel 1 twice, [channel 2 once, channel 3 twice] until closing]; it holds of its numbers too
abbrev pub Small : Type 0
Small =
    Holds (check 8 (0x10 ∷ 0x80 ∷ []) (0xF5 ∷ []))
    × Holds (generator 2 (0x01 ∷ 0x1E ∷ 0xD8 ∷ 0xE7 ∷ 0x74 ∷ []))
    × Holds (sent 8 2 (0x10 ∷ 0x80 ∷ []) (0x10 ∷ 0x80 ∷ 0xF5 ∷ 0x4E ∷ 0xCD ∷ 0x57 ∷ 0xA5 ∷ []))
    × Holds (received 8 2 (0x00 ∷ 0x00 ∷ 0xF5 ∷ 0x4E ∷ 0xCD ∷ 0x57 ∷ 0xA5 ∷ []) Corrected 2 (0x10 ∷ 0x80 ∷ []) (0 ∷ 1 ∷ []))
    × Holds (received 0 1 (0x01 ∷ 0x06 ∷ 0x08 ∷ []) Clean 0 (0x01 ∷ []) [])
    × Holds (received 0 1 (0x01 ∷ 0x06 ∷ 0x00 ∷ []) Corrected 1 (0x01 ∷ []) (2 ∷ []))
    × Holds (received 0 1 (0x01 ∷ 0x0C ∷ 0x18 ∷ []) OutOfReach 0 (0x01 ∷ []) [])
    × Holds (received 8 0 (0x10 ∷ 0x80 ∷ 0xAF ∷ []) CheckFailed 0 (0x10 ∷ 0x80 ∷ []) [])
    × Holds (lengths 47 16 2 (told 53))
    × Holds (lengths 47 16 101 (told 251))
    × Holds (lengths 47 16 104 (refused 2))
    × Holds (channels (channel (times 2) 1 (list until_closing (channel (times 1) 2 (channel (times 2) 3 none)) none)) 8 (1 ∷ 1 ∷ 2 ∷ 3 ∷ 3 ∷ 2 ∷ 3 ∷ 3 ∷ []))
