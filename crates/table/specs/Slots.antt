-- The expansion of an entry (000, 6.4.1.1; document 01, "Multiplex table"): its slots, and the channel of each octet of a payload.
--
--   Slot            octets in a row of one channel, that one pass of a channel element gives
--   passes n r      how often an element is passed for a payload of n octets: until closing is n times, since each pass has an octet at least
--   copies n l      l, n times over
--   slots n l       the slots of the elements l, for a payload of n octets: a channel's one slot, an inner list's as often as it is passed
--   cut n l         the first n octets of the slots l: the last slot may be cut short
--   entry_slots l n  the slots of a payload of n octets under the entry l, of fewer where the entry is shorter
--   payload_slots s n   .. under the entry that has the numbers s
--   octets_of l      how many octets the slots l have
--   numbers_of l     the channel of each slot
--   lengths_of l     .. and how many octets each has
--   channels_of l    the channel of each of them
--
-- Assumes nothing.
use Rattle.std.specs.Prelude.{cond, List, [], ◌∷◌, ◌++◌, map, ℕ, zero, suc, ◌+◌, ◌-◌, min, eqb}
use Rattle.table.specs.Entry.{Count, times, until_closing, Elements, none, channel, list}
use Rattle.table.specs.Form.{tree_of}

pub record Slot : Type 0 where
  pub channel : ℕ
  pub octets : ℕ

abbrev pub passes : ℕ → Count → ℕ
passes n (times k) = k
passes n until_closing = n

unfoldable pub copies : {A : Type 0} → ℕ → List A → List A
copies zero l = []
copies (suc n) l = l ++ copies n l

unfoldable pub slots : ℕ → Elements → List Slot
slots n none = []
slots n (channel r c l) = record { channel = c; octets = passes n r } ∷ slots n l
slots n (list r i l) = copies (passes n r) (slots n i) ++ slots n l

unfoldable pub cut : ℕ → List Slot → List Slot
cut n [] = []
cut n (x ∷ l) = cond (eqb n 0) [] (record { channel = x.channel; octets = min x.octets n } ∷ cut (n - x.octets) l)

abbrev pub entry_slots : Elements → ℕ → List Slot
entry_slots l n = cut n (slots n l)

unfoldable pub payload_slots : List ℕ → ℕ → List Slot
payload_slots s n = entry_slots (tree_of s) n

unfoldable pub octets_of : List Slot → ℕ
octets_of [] = 0
octets_of (x ∷ l) = x.octets + octets_of l

abbrev pub numbers_of : List Slot → List ℕ
numbers_of = map (λ (x : Slot). x.channel)

abbrev pub lengths_of : List Slot → List ℕ
lengths_of = map (λ (x : Slot). x.octets)

unfoldable pub channels_of : List Slot → List ℕ
channels_of [] = []
channels_of (x ∷ l) = copies x.octets (x.channel ∷ []) ++ channels_of l
