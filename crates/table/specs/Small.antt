-- What of document 01's small set concerns the multiplex table, by computation.
--
--   a10      A10's entry: [channel 1 twice, [channel 2 once, channel 3 twice] until closing]
--   small    A10: it is an entry, its numbers are these and are an entry, and the channels of a payload of 8 octets are 1 1 2 3 3 2 3 3
--   beside, twice   [channel 1 once, channel 1 twice] and [[channel 1 once, channel 2 once] twice, channel 3 once]
--   apart    the slots of one channel are not joined, and a list is passed where it stands: 3 octets are 1 and 2, 2 are 1 and 1; and 1 2 1 2 3
--
-- Assumes nothing.
use Rattle.std.specs.Prelude.{◌≡◌, refl, true, [], ◌∷◌}
use Rattle.table.specs.Entry.{times, until_closing, Elements, none, channel, list, size, all_elements, depth, is_list, is_entry_tree, element_numbers, numbers}
use Rattle.table.specs.Cursor.{many, head_at, element_at, skip}
use Rattle.table.specs.Form.{in_turn, element_as, list_as, tree_of, is_entry}
use Rattle.table.specs.Slots.{copies, slots, cut, entry_slots, payload_slots, lengths_of, channels_of}

abbrev pub a10 : Elements
a10 = channel (times 2) 1 (list until_closing (channel (times 1) 2 (channel (times 2) 3 none)) none)

-- two elements of one channel; and a list, twice, before a channel
abbrev pub beside : Elements
beside = channel (times 1) 1 (channel (times 2) 1 none)

abbrev pub twice : Elements
twice = list (times 2) (channel (times 1) 1 (channel (times 1) 2 none)) (channel (times 1) 3 none)

pub apart :
    (lengths_of (entry_slots beside 3) ≡ 1 ∷ 2 ∷ [])
    × (lengths_of (entry_slots beside 2) ≡ 1 ∷ 1 ∷ [])
    × (channels_of (entry_slots twice 5) ≡ 1 ∷ 2 ∷ 1 ∷ 2 ∷ 3 ∷ [])
unfolding copies slots cut channels_of
apart = (refl, refl, refl)

pub small : (is_entry_tree a10 ≡ true) × (numbers a10 ≡ 2 ∷ 2 ∷ 0 ∷ 1 ∷ 0 ∷ 2 ∷ 1 ∷ 0 ∷ 2 ∷ 2 ∷ 0 ∷ 3 ∷ []) × (is_entry (numbers a10) ≡ true)
    × (channels_of (entry_slots a10 8) ≡ 1 ∷ 1 ∷ 2 ∷ 3 ∷ 3 ∷ 2 ∷ 3 ∷ 3 ∷ []) × (payload_slots (numbers a10) 8 ≡ entry_slots a10 8)
unfolding size all_elements depth is_list is_entry_tree element_numbers many head_at element_at skip in_turn element_as list_as tree_of is_entry
    copies slots cut payload_slots channels_of
small = (refl, refl, refl, refl, refl)
