-- A record's trailer (document 02, ticket 1), and the record. The units of a call are given the latest first.
--
--   insert c cs         the ascending numbers cs with c among them
--   used past           the channels of the units, each once, ascending
--   units_on c past      how many units are on channel c
--   damaged_on c past    .. and how many of them have badge 2 or 3
--   place_widths         a place's channel in 2 octets, last offset 4, units 4, damaged units 4
--   place c p n d       the octets of a place
--   place_of past c      .. of channel c
--   unused              .. of none
--   most_channels        how many places there are
--   places past         all of them: the used ones ascending, then those that are not used
--   mark                48 32 32 33
--   trailer_of past      the places, the number of units and of the octets before the trailer, and the mark
--   trailer_octets       the trailer's octets
--   most_before          the most octets before it
--   record_of us         the record of the units us, in their order
--
-- Assumes nothing.
use Rattle.std.specs.Prelude.{cond, ◌&&◌, List, [], ◌∷◌, ◌++◌, reverse, ℕ, suc, ◌-◌, eqb, ltb, length, replicate}
use Rattle.octets.specs.High.{fields}
use Rattle.record.specs.Recorded.{Recorded, is_damaged, flat}
use Rattle.record.specs.Layout.{total, no_offset, last, body_of}

unfoldable pub insert : ℕ → List ℕ → List ℕ
insert c [] = c ∷ []
insert c (x ∷ cs) = cond (ltb x c) (x ∷ insert c cs) (cond (eqb x c) (x ∷ cs) (c ∷ x ∷ cs))

unfoldable pub used : List Recorded → List ℕ
used [] = []
used (u ∷ past) = insert u.channel (used past)

unfoldable pub units_on : ℕ → List Recorded → ℕ
units_on c [] = 0
units_on c (u ∷ past) = cond (eqb u.channel c) (suc (units_on c past)) (units_on c past)

unfoldable pub damaged_on : ℕ → List Recorded → ℕ
damaged_on c [] = 0
damaged_on c (u ∷ past) = cond (eqb u.channel c && is_damaged u) (suc (damaged_on c past)) (damaged_on c past)

abbrev pub place_widths : List ℕ
place_widths = 2 ∷ 4 ∷ 4 ∷ 4 ∷ []

abbrev pub place : ℕ → ℕ → ℕ → ℕ → List ℕ
place c p n d = fields place_widths (c ∷ p ∷ n ∷ d ∷ [])

abbrev pub place_of : List Recorded → ℕ → List ℕ
place_of past c = place c (last c past) (units_on c past) (damaged_on c past)

abbrev pub unused : List ℕ
unused = place 0 no_offset 0 0

abbrev pub most_channels : ℕ
most_channels = 16

abbrev pub places : List Recorded → List ℕ
places past = flat (place_of past) (used past) ++ flat (λ (none : List ℕ). none) (replicate (most_channels - length (used past)) unused)

abbrev pub mark : List ℕ
mark = 72 ∷ 50 ∷ 50 ∷ 51 ∷ []

abbrev pub trailer_of : List Recorded → List ℕ
trailer_of past = places past ++ (fields (4 ∷ 4 ∷ []) (length past ∷ total past ∷ []) ++ mark)

abbrev pub trailer_octets : ℕ
trailer_octets = 236

abbrev pub most_before : ℕ
most_before = 1048576

abbrev pub record_of : List Recorded → List ℕ
record_of us = body_of us ++ trailer_of (reverse us)
