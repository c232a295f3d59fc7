-- The octets of a record's units (document 02, ticket 1): each unit's header and its octets, the units in order.
--
--   header_widths, header_octets   a unit's channel in 2 octets, badge 1, changed count 1, length 2, back offset 4: ten octets
--   header c b k n p    the header of a unit on channel c with badge b, changed count k, n octets and back offset p
--   size u              the octets that a unit takes
--   total us            .. and that the units us take
--   no_offset            FFFFFFFF: there is no unit
--   last c past         the offset of the latest unit on channel c, of the units `past`, which have the latest first; FFFFFFFF where there is none
--   Stored              a unit with its back offset
--   stored_octets p      its octets
--   laid l              the octets of a list of them
--   backed past us      the units us, each with the offset of its channel's previous unit; those before them are `past`, the latest first
--   body_of us           the octets of the units us: all that stands before the trailer
--
-- Assumes nothing.
use Rattle.std.specs.Prelude.{cond, List, [], ◌∷◌, ◌++◌, ℕ, ◌+◌, eqb, length}
use Rattle.octets.specs.High.{fields, widths}
use Rattle.record.specs.Recorded.{Recorded, flat}

abbrev pub header_widths : List ℕ
header_widths = 2 ∷ 1 ∷ 1 ∷ 2 ∷ 4 ∷ []

abbrev pub header_octets : ℕ
header_octets = widths header_widths

abbrev pub header : ℕ → ℕ → ℕ → ℕ → ℕ → List ℕ
header c b k n p = fields header_widths (c ∷ b ∷ k ∷ n ∷ p ∷ [])

abbrev pub size : Recorded → ℕ
size u = header_octets + length u.octets

unfoldable pub total : List Recorded → ℕ
total [] = 0
total (u ∷ us) = total us + size u

abbrev pub no_offset : ℕ
no_offset = 4294967295

unfoldable pub last : ℕ → List Recorded → ℕ
last c [] = no_offset
last c (u ∷ past) = cond (eqb u.channel c) (total past) (last c past)

pub record Stored : Type 0 where
  pub back : ℕ
  pub unit : Recorded

abbrev pub stored_octets : Stored → List ℕ
stored_octets p = header p.unit.channel p.unit.badge p.unit.changed (length p.unit.octets) p.back ++ p.unit.octets

abbrev pub laid : List Stored → List ℕ
laid = flat stored_octets

unfoldable pub backed : List Recorded → List Recorded → List Stored
backed past [] = []
backed past (u ∷ us) = record { back = last u.channel past; unit = u } ∷ backed (u ∷ past) us

abbrev pub body_of : List Recorded → List ℕ
body_of us = laid (backed [] us)
