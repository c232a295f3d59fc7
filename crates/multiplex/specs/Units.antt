-- Finished units, and the list that the demultiplexer writes of them: three numbers to a unit (document 01, "Demultiplexer").
--
--   UnitOn             a unit, and the channel that it is on
--   units_on n l        the units of l that are on channel n, in order
--   listed n a b       what is noted of a unit: its channel, start and length
--   unit_at l j         what the list l has of unit j, counted from 0, if it goes so far
--   unit_in o l         the unit that the list tells of, as it stands in the output o
--   units_in            the units that a call's list tells of, as they stand in its output
--   enough_output       an output of so many octets is never too small: a unit that was held, and a payload's other octets (the claim RoomEnough)
--   enough_units        .. nor a list of so many numbers: each octet of a payload may be a unit
--
-- Assumes nothing.
use Rattle.std.specs.Prelude.{cond, List, [], ◌∷◌, ℕ, zero, suc, ◌+◌, ◌*◌, ◌/◌, eqb, leb, length, get_or, take, drop, Option, Some, None}
use Rattle.table.specs.Table.{longest_payload}
use Rattle.channels.specs.Channels.{place_octets}
use Rattle.multiplex.specs.declared.units.Unit.{Unit}

pub record UnitOn : Type 0 where
  pub channel : ℕ
  pub octets : List ℕ

unfoldable pub units_on : ℕ → List UnitOn → List (List ℕ)
units_on n [] = []
units_on n (u ∷ l) = cond (eqb u.channel n) (u.octets ∷ units_on n l) (units_on n l)

abbrev pub listed : (channel start len : ℕ) → List ℕ
listed n a b = n ∷ a ∷ b ∷ []

unfoldable pub unit_at : List ℕ → ℕ → Option Unit
unit_at l j = cond (leb (length l / 3) j) None (Some (record { channel = record { 0 = get_or l (3 * j) 0 }; start = get_or l (3 * j + 1) 0; length = get_or l (3 * j + 2) 0 }))

abbrev pub unit_in : (output : List ℕ) → Option Unit → UnitOn
unit_in output (Some u) = record { channel = u.channel.0; octets = take u.length (drop u.start output) }
unit_in output None = record { channel = 0; octets = [] }

unfoldable pub units_in : (output units : List ℕ) → (count : ℕ) → List UnitOn
units_in output units zero = []
units_in output units (suc k) =
    record { channel = get_or units 0 0; octets = take (get_or units 2 0) (drop (get_or units 1 0) output) } ∷ units_in output (drop 3 units) k

abbrev pub enough_output : ℕ
enough_output = place_octets + longest_payload

abbrev pub enough_units : ℕ
enough_units = 3 * longest_payload
