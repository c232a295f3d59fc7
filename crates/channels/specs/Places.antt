-- What the searches for channels go by, and what they find.
--
--   no_number     a number that no channel has
--   number_of c   c's number for a search; where c is not open, that one
--   place_in s n  the place of the open channel n, if it is open
--   free_in s     the first free place, if there is one
--
-- Assumes nothing.
use Rattle.std.specs.Prelude.{cond, ℕ, ltb, Option, Some, None}
use Rattle.channels.specs.declared.Channel.{Channel}
use Rattle.channels.specs.declared.Channels.{Channels}
use Rattle.channels.specs.Channels.{place_count, place_of, free_place, is_in}

abbrev pub no_number : ℕ
no_number = 65536

abbrev pub number_of : Channel → ℕ
number_of c = cond c.«open» c.number.0 no_number

abbrev pub place_in : Channels → ℕ → Option ℕ
place_in s n = cond (is_in s n) (Some (place_of s n)) None

abbrev pub free_in : Channels → Option ℕ
free_in s = cond (ltb (free_place s) place_count) (Some (free_place s)) None
