-- The channels (document 01, "Demultiplexer"): places, and beside them the octets that are held and those that wait, so many to a place.
--
--   place_count        how many channels may be open (16)
--   place_octets       the octets of a place: the most that a channel may hold, and the most that may wait (1,024)
--   all_octets         .. of all the places
--   vacant            a place that is free
--   fresh n g         channel n just opened, segmentable or not
--   start             the channels at first: channel 0 is open and segmentable
--   is_channel n c     c is channel n
--   is_free c          no channel is open at c
--   place_of s n       the place of the open channel n, or `place_count`
--   free_place s       the first free place, or `place_count`
--   is_in s n          channel n is open
--   all_open s l       every channel of the numbers l is
--   channel_at s p     the channel at place p
--   put s p c         the channels with c at place p
--   holding c k       c with k octets held
--   waiting c k       .. with k waiting
--   numbering c m     .. with the AL2 numbers m
--   held_of s h p      the octets that place p holds; they stand at the front of its octets
--   waits c           how many octets wait at c
--   waiting_from c p   where they stand: at the end of its octets, so that what is sent leaves at the front
--   waiting_of s w p   the octets that wait at place p
--   open_tests, close_tests, reset_tests, post_tests   what refuses each call, in this order
--   opened, closed, reset   how these calls end
--   Post              what posting leaves: the channels, and the octets that wait
--   posted            how posting ends
--   Posts             .. as the method answers, and leaves the channels and the octets that wait
--
-- Assumes nothing.
use Rattle.std.specs.Prelude.{◌≡◌, Bool, true, false, cond, not, ◌&&◌, List, [], ◌∷◌, ℕ, ◌+◌, ◌*◌, ◌-◌, min, leb, ltb, eqb, length, get_or, set, take, drop, replicate, Result}
use Rattle.octets.specs.Written.{written}
use Rattle.calls.specs.Refusal.{Ended, ended, leaving, refusing, Test, ◌when◌, checked, says}
use Rattle.calls.specs.declared.Refusal.{Refusal}
use Rattle.adaptation.specs.Handed.{is_unit}
use Rattle.adaptation.specs.AL2.{first_numbers}
use Rattle.adaptation.specs.declared.al2.Numbers.{Numbers}
use Rattle.channels.specs.declared.Channel.{Channel}
use Rattle.channels.specs.declared.Channels.{Channels}
use Rattle.channels.specs.Search.{first}

abbrev pub place_count : ℕ
place_count = 16

abbrev pub place_octets : ℕ
place_octets = 1024

abbrev pub all_octets : ℕ
all_octets = place_count * place_octets

abbrev pub vacant : Channel
vacant = record { «open» = false; segmentable = false; number = record { 0 = 0 }; held = 0; waiting = 0; numbers = first_numbers }

abbrev pub fresh : ℕ → Bool → Channel
fresh n g = record { «open» = true; segmentable = g; number = record { 0 = n }; held = 0; waiting = 0; numbers = first_numbers }

unfoldable pub start : Channels
start = record { at = fresh 0 true ∷ replicate (place_count - 1) vacant }

-- ---- places

abbrev pub is_channel : ℕ → Channel → Bool
is_channel n c = cond c.«open» (eqb c.number.0 n) false

abbrev pub is_free : Channel → Bool
is_free c = not c.«open»

unfoldable pub place_of : Channels → ℕ → ℕ
place_of s n = first (is_channel n) s.at

unfoldable pub free_place : Channels → ℕ
free_place s = first is_free s.at

abbrev pub is_in : Channels → ℕ → Bool
is_in s n = ltb (place_of s n) place_count

unfoldable pub all_open : Channels → List ℕ → Bool
all_open s [] = true
all_open s (n ∷ l) = is_in s n && all_open s l

abbrev pub channel_at : Channels → ℕ → Channel
channel_at s p = get_or s.at p vacant

abbrev pub put : Channels → ℕ → Channel → Channels
put s p c = record { at = set s.at p c }

-- ---- what a place has

abbrev pub holding : Channel → ℕ → Channel
holding c k =
    record { «open» = c.«open»; segmentable = c.segmentable; number = c.number; held = k; waiting = c.waiting; numbers = c.numbers }

abbrev pub waiting : Channel → ℕ → Channel
waiting c k =
    record { «open» = c.«open»; segmentable = c.segmentable; number = c.number; held = c.held; waiting = k; numbers = c.numbers }

abbrev pub numbering : Channel → Numbers → Channel
numbering c m = record { «open» = c.«open»; segmentable = c.segmentable; number = c.number; held = c.held; waiting = c.waiting; numbers = m }

abbrev pub held_of : Channels → List ℕ → ℕ → List ℕ
held_of s h p = take (channel_at s p).held (drop (place_octets * p) h)

-- no state that calls lead to has more than a place has; if one is made up, it counts as that
abbrev pub waits : Channel → ℕ
waits c = min c.waiting place_octets

abbrev pub waiting_from : Channel → ℕ → ℕ
waiting_from c p = place_octets * p + (place_octets - waits c)

abbrev pub waiting_of : Channels → List ℕ → ℕ → List ℕ
waiting_of s w p = take (waits (channel_at s p)) (drop (waiting_from (channel_at s p) p) w)

-- ---- the calls

abbrev pub open_tests : Channels → ℕ → List Test
open_tests s n = 13 when is_in s n ∷ 12 when leb place_count (free_place s) ∷ []

unfoldable pub opened : Channels → ℕ → Bool → Ended (Unit {0}) Channels
opened s n g = checked (refusing s) (open_tests s n) (leaving tt (put s (free_place s) (fresh n g)))

abbrev pub close_tests : Channels → ℕ → List Test
close_tests s n = 5 when not (is_in s n) ∷ 14 when eqb n 0 ∷ []

unfoldable pub closed : Channels → ℕ → Ended (Unit {0}) Channels
closed s n = checked (refusing s) (close_tests s n) (leaving tt (put s (place_of s n) vacant))

abbrev pub reset_tests : Channels → ℕ → List Test
reset_tests s n = 5 when not (is_in s n) ∷ []

unfoldable pub reset : Channels → ℕ → Ended (Unit {0}) Channels
reset s n = checked (refusing s) (reset_tests s n) (leaving tt (put s (place_of s n) (numbering (holding (channel_at s (place_of s n)) 0) first_numbers)))

pub record Post : Type 0 where
  pub channels : Channels
  pub octets : List ℕ

abbrev pub post_tests : Channels → ℕ → List ℕ → List Test
post_tests s n u =
    2 when not (is_unit place_octets u)
    ∷ 5 when not (is_in s n)
    ∷ 11 when leb 1 (channel_at s (place_of s n)).waiting
    ∷ []

unfoldable pub posted : Channels → List ℕ → ℕ → List ℕ → Ended (Unit {0}) Post
posted s w n u =
    checked (refusing (record { channels = s; octets = w })) (post_tests s n u)
    (leaving tt (record {
      channels = put s (place_of s n) (waiting (channel_at s (place_of s n)) (length u));
      octets = written w (place_octets * place_of s n + (place_octets - length u)) u;
    }))

abbrev pub Posts : Channels → List ℕ → (n : ℕ) → (unit : List ℕ) → Result (Unit {0}) Refusal → Channels → List ℕ → Type 0
Posts s w n u r t v = ended (says r) (record { channels = t; octets = v }) ≡ posted s w n u
