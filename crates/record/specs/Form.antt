-- A record's form in the ticket's words (document 02, ticket 1), number by number and offset by offset. What defines the record
-- (specs/Recorded.antt, specs/Layout.antt, specs/Trailer.antt) is held to it; `formed` in proofs/Formed.antt has the proof of each claim.
--
--   number_at k s at      the number in the k octets of s from offset `at` on, the high octet first
--   offset us            the offset behind the units us: ten octets and its own of each
--   HasOn c us, NoneOn c us   a unit of us is on channel c; none is
--   on_channel c us       those that are
--   with_badge b us       those with badge b
--   Among c cs           c is one of cs
--   Rising cs            the numbers cs ascend
--   Channels us cs       cs are the channels of the units us, each once, ascending
--   NumbersAre           which number octets are
--   UnitStands           a unit stands at an offset of s, with a back offset
--   EachStands s us      each of the units us does in s, with the offset of its channel's previous unit or FFFFFFFF
--   UnitsStand           .. in their record
--   PlaceStands          a channel's place of the trailer stands at an offset of s
--   unused_place          the octets of a place that is not used
--   TrailerStands        the trailer stands behind the units
--   TrailersStand        .. in each record
--   InWords b k n        the ranges of a unit's badge, changed count and length
--   RangesAre            what is in range, and of a list
--   ListsAre             the numbers and the octets of a list, unit by unit
--   AddsUp n m           numbers n that are those of units in range, whose lengths add up to m
--   WholeExactly         which numbers and octets are those of a list
--   TakenExactly         which lists the writer takes
--   EmptyRecord          the record of no units
--   FirstTwelve          the first twelve octets of the ticket's example
--   FormOnly             octets in which units and trailer stand so are the record
--   Formed               all of it
--
-- Assumes nothing.
use Rattle.std.specs.Prelude.{◌≡◌, ◌↔◌, ◌⊎◌, cond, List, [], ◌∷◌, ◌++◌, ℕ, ◌+◌, ◌-◌, ◌*◌, ◌≤◌, ◌<◌, eqb, length, get_or, take, drop, replicate}
use Rattle.octets.specs.High.{worth}
use Rattle.record.specs.Recorded.{Recorded, InRange, AllInRange, flat, numbers_of, octets_of, Lent}
use Rattle.record.specs.Trailer.{record_of}
use Rattle.record.specs.Call.{Taken}

abbrev pub number_at : ℕ → List ℕ → ℕ → ℕ
number_at k s at = worth (take k (drop at s))

unfoldable pub offset : List Recorded → ℕ
offset [] = 0
offset (u ∷ us) = 10 + length u.octets + offset us

abbrev pub HasOn : ℕ → List Recorded → Type 0
HasOn c [] = ⊥
HasOn c (u ∷ us) = (u.channel ≡ c) ⊎ HasOn c us

abbrev pub NoneOn : ℕ → List Recorded → Type 0
NoneOn c us = HasOn c us → ⊥

unfoldable pub on_channel : ℕ → List Recorded → List Recorded
on_channel c [] = []
on_channel c (u ∷ us) = cond (eqb u.channel c) (u ∷ on_channel c us) (on_channel c us)

unfoldable pub with_badge : ℕ → List Recorded → List Recorded
with_badge b [] = []
with_badge b (u ∷ us) = cond (eqb u.badge b) (u ∷ with_badge b us) (with_badge b us)

abbrev pub Among : ℕ → List ℕ → Type 0
Among c cs = (i : ℕ) × (i < length cs) × (get_or cs i 0 ≡ c)

abbrev pub Rising : List ℕ → Type 0
Rising cs = (i j : ℕ) → i < j → j < length cs → get_or cs i 0 < get_or cs j 0

pub record Channels (us : List Recorded) (cs : List ℕ) : Type 0 where
  pub rising : Rising cs
  pub exactly : (c : ℕ) → Among c cs ↔ HasOn c us

-- the number that is read, with its high octet first
abbrev pub NumbersAre : Type 0
NumbersAre =
    (a b c d : ℕ)
    → (worth (a ∷ []) ≡ a) × (worth (a ∷ b ∷ []) ≡ a * 256 + b) × (worth (a ∷ b ∷ c ∷ d ∷ []) ≡ ((a * 256 + b) * 256 + c) * 256 + d)

-- ---- "Unit: channel (2 octets), badge (1), changed count (1), length 1 to 1,024 (2), offset of the same channel's previous unit or
-- FFFFFFFF (4), then the octets; numbers high octet first."

pub record UnitStands (s : List ℕ) (at back : ℕ) (u : Recorded) : Type 0 where
  pub channel_stands : number_at 2 s at ≡ u.channel
  pub badge_stands : number_at 1 s (at + 2) ≡ u.badge
  pub changed_stands : number_at 1 s (at + 3) ≡ u.changed
  pub length_stands : number_at 2 s (at + 4) ≡ length u.octets
  pub back_stands : number_at 4 s (at + 6) ≡ back
  pub octets_stand : take (length u.octets) (drop (at + 10) s) ≡ u.octets

-- every unit of us stands in s, with the offset of its channel's previous unit
pub record EachStands (s : List ℕ) (us : List Recorded) : Type 0 where
  pub first : (front rest : List Recorded) (u : Recorded) → us ≡ front ++ u ∷ rest → NoneOn u.channel front
      → UnitStands s (offset front) 4294967295 u
  pub later : (a b rest : List Recorded) (v u : Recorded) → us ≡ (a ++ v ∷ b) ++ u ∷ rest → v.channel ≡ u.channel → NoneOn u.channel b
      → UnitStands s (offset (a ++ v ∷ b)) (offset a) u

abbrev pub UnitsStand : Type 0
UnitsStand = (us : List Recorded) → Taken us → EachStands (record_of us) us

-- ---- "The trailer is 236 octets: 16 places of channel (2), offset of its last unit (4), units (4), units with badge 2 or 3 (4), used places
-- first and ascending, unused ones 0000 FFFFFFFF and zeros; then total units (4), octets before the trailer (4, ..), and 48 32 32 33."

pub record PlaceStands (s : List ℕ) (at c : ℕ) (us : List Recorded) : Type 0 where
  pub channel_stands : number_at 2 s at ≡ c
  pub last_stands : (a b : List Recorded) (v : Recorded) → us ≡ a ++ v ∷ b → v.channel ≡ c → NoneOn c b → number_at 4 s (at + 2) ≡ offset a
  pub units_stand : number_at 4 s (at + 6) ≡ length (on_channel c us)
  pub damaged_stand : number_at 4 s (at + 10) ≡ length (with_badge 2 (on_channel c us)) + length (with_badge 3 (on_channel c us))

abbrev pub unused_place : List ℕ
unused_place = 0 ∷ 0 ∷ 255 ∷ 255 ∷ 255 ∷ 255 ∷ replicate 8 0

pub record TrailerStands (s : List ℕ) (at : ℕ) (us : List Recorded) : Type 0 where
  pub long : length s ≡ at + 236
  pub channels : List ℕ
  pub channels_are : Channels us channels
  pub few : length channels ≤ 16
  pub used_places : (j : ℕ) → j < length channels → PlaceStands s (at + 14 * j) (get_or channels j 0) us
  pub unused_places : (j : ℕ) → length channels ≤ j → j < 16 → take 14 (drop (at + 14 * j) s) ≡ unused_place
  pub units_stand : number_at 4 s (at + 224) ≡ length us
  pub before_stands : number_at 4 s (at + 228) ≡ at
  pub mark_stands : take 4 (drop (at + 232) s) ≡ 72 ∷ 50 ∷ 50 ∷ 51 ∷ []

abbrev pub TrailersStand : Type 0
TrailersStand = (us : List Recorded) → Taken us → TrailerStands (record_of us) (offset us) us

-- ---- "length 1 to 1,024 .. Badges are 0 to 4; changed is 1 to 127 for badge 1, 0 to 127 for badge 3, else 0."

-- of badge b, changed count k and length n
abbrev pub InWords : ℕ → ℕ → ℕ → Type 0
InWords b k n =
    (1 ≤ n) × (n ≤ 1024)
    × (((b ≡ 1) × (1 ≤ k) × (k ≤ 127)) ⊎ (((b ≡ 3) × (k ≤ 127)) ⊎ (((b ≡ 0) ⊎ ((b ≡ 2) ⊎ (b ≡ 4))) × (k ≡ 0))))

pub record RangesAre : Type 0 where
  pub no_units : AllInRange []
  pub more_units : (u : Recorded) (us : List Recorded) → AllInRange (u ∷ us) ↔ (InRange u × AllInRange us)
  pub one : (u : Recorded) → InRange u ↔ ((u.channel < 65536) × ((i : ℕ) → get_or u.octets i 0 < 256) × InWords u.badge u.changed (length u.octets))

-- ---- a list as it is lent

pub record ListsAre : Type 0 where
  pub no_numbers : numbers_of [] ≡ []
  pub no_octets : octets_of [] ≡ []
  pub numbers : (u : Recorded) (us : List Recorded) → numbers_of (u ∷ us) ≡ u.channel ∷ u.badge ∷ u.changed ∷ length u.octets ∷ numbers_of us
  pub octets : (u : Recorded) (us : List Recorded) → octets_of (u ∷ us) ≡ u.octets ++ octets_of us
  pub lent : (us : List Recorded) (n o : List ℕ) → Lent us n o ↔ ((n ≡ numbers_of us) × (o ≡ octets_of us))

-- the numbers n are four to a unit, each unit is in range, and their lengths add up to m
abbrev pub AddsUp : List ℕ → ℕ → Type 0
AddsUp [] m = m ≡ 0
AddsUp (c ∷ []) m = ⊥
AddsUp (c ∷ b ∷ []) m = ⊥
AddsUp (c ∷ b ∷ k ∷ []) m = ⊥
AddsUp (c ∷ b ∷ k ∷ l ∷ n) m = InWords b k l × (l ≤ m) × AddsUp n (m - l)

-- of numbers of 16 bits, and octets
abbrev pub WholeExactly : Type 0
WholeExactly =
    (n o : List ℕ) → ((i : ℕ) → get_or n i 0 < 65536) → ((i : ℕ) → get_or o i 0 < 256)
    → ((us : List Recorded) × Lent us n o × AllInRange us) ↔ AddsUp n (length o)

-- "octets before the trailer (.. at most 1,048,576)", "12 for a seventeenth channel"
abbrev pub TakenExactly : Type 0
TakenExactly =
    (us : List Recorded)
    → Taken us ↔ (AllInRange us × ((cs : List ℕ) × Channels us cs × (length cs ≤ 16)) × (offset us ≤ 1048576))

-- ---- the two examples: "the 16 unused places, eight zero octets and the mark"; "begins 00 05 00 00 00 02 FF FF FF FF 10 80"

abbrev pub EmptyRecord : Type 0
EmptyRecord =
    record_of [] ≡ flat (λ (l : List ℕ). l) (replicate 16 unused_place) ++ (replicate 8 0 ++ 72 ∷ 50 ∷ 50 ∷ 51 ∷ [])

abbrev pub FirstTwelve : Type 0
FirstTwelve =
    take 12 (record_of (record { channel = 5; badge = 0; changed = 0; octets = 16 ∷ 128 ∷ [] } ∷ []))
    ≡ 0 ∷ 5 ∷ 0 ∷ 0 ∷ 0 ∷ 2 ∷ 255 ∷ 255 ∷ 255 ∷ 255 ∷ 16 ∷ 128 ∷ []

-- ---- and nothing else has this form

abbrev pub FormOnly : Type 0
FormOnly =
    (us : List Recorded) (s : List ℕ) → Taken us → ((i : ℕ) → get_or s i 0 < 256) → EachStands s us → TrailerStands s (offset us) us → s ≡ record_of us

pub record Formed : Type 0 where
  pub octets : (us : List Recorded) → Taken us → (i : ℕ) → get_or (record_of us) i 0 < 256
  pub only : FormOnly
  pub units_stand : UnitsStand
  pub trailers_stand : TrailersStand
  pub numbers_are : NumbersAre
  pub ranges_are : RangesAre
  pub lists_are : ListsAre
  pub whole_exactly : WholeExactly
  pub taken_exactly : TakenExactly
  pub empty : EmptyRecord
  pub first_twelve : FirstTwelve
