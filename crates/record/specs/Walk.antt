-- What the steps of writing and reading promise to each other. No host calls them.
--
--   rank c cs          how many of the numbers cs stand before the first that is not below c
--   fresh c            `Place` of the channel c before any unit of it; of channel 0 also one that is not used
--   kept past c        .. of the channel c, with what there is to tell of it in the units `past`, the latest first
--   noted q at b       .. q with one unit more, with badge b at offset `at`
--   place_octets q     its octets
--   all_places cs past   those of the channels cs, and the ones that are not used
--   PlacesAre cs past p  `Places` has them
--   rank_in p c        how many used places of p stand before the first whose channel is not below c
--   place_in p c       the place that stands there
--   noted_in p c at b  the places of p with one unit more noted there
--   CanNote p c        it is a place, and its counts can go on
--   Inserts p c r q    the places p are given one for the channel c, and are q, before any unit; or they would be more than 16
--   PlacesBy n r       r has the channels of the units that have the numbers n, or says that they are more than 16
--   trailer_from p n m   a trailer from the places, of n units in m octets
--   numbers_in v       a unit's four numbers
--   head_numbers h     the five numbers of a header
--   head h             .. and its octets
--   HeaderIs l h       the octets l are the header h
--   Listed n o         n and o are the numbers and octets of units that are in range
--   LentIs n o l       l is such a list, lent as n and o; nothing where they are none
--   before_of n o       the octets that units of the numbers n and the octets o take
--   Before n o r       r is that many, or says that a record may not have so many
--   Ready n o p room   .. they are, p has their channels' places, they take no more octets than a record may have, and there is room for them
--   Wrote n o b a p    the units are written over b, which gives a, and p has what there is to tell of them
--   units_of ps         the units of stored units
--   AllStored ps       each is in range, and its back offset has four octets
--   Fits ps b          b is the octets of the stored units ps, which are in range and on at most 16 channels
--   channels_of ps     their channels
--   SurveyIs b s       s is how many stored units b has, and their channels' places; nothing where b is no such octets
--   Surveyed b p       b is such octets, no more than a record may have, and p has their channels' places
--   BacksAre ps c      c has what there is to tell of the stored units ps, where their back offsets are right; nothing where they are not
--   CheckedIs b c      .. of those that b has
--   FoundIs s f        f is how many units the record s has; nothing where s is no record
--   Deliverable b k n o  b is the octets of k stored units, and there is room for them
--   Delivered b n o m p   their numbers are written over n, which gives m, and their octets over o, which gives p
--
-- Assumes nothing.
use Rattle.std.specs.Prelude.{◌≡◌, Option, Some, None, Result, Ok, Err, cond, ◌||◌, List, [], ◌∷◌, ◌++◌, map, reverse, ℕ, suc, ◌+◌, ◌-◌, ◌*◌, ◌/◌, ◌≤◌, ◌<◌, eqb, ltb, length, get_or, set, take, replicate}
use Rattle.octets.specs.High.{fields, Fit}
use Rattle.octets.specs.Written.{written}
use Rattle.calls.specs.declared.Refusal.{Refusal}
use Rattle.calls.specs.declared.Refusal.TheVariants.{NoPlace, BadLength}
use Rattle.record.specs.Recorded.{Recorded, InRange, AllInRange, flat, numbers_of, octets_of}
use Rattle.record.specs.Recorded as recorded
use Rattle.record.specs.Layout.{header_widths, header_octets, total, no_offset, last, Stored, laid, backed, body_of}
use Rattle.record.specs.Trailer.{insert, used, units_on, damaged_on, place, most_channels, mark, most_before}
use Rattle.record.specs.Call.{IsRecord}
use Rattle.record.specs.declared.place.Place.{Place}
use Rattle.record.specs.declared.places.Places.{Places}
use Rattle.record.specs.declared.reader.Survey.{Survey}
use Rattle.record.specs.declared.unit.Header.{Header}
use Rattle.record.specs.declared.unit.Numbers.{Numbers}
use Rattle.record.specs.declared.writer.Lent.{Lent}

-- ---- the channels' places

unfoldable pub rank : ℕ → List ℕ → ℕ
rank c [] = 0
rank c (x ∷ cs) = cond (ltb x c) (suc (rank c cs)) 0

abbrev pub fresh : ℕ → Place
fresh c = record { channel = c; last = no_offset; units = 0; damaged = 0 }

abbrev pub kept : List Recorded → ℕ → Place
kept past c = record { channel = c; last = last c past; units = units_on c past; damaged = damaged_on c past }

abbrev pub noted : Place → ℕ → ℕ → Place
noted q at b = record {
  channel = q.channel;
  last = at;
  units = q.units + 1;
  damaged = cond (eqb b 2 || eqb b 3) (q.damaged + 1) q.damaged;
}

abbrev pub place_octets : Place → List ℕ
place_octets q = place q.channel q.last q.units q.damaged

abbrev pub all_places : List ℕ → List Recorded → List Place
all_places cs past = map (kept past) cs ++ replicate (most_channels - length cs) (fresh 0)

pub record PlacesAre (cs : List ℕ) (past : List Recorded) (p : Places) : Type 0 where
  pub few : length cs ≤ most_channels
  pub count_is : p.count ≡ length cs
  pub all_are : p.all ≡ all_places cs past

abbrev pub rank_in : Places → ℕ → ℕ
rank_in p c = rank c (map (λ (q : Place). q.channel) (take p.count p.all))

abbrev pub place_in : Places → ℕ → Place
place_in p c = get_or p.all (rank_in p c) (fresh 0)

abbrev pub noted_in : Places → ℕ → ℕ → ℕ → List Place
noted_in p c at b = set p.all (rank_in p c) (noted (place_in p c) at b)

pub record CanNote (p : Places) (c : ℕ) : Type 0 where
  pub inside : rank_in p c < most_channels
  pub units_few : (place_in p c).units < no_offset
  pub damaged_few : (place_in p c).damaged < no_offset

abbrev pub Inserts : Places → ℕ → Result (Unit {0}) Refusal → Places → Type 0
Inserts p c (Ok _) q = (cs : List ℕ) → PlacesAre cs [] p → PlacesAre (insert c cs) [] q
Inserts p c (Err r) q = (r ≡ NoPlace) × ((cs : List ℕ) → PlacesAre cs [] p → most_channels < length (insert c cs))

abbrev pub PlacesBy : List ℕ → Result Places Refusal → Type 0
PlacesBy n (Ok p) = (us : List Recorded) → n ≡ numbers_of us → PlacesAre (used (reverse us)) [] p
PlacesBy n (Err r) = (r ≡ NoPlace) × ((us : List Recorded) → n ≡ numbers_of us → most_channels < length (used (reverse us)))

abbrev pub trailer_from : Places → ℕ → ℕ → List ℕ
trailer_from p n m = flat place_octets p.all ++ (fields (4 ∷ 4 ∷ []) (n ∷ m ∷ []) ++ mark)

-- ---- a unit's numbers, and its header

abbrev pub numbers_in : Numbers → List ℕ
numbers_in v = v.channel ∷ v.badge ∷ v.changed ∷ v.length ∷ []

abbrev pub head_numbers : Header → List ℕ
head_numbers h = h.numbers.channel ∷ h.numbers.badge ∷ h.numbers.changed ∷ h.numbers.length ∷ h.back ∷ []

abbrev pub head : Header → List ℕ
head h = fields header_widths (head_numbers h)

pub record HeaderIs (l : List ℕ) (h : Header) : Type 0 where
  pub fit : Fit header_widths (head_numbers h)
  pub octets : l ≡ head h

-- ---- writing

pub record Listed (n o : List ℕ) : Type 0 where
  pub list : List Recorded
  pub lent : recorded.Lent list n o
  pub ranges : AllInRange list

abbrev pub LentIs : List ℕ → List ℕ → Option Lent → Type 0
LentIs n o (Some l) = (l.numbers.now ≡ n) × (l.content.now ≡ o) × Listed l.numbers.now l.content.now
LentIs n o None = Listed n o → ⊥

abbrev pub before_of : List ℕ → List ℕ → ℕ
before_of n o = header_octets * (length n / 4) + length o

abbrev pub Before : List ℕ → List ℕ → Result ℕ Refusal → Type 0
Before n o (Ok m) = (m ≡ before_of n o) × (m ≤ most_before)
Before n o (Err r) = (r ≡ BadLength) × (most_before < before_of n o)

pub record Ready (n o : List ℕ) (p : Places) (room : ℕ) : Type 0 where
  pub list : List Recorded
  pub lent : recorded.Lent list n o
  pub ranges : AllInRange list
  pub places : PlacesAre (used (reverse list)) [] p
  pub short : total list ≤ most_before
  pub fits : total list ≤ room

pub record Wrote (n o before after : List ℕ) (p : Places) : Type 0 where
  pub list : List Recorded
  pub lent : recorded.Lent list n o
  pub ranges : AllInRange list
  pub body : after ≡ written before 0 (body_of list)
  pub places : PlacesAre (used (reverse list)) (reverse list) p

-- ---- reading

abbrev pub units_of : List Stored → List Recorded
units_of = map (λ (p : Stored). p.unit)

abbrev pub AllStored : List Stored → Type 0
AllStored [] = Unit {0}
AllStored (p ∷ ps) = (InRange p.unit × (p.back < 4294967296)) × AllStored ps

abbrev pub channels_of : List Stored → List ℕ
channels_of ps = used (reverse (units_of ps))

pub record Fits (ps : List Stored) (b : List ℕ) : Type 0 where
  pub octets : b ≡ laid ps
  pub ranges : AllStored ps
  pub few : length (channels_of ps) ≤ most_channels

pub record Surveyed (b : List ℕ) (p : Places) : Type 0 where
  pub list : List Stored
  pub fits : Fits list b
  pub places : PlacesAre (channels_of list) [] p
  pub short : length b ≤ most_before

abbrev pub SurveyIs : List ℕ → Option Survey → Type 0
SurveyIs b (Some s) = (ps : List Stored) × Fits ps b × PlacesAre (channels_of ps) [] s.places × (s.units ≡ length ps)
SurveyIs b None = (ps : List Stored) → Fits ps b → ⊥

abbrev pub BacksAre : List Stored → Option Places → Type 0
BacksAre ps (Some p) = (ps ≡ backed [] (units_of ps)) × PlacesAre (channels_of ps) (reverse (units_of ps)) p
BacksAre ps None = ps ≡ backed [] (units_of ps) → ⊥

pub record CheckedIs (b : List ℕ) (c : Option Places) : Type 0 where
  pub list : List Stored
  pub fits : Fits list b
  pub backs : BacksAre list c

abbrev pub FoundIs : List ℕ → Option ℕ → Type 0
FoundIs s (Some n) = (us : List Recorded) × IsRecord us s × (n ≡ length us)
FoundIs s None = (us : List Recorded) → IsRecord us s → ⊥

pub record Deliverable (b : List ℕ) (k : ℕ) (n o : List ℕ) : Type 0 where
  pub list : List Stored
  pub fits : Fits list b
  pub count : k ≡ length list
  pub numbers_fit : 4 * k ≤ length n
  pub octets_fit : length (octets_of (units_of list)) ≤ length o

pub record Delivered (b n o m p : List ℕ) : Type 0 where
  pub list : List Stored
  pub fits : Fits list b
  pub numbers_are : m ≡ written n 0 (numbers_of (units_of list))
  pub octets_are : p ≡ written o 0 (octets_of (units_of list))
