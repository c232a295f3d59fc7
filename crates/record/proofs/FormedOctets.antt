-- A record is octets, so that the numbers that stand in it tell its octets: each part of it is numbers in octets, or a unit's own.
--
--   mark_octets     the mark
--   high_octets     a number in octets
--   fields_octets   numbers in a row
--   flat_octets     what is made of octets each is octets
--   spare_octets    places that are not used
--   units_octets    units with their back offsets
--   record_octets   a record
--
-- Assumes nothing.
use mathlib.Core.List.{List, [], ◌∷◌, ◌++◌, reverse}
use Prim.Native.Nat.{ℕ, zero, suc, ◌-◌, ◌/◌, ◌%◌}
use native.Mathlib.Omega.{arith}
use lib.ListN.{length, replicate}
use Rattle.octets.specs.High.{high, fields}
use Rattle.record.specs.Recorded.{Recorded, Octets, AllInRange, flat}
use Rattle.record.specs.Layout.{header_widths, header, total, last, laid, backed, body_of}
use Rattle.record.proofs.OctetParts.{octets-none, octets-cons, octets-append}
use Rattle.record.specs.Trailer.{
  used,
  units_on,
  damaged_on,
  place_widths,
  place_of,
  unused,
  most_channels,
  places,
  mark,
  trailer_of,
  record_of,
}

high_octets : (k n : ℕ) → Octets (high k n)
unfolding high
high_octets zero n i = octets-none i
high_octets (suc k) n i =
    octets-append (high k (n / 256)) (n % 256 ∷ []) (high_octets k (n / 256)) (octets-cons (n % 256) [] (omega arith) octets-none) i

fields_octets : (ws ns : List ℕ) → Octets (fields ws ns)
fields_octets [] ns i = octets-none i
fields_octets (w ∷ ws) [] i = octets-none i
fields_octets (w ∷ ws) (n ∷ ns) i = octets-append (high w n) (fields ws ns) (high_octets w n) (fields_octets ws ns) i

flat_octets : {A : Type 0} (f : A → List ℕ) (l : List A) → ((x : A) → Octets (f x)) → Octets (flat f l)
unfolding flat
flat_octets f [] g i = octets-none i
flat_octets f (x ∷ l) g i = octets-append (f x) (flat f l) (g x) (flat_octets f l g) i

spare_octets : (k : ℕ) → Octets (flat (λ (none : List ℕ). none) (replicate k unused))
unfolding flat
spare_octets zero i = octets-none i
spare_octets (suc k) i =
    octets-append unused (flat (λ (none : List ℕ). none) (replicate k unused)) (fields_octets place_widths (0 ∷ 4294967295 ∷ 0 ∷ 0 ∷ []))
    (spare_octets k) i

units_octets : (past us : List Recorded) → AllInRange us → Octets (laid (backed past us))
unfolding flat backed
units_octets past [] r i = octets-none i
units_octets past (u ∷ us) r i =
    let back = last u.channel past in
    let head = header u.channel u.badge u.changed (length u.octets) back in
    octets-append (head ++ u.octets) (laid (backed (u ∷ past) us))
    (octets-append head u.octets (fields_octets header_widths (u.channel ∷ u.badge ∷ u.changed ∷ length u.octets ∷ back ∷ []))
    r.0.octets_are)
    (units_octets (u ∷ past) us r.1) i

mark_octets : Octets mark
mark_octets =
    octets-cons 72 (50 ∷ 50 ∷ 51 ∷ []) (omega arith)
    (octets-cons 50 (50 ∷ 51 ∷ []) (omega arith) (octets-cons 50 (51 ∷ []) (omega arith) (octets-cons 51 [] (omega arith) octets-none)))

pub record_octets : (us : List Recorded) → AllInRange us → Octets (record_of us)
record_octets us r =
    let past = reverse us in
    let spare = most_channels - length (used past) in
    let ends = fields (4 ∷ 4 ∷ []) (length past ∷ total past ∷ []) in
    let own : Octets (flat (place_of past) (used past)) = flat_octets (place_of past) (used past)
    (λ c. fields_octets place_widths (c ∷ last c past ∷ units_on c past ∷ damaged_on c past ∷ [])) in
    octets-append (body_of us) (trailer_of past) (units_octets [] us r)
    (octets-append (places past) (ends ++ mark)
    (octets-append (flat (place_of past) (used past)) (flat (λ (none : List ℕ). none) (replicate spare unused)) own (spare_octets spare))
    (octets-append ends mark (fields_octets (4 ∷ 4 ∷ []) (length past ∷ total past ∷ [])) mark_octets))
