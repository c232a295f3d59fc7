-- How many units a channel has, and how long the trailer is.
--
--   cond_few          one more or not
--   units_on_few, damaged_on_few   no more than there are units
--   place-length      a place's length
--   places-length     .. of the used ones
--   unused-length     .. and of those that are not used
--   trailer-length    a trailer's length
--
-- Assumes nothing.
use mathlib.Core.Path.{◌≡◌, refl, ap, ap₂, ◌∙◌}
use mathlib.Core.Bool.{Bool, true, false, cond, ◌&&◌}
use mathlib.Core.List.{List, [], ◌∷◌, ◌++◌}
use Prim.Native.Nat.{ℕ, zero, suc, ◌+◌, ◌-◌, ◌*◌, ◌≤◌}
use native.Mathlib.Omega.{arith}
use lib.Dec.{eqb}
use lib.ListN.{length, replicate, length-append}
use Rattle.octets.specs.High.{fields}
use Rattle.octets.proofs.Laws.{fields-length}
use Rattle.record.specs.Recorded.{Recorded, is_damaged, flat}
use Rattle.record.specs.Layout.{total, no_offset, last}
use Rattle.record.specs.Trailer.{
  used,
  units_on,
  damaged_on,
  place_widths,
  place,
  place_of,
  unused,
  most_channels,
  places,
  mark,
  trailer_of,
  trailer_octets,
}

-- ---- how many

cond_few : (b : Bool) (n m : ℕ) → n ≤ m → cond b (suc n) n ≤ suc m
cond_few true n m h = omega arith
cond_few false n m h = omega arith

pub units_on_few : (c : ℕ) (past : List Recorded) → units_on c past ≤ length past
unfolding units_on
units_on_few c [] = omega arith
units_on_few c (u ∷ past) = cond_few (eqb u.channel c) (units_on c past) (length past) (units_on_few c past)

pub damaged_on_few : (c : ℕ) (past : List Recorded) → damaged_on c past ≤ length past
unfolding damaged_on
damaged_on_few c [] = omega arith
damaged_on_few c (u ∷ past) = cond_few (eqb u.channel c && is_damaged u) (damaged_on c past) (length past) (damaged_on_few c past)

-- ---- how long

pub place-length : (c p n d : ℕ) → length (place c p n d) ≡ 14
place-length c p n d = fields-length place_widths (c ∷ p ∷ n ∷ d ∷ []) refl

places-length : (past : List Recorded) (cs : List ℕ) → length (flat (place_of past) cs) ≡ 14 * length cs
unfolding flat
places-length past [] = refl
places-length past (c ∷ cs) =
    length-append (place_of past c) (flat (place_of past) cs)
    ∙ omega (arith, place-length c (last c past) (units_on c past) (damaged_on c past), places-length past cs)

unused-length : (k : ℕ) → length (flat (λ (none : List ℕ). none) (replicate k unused)) ≡ 14 * k
unfolding flat
unused-length zero = refl
unused-length (suc k) =
    length-append unused (flat (λ (none : List ℕ). none) (replicate k unused)) ∙ omega (arith, place-length 0 no_offset 0 0, unused-length k)

pub trailer-length : (past : List Recorded) → length (used past) ≤ most_channels → length (trailer_of past) ≡ trailer_octets
trailer-length past h =
    let cs = used past in
    let ends : List ℕ = fields (4 ∷ 4 ∷ []) (length past ∷ total past ∷ []) in
    let front : length (places past) ≡ 224 =
    length-append (flat (place_of past) cs) (flat (λ (none : List ℕ). none) (replicate (most_channels - length cs) unused))
    ∙ omega (arith, places-length past cs, unused-length (most_channels - length cs)) in
    length-append (places past) (ends ++ mark)
    ∙ ap₂ (λ (m n : ℕ). m + n) front
    (length-append ends mark ∙ ap (λ (n : ℕ). n + 4) (fields-length (4 ∷ 4 ∷ []) (length past ∷ total past ∷ []) refl))
