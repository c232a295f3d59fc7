-- Finished units stand one after another: each starts where those before it end.
--
--   starts_are     the claim StartsAre
--
-- Assumes nothing.
use mathlib.Core.Path.{◌≡◌, refl, ap, ◌∙◌}
use mathlib.Core.List.{List, [], ◌∷◌, ◌++◌, map, flatten}
use Prim.Native.Nat.{ℕ, zero, suc, ◌+◌, ◌*◌, ◌≤◌, ◌<◌}
use native.Mathlib.Omega.{arith}
use lib.ListN.{length, get_or, take, drop, length-append}
use Rattle.multiplex.specs.Units.{UnitOn, units_in}
use Rattle.multiplex.specs.Rules.{finished_octets, StartsAre}
use Rattle.multiplex.proofs.Records.{unit_octets, records}
use Rattle.multiplex.proofs.Rules.{octets-flat, tale, told-units, units_are}

-- the second number of unit j
starts : (l : List UnitOn) (k j : ℕ) (rest : List ℕ) → j < length l → get_or (records k l ++ rest) (3 * j + 1) 0 ≡ k + length (unit_octets (take j l))
starts [] k j rest h = absurd (omega arith)
starts (u ∷ l) k zero rest h = omega arith
starts (u ∷ l) k (suc j) rest h =
    let at : 3 * suc j + 1 ≡ suc (suc (suc (3 * j + 1))) = omega arith in
    ap (λ (i : ℕ). get_or (records k (u ∷ l) ++ rest) i 0) at
    ∙ starts l (k + length u.octets) j rest (omega arith) ∙ omega (arith, length-append u.octets (unit_octets (take j l)))

-- the first j units of a list
units-front : (output units : List ℕ) (j k : ℕ) → j ≤ k → units_in output units j ≡ take j (units_in output units k)
unfolding units_in
units-front output units zero k h = refl
units-front output units (suc j) zero h = absurd (omega arith)
units-front output units (suc j) (suc k) h =
    ap (λ (l : List UnitOn). record { channel = get_or units 0 0; octets = take (get_or units 2 0) (drop (get_or units 1 0) output) } ∷ l)
    (units-front output (drop 3 units) j k (omega arith))

pub starts_are : StartsAre
starts_are x y t c mark xs k j e h =
    let us = (tale x y t c mark xs k e).0 in
    let told = told-units x y t c mark xs k e in
    let many : k ≡ length us = (units_are x y t c mark xs k e).0 in
    let front : finished_octets y j ≡ unit_octets (take j us) =
    ap (λ (l : List UnitOn). flatten (map (λ (u : UnitOn). u.octets) l)) (units-front y.output y.units j k (omega arith) ∙ ap (take j) told)
    ∙ octets-flat (take j us) in
    let second = starts us 0 j _ (omega (arith, many)) in
    ap (λ (l : List ℕ). get_or l (3 * j + 1) 0) (units_are x y t c mark xs k e).1 ∙ second ∙ omega (arith, ap (λ (l : List ℕ). length l) front)
