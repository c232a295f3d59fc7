-- What is put together of octets is octets, and so is each part of them.
--
--   octets-none      no octets
--   octets-cons      one, and more behind it
--   octets-append    octets behind octets
--   part_octets      a part of octets
--
-- Assumes nothing.
use mathlib.Core.List.{List, [], ◌∷◌, ◌++◌}
use Prim.Native.Nat.{ℕ, zero, suc, ◌+◌, ◌<◌}
use native.Mathlib.Decide.{dec_lt}
use native.Mathlib.Omega.{arith}
use lib.ListN.{get_or, take, drop, length-take, get_or-eq_default}
use lib.Seq.{get_or-take, get_or-drop}
use Rattle.record.specs.Recorded.{Octets}

pub octets-none : Octets []
octets-none i = omega arith

pub octets-cons : (x : ℕ) (l : List ℕ) → x < 256 → Octets l → Octets (x ∷ l)
octets-cons x l h f zero = h
octets-cons x l h f (suc i) = f i

pub octets-append : (a b : List ℕ) → Octets a → Octets b → Octets (a ++ b)
octets-append [] b f g i = g i
octets-append (x ∷ a) b f g zero = f 0
octets-append (x ∷ a) b f g (suc i) = octets-append a b (λ j. f (suc j)) g i

pub part_octets : (b : List ℕ) (k n : ℕ) → Octets b → Octets (take n (drop k b))
part_octets b k n h i = by (dec_lt i n)
  where
    by : Dec (i < n) → get_or (take n (drop k b)) i 0 < 256
    by (yes l) = rw (get_or-take n (drop k b) i 0 l, get_or-drop k b i 0) (h (k + i))
    by (no l) = rw (get_or-eq_default (take n (drop k b)) 0 {n = i} (omega (arith, length-take n (drop k b)))) (omega arith)
