-- The parity and the distance, bit by bit.
--
--   bit-xor           a bit of a sum is the difference of the bits
--   product_bit       a matrix transposed, times a column: each bit of it
--   distance-places   the distance counts the places at which two words differ
--   distance_block    .. and is the sum of those of their parts
--
-- Assumes nothing.
use mathlib.Core.Path.{◌≡◌, refl, sym, ap, ap₂, ◌∙◌}
use mathlib.Core.Bool.{cond, not}
use mathlib.Core.List.{List, [], ◌∷◌}
use Prim.Native.Nat.{ℕ, zero, suc, ◌+◌, ◌*◌, ◌/◌, ◌%◌, ◌^◌, ◌<◌}
use native.Mathlib.Nat.{zero-div, zero-mul, one-mul, mul-zero, mul-one}
use native.Mathlib.Omega.{arith}
use lib.Bits.{bit_xor, differ, xor_shr, xor_lt, xor_block}
use lib.Count.{ones, ones_cat}
use lib.Dec.{eqb}
use lib.ListN.{length, get_or}
use Rattle.octets.specs.Xor.{bit-lt, xor_odd}
use Rattle.golay.specs.Code.{product, distance}
use Rattle.golay.specs.Claims.{count, total, bit_at, DistanceCounts}
use Rattle.golay.proofs.Ones.{total-front, total-same, bit-zero, bit_next, ones-total}

pub bit-xor : (a b j : ℕ) → bit_at (bit_xor a b) j ≡ differ (bit_at a j) (bit_at b j)
bit-xor a b j = ap (λ (x : ℕ). x % 2) (xor_shr a b j) ∙ xor_odd (a / 2 ^ j) (b / 2 ^ j)

-- ---- the parity

-- modulo 2, the difference of two bits is their sum
differ-sum : (x y s : ℕ) → x < 2 → y ≡ s % 2 → differ x y ≡ (x + s) % 2
differ-sum zero y s h e = omega arith
differ-sum (suc zero) zero s h e = omega arith
differ-sum (suc zero) (suc zero) s h e = omega arith
differ-sum (suc zero) (suc (suc y)) s h e = absurd (omega arith)
differ-sum (suc (suc x)) y s h e = absurd (omega arith)

bit_scaled : (x r j : ℕ) → x < 2 → bit_at (x * r) j ≡ bit_at r j * x
bit_scaled zero r j h = ap (λ (n : ℕ). n / 2 ^ j % 2) (zero-mul r) ∙ ap (λ (n : ℕ). n % 2) (zero-div (2 ^ j)) ∙ sym (mul-zero (bit_at r j))
bit_scaled (suc zero) r j h = ap (λ (n : ℕ). bit_at n j) (one-mul r) ∙ sym (mul-one (bit_at r j))
bit_scaled (suc (suc x)) r j h = absurd (omega arith)

abbrev terms : List ℕ → ℕ → ℕ → ℕ → ℕ
terms m d j i = bit_at (get_or m i 0) j * bit_at d i

pub product_bit : (m : List ℕ) (d j : ℕ) → bit_at (product m d) j ≡ total (length m) (λ i. bit_at (get_or m i 0) j * bit_at d i) % 2
unfolding product
product_bit [] d j = ap (λ (n : ℕ). n % 2) (zero-div (2 ^ j))
product_bit (r ∷ m) d j =
    bit-xor (d % 2 * r) (product m (d / 2)) j
    ∙ ap (λ (x : ℕ). differ x (bit_at (product m (d / 2)) j)) first
    ∙ differ-sum (terms (r ∷ m) d j 0) (bit_at (product m (d / 2)) j) (total (length m) (terms m (d / 2) j)) (rw (← first) (bit-lt _))
    (product_bit m (d / 2) j)
    ∙ ap (λ (x : ℕ). (terms (r ∷ m) d j 0 + x) % 2)
    (total-same (length m) (terms m (d / 2) j) (λ i. terms (r ∷ m) d j (suc i)) (λ i. ap (λ (x : ℕ). bit_at (get_or m i 0) j * x) (sym (bit_next d i))))
    ∙ ap (λ (x : ℕ). x % 2) (sym (total-front (length m) (terms (r ∷ m) d j)))
  where
    first : bit_at (d % 2 * r) j ≡ terms (r ∷ m) d j 0
    first = bit_scaled (d % 2) r j (bit-lt d) ∙ ap (λ (x : ℕ). bit_at r j * x) (sym (bit-zero d))

-- ---- the distance

differ_test : (x y : ℕ) → x < 2 → y < 2 → differ x y ≡ cond (not (eqb x y)) 1 0
differ_test zero zero h l = refl
differ_test zero (suc zero) h l = refl
differ_test (suc zero) zero h l = refl
differ_test (suc zero) (suc zero) h l = refl
differ_test zero (suc (suc y)) h l = absurd (omega arith)
differ_test (suc zero) (suc (suc y)) h l = absurd (omega arith)
differ_test (suc (suc x)) y h l = absurd (omega arith)

places : (k a b : ℕ) → total k (bit_at (bit_xor a b)) ≡ count k (λ j. not (eqb (bit_at a j) (bit_at b j)))
places zero a b = refl
places (suc k) a b =
    ap₂ (λ (x y : ℕ). x + y) (bit-xor a b k ∙ differ_test (bit_at a k) (bit_at b k) (bit-lt (a / 2 ^ k)) (bit-lt (b / 2 ^ k))) (places k a b)

pub distance-places : DistanceCounts
distance-places a b h l = ones-total 24 (bit_xor a b) (xor_lt 24 a b h l) ∙ places 24 a b

pub distance_block : (k a b r s : ℕ) → r < 2 ^ k → s < 2 ^ k → distance (a * 2 ^ k + r) (b * 2 ^ k + s) ≡ distance a b + distance r s
distance_block k a b r s h l = ap ones (xor_block k a b r s h l) ∙ ones_cat k (bit_xor a b) (bit_xor r s) (xor_lt k r s h l)
