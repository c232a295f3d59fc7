-- How many ones a number has.
--
--   total-front     a sum begins with its first term
--   total-same      sums of equal terms
--   bit-zero        bit 1 of a number is its lowest
--   bit_next        a further bit of a number is one of its half
--   ones-total      the ones of a number of k bits are the sum of its bits
--   ones_none       0 has none, and no other number
--   ones-zero
--   ones_power      a power of two has one
--   ones_triangle   two numbers' ones are no fewer than those of their difference
--
-- Assumes nothing.
use mathlib.Core.Path.{◌≡◌, refl, sym, ap, ap₂, ◌∙◌}
use Prim.Native.Nat.{ℕ, zero, suc, ◌+◌, ◌*◌, ◌/◌, ◌%◌, ◌^◌, ◌≤◌, ◌<◌}
use native.Mathlib.Nat.{div-one, add-zero, one-mul}
use native.Mathlib.Numerals.{one-add, add-one}
use native.Mathlib.Omega.{arith}
use lib.Arith.{bin_ind, lt-one}
use lib.Pow.{pow_pos, shr_lt, shr-shr}
use lib.Bits.{bit_xor, differ}
use lib.Count.{ones, ones_step, ones_cat}
use Rattle.octets.specs.Xor.{bit-lt, xor_half, xor_odd}
use Rattle.golay.specs.Claims.{total, bit_at}

pub total-front : (k : ℕ) (f : ℕ → ℕ) → total (suc k) f ≡ f 0 + total k (λ i. f (suc i))
total-front zero f = refl
total-front (suc k) f = omega (arith, total-front k f)

pub total-same : (k : ℕ) (f g : ℕ → ℕ) → ((i : ℕ) → f i ≡ g i) → total k f ≡ total k g
total-same zero f g e = refl
total-same (suc k) f g e = ap₂ (λ (x y : ℕ). x + y) (e k) (total-same k f g e)

pub bit-zero : (n : ℕ) → bit_at n 0 ≡ n % 2
bit-zero n = ap (λ (x : ℕ). x % 2) (div-one n)

pub bit_next : (n j : ℕ) → bit_at n (suc j) ≡ bit_at (n / 2) j
bit_next n j = ap (λ (x : ℕ). n / 2 ^ x % 2) (sym (one-add j)) ∙ ap (λ (x : ℕ). x % 2) (sym (shr-shr n 1 j))

pub ones-zero : ones 0 ≡ 0
unfolding ones
ones-zero = refl

ones_one : ones 1 ≡ 1
unfolding ones
ones_one = refl

pub ones-total : (k n : ℕ) → n < 2 ^ k → ones n ≡ total k (bit_at n)
ones-total zero n h = ap ones (lt-one h) ∙ ones-zero
ones-total (suc k) n h =
    ones_step n
    ∙ ap₂ (λ (x y : ℕ). x + y) (sym (bit-zero n))
    (ones-total k (n / 2) (shr_lt k 1 (rw (add-one k) h)) ∙ total-same k (bit_at (n / 2)) (λ i. bit_at n (suc i)) (λ i. sym (bit_next n i)))
    ∙ sym (total-front k (bit_at n))

pub ones_none : (n : ℕ) → ones n ≡ 0 → n ≡ 0
ones_none =
    bin_ind (λ (n : ℕ). ones n ≡ 0 → n ≡ 0) (λ e. refl)
    (λ n ih e. let half = ih (omega (arith, ones_step n, e)) in omega (arith, half, ones_step n, e))

pub ones_power : (i : ℕ) → ones (2 ^ i) ≡ 1
ones_power i =
    ap ones (sym (add-zero (1 * 2 ^ i) ∙ one-mul (2 ^ i))) ∙ ones_cat i 1 0 (pow_pos i)
    ∙ ap₂ (λ (x y : ℕ). x + y) ones_one ones-zero

differ_most : (x y : ℕ) → x < 2 → differ x y ≤ x + y
differ_most zero y h = omega arith
differ_most (suc zero) zero h = omega arith
differ_most (suc zero) (suc y) h = omega arith
differ_most (suc (suc x)) y h = absurd (omega arith)

pub ones_triangle : (a b : ℕ) → ones (bit_xor a b) ≤ ones a + ones b
ones_triangle =
    bin_ind (λ (n : ℕ). (b : ℕ) → ones (bit_xor n b) ≤ ones n + ones b) (λ b. omega arith)
    (λ n ih b.
    let step : ones (bit_xor n b) ≡ differ (n % 2) (b % 2) + ones (bit_xor (n / 2) (b / 2)) =
    ones_step (bit_xor n b) ∙ ap₂ (λ (x y : ℕ). x + ones y) (xor_odd n b) (xor_half n b) in
    omega (arith, step, ih (b / 2), differ_most (n % 2) (b % 2) (bit-lt n), ones_step n, ones_step b))
