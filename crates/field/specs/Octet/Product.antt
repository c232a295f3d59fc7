-- The product is an octet and is additive in each factor.
--
--   bit_octet       a bit times an octet is an octet
--   low_octet       a number's low octet is one
--   product_octet   an octet
--   sum-product     (a + b) c = a c + b c
--   product-sum     a (b + c) = a b + a c
--   product_low     only the low octets count
--
-- Assumes nothing.
use Rattle.std.specs.Prelude.{◌≡◌, refl, ℕ, zero, suc, ◌*◌, ◌/◌, ◌%◌, ◌^◌, ◌<◌}
use Rattle.std.proofs.Common.{sym, ap, ap₂, ◌∙◌, subst, mod-lt, zero-mul, one-mul, add-one, arith, lit<}
use Rattle.std.proofs.Math.Nat.{mod-mod}
use Rattle.std.proofs.Math.Pow as pow
use Rattle.field.specs.Octet.{sum, double, times, product, size}
use Rattle.octets.specs.Xor.{bit-lt}
use Rattle.field.specs.Octet.Sum.{sum-zero, sum_octet, sum_low, sum_half, sum_swap, bit-sum, sum_bit, double_octet, double-sum}

pub bit_octet : (x a : ℕ) → x < 2 → a < size → x * a < size
bit_octet zero a h k = subst (λ (y : ℕ). y < size) (sym (zero-mul a)) (lit< tt)
bit_octet (suc zero) a h k = subst (λ (y : ℕ). y < size) (sym (one-mul a)) k
bit_octet (suc (suc x)) a h k = absurd (omega arith)

times_octet : (n a b : ℕ) → a < size → times n a b < size
unfolding times
times_octet zero a b h = lit< tt
times_octet (suc n) a b h =
    sum_octet (b % 2 * a) (times n (double a) (b / 2)) (bit_octet (b % 2) a (bit-lt b) h) (times_octet n (double a) (b / 2) (double_octet a h))

sum-times : (n a b c : ℕ) → a < size → b < size → times n (sum a b) c ≡ sum (times n a c) (times n b c)
unfolding times
sum-times zero a b c ha hb = sym (sum-zero 0)
sum-times (suc n) a b c ha hb =
    ap₂ sum (bit-sum (c % 2) a b (bit-lt c))
    (ap (λ (x : ℕ). times n x (c / 2)) (double-sum a b ha hb) ∙ sum-times n (double a) (double b) (c / 2) (double_octet a ha) (double_octet b hb))
    ∙ sum_swap (c % 2 * a) (c % 2 * b) (times n (double a) (c / 2)) (times n (double b) (c / 2))

times-sum : (n a b c : ℕ) → times n a (sum b c) ≡ sum (times n a b) (times n a c)
unfolding times
times-sum zero a b c = sym (sum-zero 0)
times-sum (suc n) a b c =
    ap₂ sum (sum_bit b c a) (ap (times n (double a)) (sum_half b c) ∙ times-sum n (double a) (b / 2) (c / 2))
    ∙ sum_swap (b % 2 * a) (c % 2 * a) (times n (double a) (b / 2)) (times n (double a) (c / 2))

-- only the n low bits of the second factor count
times_low : (n a b : ℕ) → times n a (b % 2 ^ n) ≡ times n a b
unfolding times
times_low zero a b = refl
times_low (suc n) a b =
    ap₂ sum (ap (λ (x : ℕ). b % 2 ^ x % 2 * a) (sym (add-one n)) ∙ ap (λ (x : ℕ). x * a) (pow.mod-mod-pow b n 1))
    (ap (λ (x : ℕ). times n (double a) (b % 2 ^ x / 2)) (sym (add-one n)) ∙ ap (times n (double a)) (pow.field b n 1)
    ∙ times_low n (double a) (b / 2))

pub low_octet : (a : ℕ) → a % size < size
low_octet a = mod-lt a (lit< tt)

pub product_octet : (a b : ℕ) → product a b < size
unfolding product
product_octet a b = times_octet 8 (a % size) b (low_octet a)

pub sum-product : (a b c : ℕ) → product (sum a b) c ≡ sum (product a c) (product b c)
unfolding product
sum-product a b c = ap (λ (x : ℕ). times 8 x c) (sum_low a b) ∙ sum-times 8 (a % size) (b % size) c (low_octet a) (low_octet b)

pub product-sum : (a b c : ℕ) → product a (sum b c) ≡ sum (product a b) (product a c)
unfolding product
product-sum a b c = times-sum 8 (a % size) b c

pub product_low : (a b : ℕ) → product (a % size) (b % size) ≡ product a b
unfolding product
product_low a b = ap₂ (times 8) (mod-mod a size) refl ∙ times_low 8 (a % size) b
