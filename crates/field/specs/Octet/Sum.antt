-- The laws of the sum, which hold of all numbers, and of doubling an octet.
--
--   sum_xor          the sum is the code's `^`
--   sum-assoc        associative, commutative, and as two rules for three and four terms
--   sum_comm
--   sum_left-comm
--   sum_swap
--   sum-zero         0 changes nothing
--   sum_self         each number is its own negative
--   sum_octet        the sum of two octets is an octet
--   sum_low          low octets, halves and lowest bits pass through the sum
--   sum_half
--   bit-sum
--   sum_bit
--   double_octet     twice an octet is an octet
--   double-sum       doubling passes through the sum
--
-- Assumes nothing.
use Rattle.std.specs.Prelude.{◌≡◌, refl, Bool, ℕ, zero, suc, ◌*◌, ◌/◌, ◌%◌, ◌<◌, T, ltb}
use Rattle.std.proofs.Common.{sym, ap, ap₂, ◌∙◌, div-lt_iff_lt-mul, zero-mul, one-mul, arith, ltb→lt, lit<}
use Rattle.std.specs.Int.Bits.{bit_xor, xor_self, xor_zero_r}
use Rattle.std.proofs.lemmas.Nat.{xor_comm, xor_lt, xor_mod, xor_shr}
use Rattle.octets.specs.Every.{every, every_at}
use Rattle.octets.specs.Xor.{xor_assoc, xor_left-comm, xor_swap, xor_half, xor-bit, xor_twice, differ_scale, xor_bits}
use Rattle.field.specs.Octet.{sum, modulus, double, size}

pub sum_xor : (a b : ℕ) → sum a b ≡ bit_xor a b
unfolding sum
sum_xor a b = refl

pub sum-assoc : (a b c : ℕ) → sum (sum a b) c ≡ sum a (sum b c)
unfolding sum
sum-assoc = xor_assoc

pub sum_comm : (a b : ℕ) → sum a b ≡ sum b a
unfolding sum
sum_comm = xor_comm

pub sum_left-comm : (a b c : ℕ) → sum a (sum b c) ≡ sum b (sum a c)
unfolding sum
sum_left-comm = xor_left-comm

pub sum_swap : (a b c d : ℕ) → sum (sum a b) (sum c d) ≡ sum (sum a c) (sum b d)
unfolding sum
sum_swap = xor_swap

pub sum-zero : (a : ℕ) → sum a 0 ≡ a
unfolding sum
sum-zero = xor_zero_r

pub sum_self : (a : ℕ) → sum a a ≡ 0
unfolding sum
sum_self = xor_self

pub sum_octet : (a b : ℕ) → a < size → b < size → sum a b < size
unfolding sum
sum_octet = xor_lt 8

pub sum_low : (a b : ℕ) → sum a b % size ≡ sum (a % size) (b % size)
unfolding sum
sum_low a b = xor_mod a b 8

pub sum_half : (a b : ℕ) → sum a b / 2 ≡ sum (a / 2) (b / 2)
unfolding sum
sum_half = xor_half

-- a bit times a sum
pub bit-sum : (x a b : ℕ) → x < 2 → x * sum a b ≡ sum (x * a) (x * b)
unfolding sum
bit-sum zero a b h = zero-mul (bit_xor a b) ∙ sym (ap₂ bit_xor (zero-mul a) (zero-mul b))
bit-sum (suc zero) a b h = one-mul (bit_xor a b) ∙ sym (ap₂ bit_xor (one-mul a) (one-mul b))
bit-sum (suc (suc x)) a b h = absurd (omega arith)

-- a sum's lowest bit times a number
pub sum_bit : (a b c : ℕ) → sum a b % 2 * c ≡ sum (a % 2 * c) (b % 2 * c)
unfolding sum
sum_bit = xor-bit

-- ---- doubling

double_fits : ℕ → Bool
double_fits a = ltb (double a) size

double_test : T (every double_fits size)
unfolding sum modulus double double_fits
double_test = tt

pub double_octet : (a : ℕ) → a < size → double a < size
unfolding double_fits
double_octet a h = ltb→lt (double a) size (every_at double_fits size double_test a h)

top : {a : ℕ} → a < size → a / 128 < 2
top h = (div-lt_iff_lt-mul (lit< tt)).1 h

pub double-sum : (a b : ℕ) → a < size → b < size → double (sum a b) ≡ sum (double a) (double b)
unfolding sum double
double-sum a b ha hb =
    ap₂ bit_xor (xor_twice a b)
    (ap (λ (x : ℕ). x * modulus) (xor_shr a b 7 ∙ xor_bits (a / 128) (b / 128) (top ha) (top hb))
    ∙ differ_scale (a / 128) (b / 128) modulus (top ha) (top hb))
    ∙ sum_swap (2 * a) (2 * b) (a / 128 * modulus) (b / 128 * modulus)
