-- The steps by which the code works out a product and an inverse, for the functions of this crate and no other (`tests/heads`).
--
--   shifted a        a one bit higher; where that pushes out an x^8, what the modulus has below it is added for it
--   double-shifted   .. which is x a
--   part_octet       what one bit of the second factor gives to a product is an octet
--   product_begin    a product is nothing yet, and what all eight bits have to give;
--   product-step     one bit gives its part, and the others go on with x a;
--   product_end      when no bit is left, it is what has been given
--   Images f p       the entries of p are what f gives at 1, x, .., x^7
--   Mapped p b r     r is what each additive function gives at b whose images are p
--   Mapping p b j x t   on the way to it: t, and what is given at x, the bits of b from place j on, put back at their places
--   mapped_begin     at first that is nothing, and all bits;
--   mapped-step      one bit gives its image, and the others go on one place higher;
--   mapped_end       when no bit is left, it is what has been given
--   is_raised k p     the test of all entries of p: they are 1, x, .., x^7, each to the k
--   mapped-power     what is mapped by such images is the power, where k is a power of 2
--   inverse_is       the inverse of a is a to the 254
--
-- Assumes nothing.
use Rattle.std.specs.Prelude.{◌≡◌, refl, Bool, List, ℕ, zero, suc, ◌+◌, ◌*◌, ◌/◌, ◌%◌, ◌^◌, ◌<◌, T, eqb, get_or}
use Rattle.std.proofs.Common.{sym, ap, ◌∙◌, arith, add-one, mod-eq_of_lt, div-add-mod', div-one, pow-suc, zero-mul, one-mul, mul-one, mul_comm, mul_assoc, add-mul, mul-lt-mul_of_pos_right, eqb→eq, pow_pos, shr-shr}
use Rattle.std.proofs.Math.Nat.{div-eq_of_lt}
use Rattle.std.specs.Int.Bits.{xor_shifted}
use Rattle.octets.specs.Every.{every, every_at}
use Rattle.field.specs.Octet.{sum, modulus, double, times, product, power, inverse, size}
use Rattle.octets.specs.Xor.{bit-lt}
use Rattle.field.specs.Octet.Sum.{sum_xor, sum-assoc, sum-zero, sum_comm}
use Rattle.field.specs.Octet.Product.{bit_octet}
use Rattle.field.specs.Octet.Basis.{Additive, additive-zero}
use Rattle.field.specs.Octet.Power.{sum-power}

abbrev pub shifted : ℕ → ℕ
shifted a = sum (a * 2 % size) (a / 128 * 0x1D)

shifted_at : ℕ → Bool
shifted_at a = eqb (shifted a) (double a)

shifted_test : T (every shifted_at size)
unfolding sum modulus double shifted_at
shifted_test = tt

pub double-shifted : (a : ℕ) → a < size → shifted a ≡ double a
unfolding shifted_at
double-shifted a h = eqb→eq _ _ (every_at shifted_at size shifted_test a h)

pub part_octet : (a b : ℕ) → a < size → b % 2 * a < size
part_octet a b h = bit_octet (b % 2) a (bit-lt b) h

pub product_begin : (a b : ℕ) → a < size → sum 0 (times 8 a b) ≡ product a b
unfolding product
product_begin a b h = sum_comm 0 _ ∙ sum-zero _ ∙ ap (λ (x : ℕ). times 8 x b) (sym (mod-eq_of_lt h))

pub product-step : (t n a b : ℕ) → sum (sum t (b % 2 * a)) (times n (double a) (b / 2)) ≡ sum t (times (suc n) a b)
unfolding times
product-step t n a b = sum-assoc t (b % 2 * a) (times n (double a) (b / 2))

pub product_end : (t a b : ℕ) → sum t (times 0 a b) ≡ t
unfolding times
product_end t a b = sum-zero t

-- ---- images

abbrev pub Images : (ℕ → ℕ) → List ℕ → Type 0
Images f p = (i : ℕ) → i < 8 → get_or p i 0 ≡ f (2 ^ i)

pub record Mapped (p : List ℕ) (b r : ℕ) : Type 0 where
  pub value : (f : ℕ → ℕ) → Additive f → Images f p → r ≡ f b

-- b's lowest bit, and what is above it, at place j
bit_above : (b j : ℕ) → sum (b % 2 * 2 ^ j) (b / 2 * 2 ^ (j + 1)) ≡ b * 2 ^ j
bit_above b j =
    let e : 2 ^ (j + 1) ≡ 2 * 2 ^ j = ap (λ (m : ℕ). 2 ^ m) (add-one j) ∙ pow-suc 2 j ∙ mul_comm (2 ^ j) 2 in
    sum_comm _ _ ∙ sum_xor _ _ ∙ xor_shifted (b / 2) (j + 1) (b % 2 * 2 ^ j) (rw e (mul-lt-mul_of_pos_right (bit-lt b) (pow_pos j)))
    ∙ (rw e (ap (λ (x : ℕ). x + b % 2 * 2 ^ j) (sym (mul_assoc (b / 2) 2 (2 ^ j))) ∙ sym (add-mul (b / 2 * 2) (b % 2) (2 ^ j))))
    ∙ ap (λ (x : ℕ). x * 2 ^ j) (div-add-mod' b 2)

-- an additive function of a bit at place j
bit_image : (f : ℕ → ℕ) → Additive f → (x j : ℕ) → x < 2 → f (x * 2 ^ j) ≡ x * f (2 ^ j)
bit_image f h zero j l = ap f (zero-mul (2 ^ j)) ∙ additive-zero f h ∙ sym (zero-mul (f (2 ^ j)))
bit_image f h (suc zero) j l = ap f (one-mul (2 ^ j)) ∙ sym (one-mul (f (2 ^ j)))
bit_image f h (suc (suc x)) j l = absurd (omega arith)

pub record Mapping (p : List ℕ) (b j x t : ℕ) : Type 0 where
  pub left : x ≡ b / 2 ^ j
  pub whole : (f : ℕ → ℕ) → Additive f → Images f p → sum t (f (x * 2 ^ j)) ≡ f b

pub mapped_begin : (p : List ℕ) (b : ℕ) → Mapping p b 0 b 0
mapped_begin p b = record { left = sym (div-one b); whole = λ f h v. sum_comm 0 _ ∙ sum-zero _ ∙ ap f (mul-one b) }

pub mapped-step : {p : List ℕ} {b x t : ℕ} (j : ℕ) → j < 8 → Mapping p b j x t → Mapping p b (j + 1) (x / 2) (sum t (x % 2 * get_or p j 0))
mapped-step {b = b} {x = x} {t = t} j l m = record {
  left = ap (λ (y : ℕ). y / 2) m.left ∙ shr-shr b j 1;
  whole = λ f h v. sum-assoc t _ _
      ∙ ap (sum t) (ap (λ (y : ℕ). sum y (f (x / 2 * 2 ^ (j + 1)))) (ap (λ (y : ℕ). x % 2 * y) (v j l) ∙ sym (bit_image f h (x % 2) j (bit-lt x)))
      ∙ sym (h (x % 2 * 2 ^ j) (x / 2 * 2 ^ (j + 1))) ∙ ap f (bit_above x j))
      ∙ m.whole f h v;
}

pub mapped_end : {p : List ℕ} {b x t : ℕ} → b < size → Mapping p b 8 x t → Mapped p b t
mapped_end {t = t} l m = record {
  value = λ f h v. sym (ap (sum t) (ap f (ap (λ (y : ℕ). y * 2 ^ 8) (m.left ∙ div-eq_of_lt l)) ∙ additive-zero f h) ∙ sum-zero t) ∙ m.whole f h v;
}

abbrev raised_at : ℕ → List ℕ → ℕ → Bool
raised_at k p i = eqb (get_or p i 0) (power (2 ^ i) k)

unfoldable pub is_raised : ℕ → List ℕ → Bool
unfolding sum modulus double times product power
is_raised k p = every (raised_at k p) 8

pub mapped-power : (i : ℕ) {p : List ℕ} {b r : ℕ} → Mapped p b r → T (is_raised (2 ^ i) p) → r ≡ power b (2 ^ i)
unfolding is_raised
mapped-power i {p} m t = m.value (λ a. power a (2 ^ i)) (sum-power i) (λ j h. eqb→eq _ _ (every_at (raised_at (2 ^ i) p) 8 t j h))

pub inverse_is : (a : ℕ) → power a 254 ≡ inverse a
unfolding inverse
inverse_is a = refl
