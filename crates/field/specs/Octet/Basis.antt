-- An additive function is known by its values at 1, 2, 4, .., 128, which are 1, x, x², .., x^7.
--
--   Additive f      f (a + b) = f a + f b
--   additive-zero   f 0 = 0
--   agree           two additive functions with the same values there agree at every octet
--   agree_two       .. and two of two arguments, additive in each
--   agree_three     .. and of three
--
-- Assumes nothing.
use Rattle.std.specs.Prelude.{◌≡◌, refl, ℕ, zero, suc, ◌+◌, ◌*◌, ◌/◌, ◌%◌, ◌^◌, ◌≤◌, ◌<◌}
use Rattle.std.proofs.Common.{sym, ap, ap₂, ◌∙◌, subst, le_refl, mod-lt, pow-suc, div-lt_iff_lt-mul, zero-mul, one-mul, zero-add, mul_comm, le_trans, arith, pow_pos}
use Rattle.std.proofs.Math.Nat.{le-suc}
use Rattle.std.proofs.Math.Arith.{lt-one}
use Rattle.std.proofs.Math.Pow.{split}
use Rattle.std.specs.Int.Bits.{bit_xor, xor_shifted}
use Rattle.field.specs.Octet.{sum, size}
use Rattle.field.specs.Octet.Sum.{sum_self, sum_xor}

abbrev pub Additive : (ℕ → ℕ) → Type 0
Additive f = (a b : ℕ) → f (sum a b) ≡ sum (f a) (f b)

pub additive-zero : (f : ℕ → ℕ) → Additive f → f 0 ≡ 0
additive-zero f hf = ap f (sym (sum_self 0)) ∙ hf 0 0 ∙ sum_self (f 0)

-- a number with the bit 2^k on top is 2^k plus what is below
top_bit : (k a : ℕ) → a / 2 ^ k ≡ 1 → sum (2 ^ k) (a % 2 ^ k) ≡ a
top_bit k a e =
    sum_xor (2 ^ k) (a % 2 ^ k) ∙ ap (λ (x : ℕ). bit_xor x (a % 2 ^ k)) (sym (one-mul (2 ^ k)))
    ∙ xor_shifted 1 k (a % 2 ^ k) (mod-lt a (pow_pos k)) ∙ ap (λ (x : ℕ). x * 2 ^ k + a % 2 ^ k) (sym e) ∙ split a k

no-top_bit : (k a : ℕ) → a / 2 ^ k ≡ 0 → a % 2 ^ k ≡ a
no-top_bit k a e =
    sym (zero-add (a % 2 ^ k)) ∙ ap (λ (x : ℕ). x + a % 2 ^ k) (sym (zero-mul (2 ^ k)) ∙ ap (λ (x : ℕ). x * 2 ^ k) (sym e)) ∙ split a k

module _ (f g : ℕ → ℕ) (hf : Additive f) (hg : Additive g) (same : (i : ℕ) → i < 8 → f (2 ^ i) ≡ g (2 ^ i)) where
  step : (k a : ℕ) → k < 8 → ((r : ℕ) → r < 2 ^ k → f r ≡ g r) → (q : ℕ) → q < 2 → a / 2 ^ k ≡ q → f a ≡ g a
  step k a h ih zero hq e = ih a (subst (λ (x : ℕ). x < 2 ^ k) (no-top_bit k a e) (mod-lt a (pow_pos k)))
  step k a h ih (suc zero) hq e =
      let r = a % 2 ^ k in
      ap f (sym (top_bit k a e)) ∙ hf (2 ^ k) r ∙ ap₂ sum (same k h) (ih r (mod-lt a (pow_pos k))) ∙ sym (hg (2 ^ k) r) ∙ ap g (top_bit k a e)
  step k a h ih (suc (suc q)) hq e = absurd (omega arith)

  below : (k : ℕ) → k ≤ 8 → (a : ℕ) → a < 2 ^ k → f a ≡ g a
  below zero h a l = ap f (lt-one l) ∙ additive-zero f hf ∙ sym (additive-zero g hg) ∙ ap g (sym (lt-one l))
  below (suc k) h a l =
      step k a h (below k (le_trans (le-suc k) h)) (a / 2 ^ k)
      ((div-lt_iff_lt-mul (pow_pos k)).1 (subst (λ (x : ℕ). a < x) (pow-suc 2 k ∙ mul_comm (2 ^ k) 2) l))
      refl

  pub agree : (a : ℕ) → a < size → f a ≡ g a
  agree a h = below 8 (le_refl 8) a h

pub agree_two : (f g : ℕ → ℕ → ℕ)
    → ((b : ℕ) → Additive (λ a. f a b)) → ((a : ℕ) → Additive (f a))
    → ((b : ℕ) → Additive (λ a. g a b)) → ((a : ℕ) → Additive (g a))
    → ((i j : ℕ) → i < 8 → j < 8 → f (2 ^ i) (2 ^ j) ≡ g (2 ^ i) (2 ^ j))
    → (a b : ℕ) → a < size → b < size → f a b ≡ g a b
agree_two f g f₁ f₂ g₁ g₂ same a b ha hb =
    agree (λ x. f x b) (λ x. g x b) (f₁ b) (g₁ b) (λ i hi. agree (f (2 ^ i)) (g (2 ^ i)) (f₂ (2 ^ i)) (g₂ (2 ^ i)) (λ j hj. same i j hi hj) b hb) a ha

pub agree_three : (f g : ℕ → ℕ → ℕ → ℕ)
    → ((b c : ℕ) → Additive (λ a. f a b c)) → ((a c : ℕ) → Additive (λ b. f a b c)) → ((a b : ℕ) → Additive (f a b))
    → ((b c : ℕ) → Additive (λ a. g a b c)) → ((a c : ℕ) → Additive (λ b. g a b c)) → ((a b : ℕ) → Additive (g a b))
    → ((i j k : ℕ) → i < 8 → j < 8 → k < 8 → f (2 ^ i) (2 ^ j) (2 ^ k) ≡ g (2 ^ i) (2 ^ j) (2 ^ k))
    → (a b c : ℕ) → a < size → b < size → c < size → f a b c ≡ g a b c
agree_three f g f₁ f₂ f₃ g₁ g₂ g₃ same a b c ha hb hc =
    agree (λ x. f x b c) (λ x. g x b c) (f₁ b c) (g₁ b c)
    (λ i hi. agree_two (f (2 ^ i)) (g (2 ^ i)) (f₂ (2 ^ i)) (f₃ (2 ^ i)) (g₂ (2 ^ i)) (g₃ (2 ^ i)) (λ j k hj hk. same i j k hi hj hk) b c hb hc)
    a ha
