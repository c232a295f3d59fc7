-- Powers of one element.
--
--   pow-zero, pow-suc, rising-at    the clauses of the definitions
--   pow-ne       a power of an element that is not zero is not
--   pow-add      aᵐ⁺ⁿ = aᵐ aⁿ
--   pow_times    (aⁱ)ⁿ = (aⁿ)ⁱ
--   pow-pow      (aⁱ)ⁿ = aⁱⁿ
--
-- Assumes nothing.
use mathlib.Core.Path.{◌≡◌, refl, sym, ap, ◌∙◌}
use mathlib.Core.Logic.{◌≢◌}
use Prim.Native.Nat.{ℕ, zero, suc, ◌+◌, ◌*◌}
use native.Mathlib.Omega.{arith}
use native.Mathlib.Nat.{mul-zero, mul-suc}
use Rattle.algebra.specs.Field.{Field}
use Rattle.algebra.specs.Power.{pow, rising}
use Rattle.algebra.proofs.Ring.{ring, 𝟙-⊙, mul-ne}

module _ (𝓕 : Field) where
  infixl 70 ◌⊙◌
  open 𝓕 use {Carrier as F, mul as ◌⊙◌, nil as 𝟘, one as 𝟙}

  pub pow-zero : (x : F) → pow 𝓕 x 0 ≡ 𝟙
  unfolding pow
  pow-zero x = refl

  pub pow-suc : (x : F) (n : ℕ) → pow 𝓕 x (suc n) ≡ x ⊙ pow 𝓕 x n
  unfolding pow
  pow-suc x n = refl

  pub pow-ne : (x : F) (n : ℕ) → x ≢ 𝟘 → pow 𝓕 x n ≢ 𝟘
  pow-ne x zero h = rw pow-zero 𝓕.one_ne_nil
  pow-ne x (suc n) h = rw pow-suc (mul-ne 𝓕 x (pow 𝓕 x n) h (pow-ne x n h))

  pub rising-at : (a : F) (i : ℕ) → rising 𝓕 a i ≡ pow 𝓕 a (suc i)
  unfolding rising
  rising-at a i = refl

  pow-mul : (a b : F) (n : ℕ) → pow 𝓕 (a ⊙ b) n ≡ pow 𝓕 a n ⊙ pow 𝓕 b n
  pow-mul a b zero = simp (pow-zero, ring)
  pow-mul a b (suc n) = simp (pow-suc, pow-mul a b n, ring)

  pub pow-add : (a : F) (m n : ℕ) → pow 𝓕 a (m + n) ≡ pow 𝓕 a m ⊙ pow 𝓕 a n
  pow-add a zero n = let e : 0 + n ≡ n = omega arith in rw (e, pow-zero) (sym (𝟙-⊙ 𝓕 _))
  pow-add a (suc m) n = let e : suc m + n ≡ suc (m + n) = omega arith in rw (e, pow-suc a (m + n), pow-suc a m, pow-add a m n) (simp ring)

  pow_one : (i : ℕ) → pow 𝓕 𝟙 i ≡ 𝟙
  pow_one zero = pow-zero 𝟙
  pow_one (suc i) = rw (pow-suc, pow_one i) (𝟙-⊙ 𝓕 𝟙)

  -- (aⁱ)ⁿ = (aⁿ)ⁱ
  pub pow_times : (a : F) (i n : ℕ) → pow 𝓕 (pow 𝓕 a i) n ≡ pow 𝓕 (pow 𝓕 a n) i
  pow_times a i zero = rw (pow-zero (pow 𝓕 a i), pow-zero a) (sym (pow_one i))
  pow_times a i (suc n) = rw (pow-suc (pow 𝓕 a i) n, pow-suc a n, pow-mul, pow_times a i n)

  pub pow-pow : (a : F) (i n : ℕ) → pow 𝓕 (pow 𝓕 a i) n ≡ pow 𝓕 a (i * n)
  pow-pow a i zero = rw (mul-zero i, pow-zero a) (pow-zero (pow 𝓕 a i))
  pow-pow a i (suc n) = rw (mul-suc i n, pow-suc (pow 𝓕 a i) n, pow-pow a i n) (sym (pow-add a i (i * n)) ∙ ap (pow 𝓕 a) (omega arith))
