-- The value of a polynomial at a point.
--
--   ev d f x      f₀ + f₁ x + .. + f₍d₋₁₎ x^(d-1), by Horner's rule
--   from i f      f without its first i coefficients, as Horner's rule has it on its way down
--   terms n t x   xᵗ⁰ + xᵗ¹ + .., of the n numbers t₀, t₁, ..
--
-- Assumes nothing.
use Rattle.std.specs.Prelude.{ℕ, zero, suc}
use Rattle.algebra.specs.Field.{Field}
use Rattle.algebra.specs.Series.{Series, operations}
use Rattle.algebra.specs.Power.{pow}

module _ (𝓕 : Field) where
  infixl 60 ◌⊕◌
  infixl 70 ◌⊙◌
  open 𝓕 use {Carrier as F, add as ◌⊕◌, mul as ◌⊙◌, nil as 𝟘}
  open operations 𝓕 use {tl}

  unfoldable pub ev : ℕ → Series 𝓕 → F → F
  ev zero f x = 𝟘
  ev (suc d) f x = f 0 ⊕ x ⊙ ev d (tl f) x

  unfoldable pub from : ℕ → Series 𝓕 → Series 𝓕
  from zero f = f
  from (suc i) f = from i (tl f)

  unfoldable pub terms : ℕ → (ℕ → ℕ) → F → F
  terms zero t x = 𝟘
  terms (suc n) t x = terms n t x ⊕ pow 𝓕 x (t n)
