-- Interpolation at the roots of (x - X₀) .. (x - Xₘ₋₁), after Lagrange.
--
--   quo d f r             the quotient of f, of degree at most d, by x - r
--   total n f             f₀ + .. + fₙ₋₁
--   part m X k            (x - X₀) .. (x - Xₘ₋₁) without its factor x - Xₖ, of degree below m
--   interpolated m X n W  the sum of the first n parts, the k-th taken Wₖ times
--
-- Assumes nothing.
use Rattle.std.specs.Prelude.{ℕ, zero, suc}
use Rattle.algebra.specs.Field.{Field}
use Rattle.algebra.specs.Series.{Series, operations}
use Rattle.algebra.specs.Polynomial.{rooted}
use Rattle.algebra.specs.Value.{ev}

module _ (𝓕 : Field) where
  infixl 60 ◌⊕◌
  infixl 70 ◌⊙◌
  open 𝓕 use {Carrier as F, add as ◌⊕◌, mul as ◌⊙◌, nil as 𝟘}
  open operations 𝓕 use {tl}

  unfoldable pub quo : ℕ → Series 𝓕 → F → Series 𝓕
  quo zero f r k = 𝟘
  quo (suc d) f r zero = ev 𝓕 (suc d) (tl f) r
  quo (suc d) f r (suc k) = quo d (tl f) r k

  unfoldable pub total : ℕ → (ℕ → F) → F
  total zero f = 𝟘
  total (suc n) f = total n f ⊕ f n

  unfoldable pub part : ℕ → Series 𝓕 → ℕ → Series 𝓕
  part m X k = quo m (rooted 𝓕 m X) (X k)

  unfoldable pub interpolated : ℕ → Series 𝓕 → ℕ → Series 𝓕 → Series 𝓕
  interpolated m X n W c = total n (λ k. W k ⊙ part m X k c)
