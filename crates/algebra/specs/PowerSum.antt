-- Power sums, and the syndromes of v errors Yₖ at Xₖ, which are power sums.
--
--   psum v Y X i    Y₀ X₀ⁱ + .. + Yᵥ₋₁ Xᵥ₋₁ⁱ
--   synd v Y X      the series whose coefficient at i is the power sum at i + 1
--
-- Assumes nothing.
use Rattle.std.specs.Prelude.{ℕ, zero, suc}
use Rattle.algebra.specs.Field.{Field}
use Rattle.algebra.specs.Series.{Series, operations}
use Rattle.algebra.specs.Power.{pow}

module _ (𝓕 : Field) where
  infixl 60 ◌⊕◌
  infixl 70 ◌⊙◌
  open 𝓕 use {Carrier as F, add as ◌⊕◌, mul as ◌⊙◌, nil as 𝟘}
  open operations 𝓕 use {tl}

  unfoldable pub psum : ℕ → Series 𝓕 → Series 𝓕 → ℕ → F
  psum zero Y X i = 𝟘
  psum (suc v) Y X i = Y 0 ⊙ pow 𝓕 (X 0) i ⊕ psum v (tl Y) (tl X) i

  unfoldable pub synd : ℕ → Series 𝓕 → Series 𝓕 → Series 𝓕
  synd v Y X i = psum v Y X (suc i)
