-- The locator of errors at X₀, .., Xᵥ₋₁, and its value.
--
--   lin a f         (1 - a x) f
--   loc v X         (1 - X₀ x) .. (1 - Xᵥ₋₁ x)
--   prod v X x      its value at x, as a product
--   skip v X k x    .. without the factor 1 - Xₖ x
--
-- Assumes nothing.
use Rattle.std.specs.Prelude.{ℕ, zero, suc}
use Rattle.algebra.specs.Field.{Field}
use Rattle.algebra.specs.Series.{Series, operations}

module _ (𝓕 : Field) where
  infixl 60 ◌⊕◌ ◌⊞◌
  infixl 70 ◌⊙◌
  infixr 80 ◌⊡◌
  open 𝓕 use {Carrier as F, add as ◌⊕◌, mul as ◌⊙◌, one as 𝟙}
  open operations 𝓕 use {◌⊞◌, ◌⊡◌, unit, sh, tl}

  unfoldable pub lin : F → Series 𝓕 → Series 𝓕
  lin a f = f ⊞ a ⊡ sh f

  unfoldable pub loc : ℕ → Series 𝓕 → Series 𝓕
  loc zero X = unit
  loc (suc v) X = lin (X 0) (loc v (tl X))

  unfoldable pub prod : ℕ → Series 𝓕 → F → F
  prod zero X x = 𝟙
  prod (suc v) X x = (𝟙 ⊕ X 0 ⊙ x) ⊙ prod v (tl X) x

  unfoldable pub skip : ℕ → Series 𝓕 → ℕ → F → F
  skip zero X k x = 𝟙
  skip (suc v) X zero x = prod v (tl X) x
  skip (suc v) X (suc k) x = (𝟙 ⊕ X 0 ⊙ x) ⊙ skip v (tl X) k x
