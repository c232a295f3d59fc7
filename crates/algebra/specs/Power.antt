-- Powers.
--
--   pow x n     x to the n
--   rising x    the series x, x², x³, ..
--
-- Assumes nothing.
use Rattle.std.specs.Prelude.{ℕ, zero, suc}
use Rattle.algebra.specs.Field.{Field}
use Rattle.algebra.specs.Series.{Series}

module _ (𝓕 : Field) where
  unfoldable pub pow : 𝓕.Carrier → ℕ → 𝓕.Carrier
  pow x zero = 𝓕.one
  pow x (suc n) = 𝓕.mul x (pow x n)

  unfoldable pub rising : 𝓕.Carrier → Series 𝓕
  rising x i = pow x (suc i)
