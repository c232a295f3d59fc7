-- The search for the roots of the locator among the inverses of the places' locators.
--
--   Search n v L C Z at   `at` lists, rising, all v places below n at whose Z the polynomial C, of degree at most L, is zero
--
-- Assumes nothing.
use Rattle.std.specs.Prelude.{◌≡◌, ℕ, suc}
use Rattle.algebra.specs.Field.{Field}
use Rattle.algebra.specs.Lists.{Lists}
use Rattle.algebra.specs.Series.{Series}
use Rattle.algebra.specs.Value.{ev}

module _ (𝓕 : Field) where
  open 𝓕 use {nil as 𝟘}

  abbrev pub Search : (n v L : ℕ) → (C Z : Series 𝓕) → (ℕ → ℕ) → Type 0
  Search n v L C Z at = Lists n v (λ p. ev 𝓕 (suc L) C (Z p) ≡ 𝟘) at
