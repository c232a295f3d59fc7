-- Points at which polynomials are taken: errors' locators, and their inverses.
--
--   Distinct d X       X₀, .., X₍d₋₁₎ are distinct
--   Inverses v X Z     Xₖ Zₖ = 1 for k below v
--
-- Assumes nothing.
use Rattle.std.specs.Prelude.{◌≡◌, ◌≢◌, ℕ, ◌<◌}
use Rattle.algebra.specs.Field.{Field}
use Rattle.algebra.specs.Series.{Series}

module _ (𝓕 : Field) where
  abbrev pub Distinct : ℕ → Series 𝓕 → Type 0
  Distinct d X = (i j : ℕ) → i < j → j < d → X i ≢ X j

  abbrev pub Inverses : ℕ → Series 𝓕 → Series 𝓕 → Type 0
  Inverses v X Z = (k : ℕ) → k < v → 𝓕.mul (X k) (Z k) ≡ 𝓕.one
