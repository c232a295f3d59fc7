-- Places that have a property, in a rising list: the places at which a series is not zero, those at which a polynomial is, those at which
-- two words differ.
--
--   Lists n v P at     `at` lists, rising, all v places below n that have P
--
-- Assumes nothing.
use Rattle.std.specs.Prelude.{◌≡◌, ℕ, ◌<◌}

pub record Lists (n v : ℕ) (P : ℕ → Type 0) (at : ℕ → ℕ) : Type 0 where
  pub inside : (j : ℕ) → j < v → at j < n
  pub rises : (i j : ℕ) → i < j → j < v → at i < at j
  pub each : (j : ℕ) → j < v → P (at j)
  pub all : (p : ℕ) → p < n → P p → (j : ℕ) × (j < v) × (at j ≡ p)
