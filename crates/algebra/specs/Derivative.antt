-- The formal derivative.
--
--   deriv f       its coefficient at n is (n + 1) f₍ₙ₊₁₎, by recursion: in characteristic 2 that is f₁, 0, f₃, 0, ..
--   odds f        f₁, f₃, f₅, ..: what is left of it, as a polynomial in x²
--
-- Assumes nothing.
use Rattle.std.specs.Prelude.{zero, suc, ◌+◌, ◌*◌}
use Rattle.algebra.specs.Field.{Field}
use Rattle.algebra.specs.Series.{Series, operations}

module _ (𝓕 : Field) where
  infixl 60 ◌⊕◌
  open 𝓕 use {add as ◌⊕◌}
  open operations 𝓕 use {tl}

  unfoldable pub deriv : Series 𝓕 → Series 𝓕
  deriv f zero = f 1
  deriv f (suc n) = f (suc (suc n)) ⊕ deriv (tl f) n

  unfoldable pub odds : Series 𝓕 → Series 𝓕
  odds f n = f (2 * n + 1)
