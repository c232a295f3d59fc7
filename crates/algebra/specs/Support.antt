-- The places at which a series is not zero.
--
--   weight n E         their number below n
--   one_if d           what one place adds to it: 0 where it is zero, 1 where not
--   pick f at          the series f at the listed places
--   Support n v E at   `at` lists them, v of them, and the power sums over all n places are those over the v
--
-- Assumes nothing.
use Rattle.std.specs.Prelude.{◌≡◌, ◌≢◌}
use Prim.Native.Nat.{ℕ, zero, suc, ◌+◌}
use Rattle.algebra.specs.Field.{Field}
use Rattle.algebra.specs.Lists.{Lists}
use Rattle.algebra.specs.Series.{Series, operations}
use Rattle.algebra.specs.PowerSum.{psum}

module _ (𝓕 : Field) where
  open 𝓕 use {nil as 𝟘}
  open operations 𝓕 use {tl}

  unfoldable pub one_if : {A : Type 0} → Dec A → ℕ
  one_if (yes a) = 0
  one_if (no n) = 1

  unfoldable pub weight : ℕ → Series 𝓕 → ℕ
  unfolding one_if
  weight zero E = 0
  weight (suc n) E = one_if (𝓕.decide (E 0) 𝟘) + weight n (tl E)

  unfoldable pub pick : Series 𝓕 → (ℕ → ℕ) → Series 𝓕
  pick f at j = f (at j)

  pub record Support (n v : ℕ) (E : Series 𝓕) (at : ℕ → ℕ) : Type 0 where
    pub lists : Lists n v (λ p. E p ≢ 𝟘) at
    pub sums : (A : Series 𝓕) (i : ℕ) → psum 𝓕 n E A i ≡ psum 𝓕 v (pick E at) (pick A at) i
