-- Power series over a field, and polynomials among them. A series is the function from k to its coefficient of x^k.
--
--   Series       all of them
--   f ⊞ g        f + g
--   c ⊡ f        c f, for c of the field
--   none         0
--   unit         1
--   sh f         x f
--   tl f         (f - f₀) / x
--   f ⊛ g        f g: its coefficient at n is f₀ gₙ + f₁ gₙ₋₁ + .. + fₙ g₀
--   Below d f    f is a polynomial of degree below d
--   Operations   the operations as one record, for an `open` line
--   operations   .. of a field
--
-- Every operation is shut; its clauses are the lemmas of proofs/Product.antt. Assumes nothing.
use Rattle.std.specs.Prelude.{◌≡◌, ℕ, zero, suc, ◌≤◌}
use Rattle.algebra.specs.Field.{Field}

module _ (𝓕 : Field) where
  infixl 60 ◌⊕◌
  infixl 70 ◌⊙◌
  open 𝓕 use {Carrier as F, add as ◌⊕◌, mul as ◌⊙◌, nil as 𝟘, one as 𝟙}

  abbrev pub Series : Type 0
  Series = ℕ → F

  unfoldable pub ◌⊞◌ : Series → Series → Series
  ◌⊞◌ f g n = f n ⊕ g n

  unfoldable pub ◌⊡◌ : F → Series → Series
  ◌⊡◌ c f n = c ⊙ f n

  unfoldable pub none : Series
  none n = 𝟘

  unfoldable pub unit : Series
  unit zero = 𝟙
  unit (suc n) = 𝟘

  unfoldable pub sh : Series → Series
  sh f zero = 𝟘
  sh f (suc n) = f n

  unfoldable pub tl : Series → Series
  tl f n = f (suc n)

  -- by recursion on the index, f₀ gₙ and then the product of (f - f₀) / x and g at n - 1: no law needs a finite sum
  unfoldable pub ◌⊛◌ : Series → Series → Series
  ◌⊛◌ f g zero = f 0 ⊙ g 0
  ◌⊛◌ f g (suc n) = f 0 ⊙ g (suc n) ⊕ ◌⊛◌ (tl f) g n

  abbrev pub Below : ℕ → Series → Type 0
  Below d f = (k : ℕ) → d ≤ k → f k ≡ 𝟘

pub record Operations (𝓕 : Field) : Type 0 where
  pub ◌⊞◌ : Series 𝓕 → Series 𝓕 → Series 𝓕
  pub ◌⊡◌ : 𝓕.Carrier → Series 𝓕 → Series 𝓕
  pub ◌⊛◌ : Series 𝓕 → Series 𝓕 → Series 𝓕
  pub none : Series 𝓕
  pub unit : Series 𝓕
  pub sh : Series 𝓕 → Series 𝓕
  pub tl : Series 𝓕 → Series 𝓕

abbrev pub operations : (𝓕 : Field) → Operations 𝓕
operations 𝓕 = record { ◌⊞◌ = ◌⊞◌ 𝓕; ◌⊡◌ = ◌⊡◌ 𝓕; ◌⊛◌ = ◌⊛◌ 𝓕; none = none 𝓕; unit = unit 𝓕; sh = sh 𝓕; tl = tl 𝓕 }
