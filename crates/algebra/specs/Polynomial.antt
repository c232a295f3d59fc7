-- Polynomials given by their coefficients, and their division.
--
--   monomial n a         a x^n
--   polynomial w         the polynomial of a list of coefficients, the highest first: w₀ x^(n-1) + .. + wₙ₋₁
--   raised n f           x^n f
--   Divides g f          g divides f: f = q g for a polynomial q
--   Remainder g d f p    p, of degree below d, is the remainder of f by g, which has degree d: g divides f - p
--   root r f             (x - r) f, which is (x + r) f
--   rooted n X           (x - X₀) (x - X₁) .. (x - Xₙ₋₁)
--
-- Assumes nothing.
use Rattle.std.specs.Prelude.{◌≡◌, List, [], ◌∷◌, ℕ, zero, suc, length}
use Rattle.algebra.specs.Field.{Field}
use Rattle.algebra.specs.Series.{Series, Below, operations}

module _ (𝓕 : Field) where
  infixl 60 ◌⊞◌
  infixl 70 ◌⊛◌
  infixr 80 ◌⊡◌
  open operations 𝓕 use {◌⊞◌, ◌⊡◌, ◌⊛◌, none, unit, sh}

  unfoldable pub monomial : ℕ → 𝓕.Carrier → Series 𝓕
  monomial zero a = a ⊡ unit
  monomial (suc n) a = sh (monomial n a)

  unfoldable pub polynomial : List 𝓕.Carrier → Series 𝓕
  polynomial [] = none
  polynomial (a ∷ w) = monomial (length w) a ⊞ polynomial w

  unfoldable pub raised : ℕ → Series 𝓕 → Series 𝓕
  raised zero f = f
  raised (suc n) f = sh (raised n f)

  pub record Divides (g f : Series 𝓕) : Type 0 where
    pub quotient : Series 𝓕
    pub degree : ℕ
    pub finite : Below 𝓕 degree quotient
    pub is : f ≡ quotient ⊛ g

  pub record Remainder (g : Series 𝓕) (d : ℕ) (f p : Series 𝓕) : Type 0 where
    pub small : Below 𝓕 d p
    pub divides : Divides g (f ⊞ p)

  unfoldable pub root : 𝓕.Carrier → Series 𝓕 → Series 𝓕
  root r f = sh f ⊞ r ⊡ f

  unfoldable pub rooted : ℕ → Series 𝓕 → Series 𝓕
  rooted zero X = unit
  rooted (suc n) X = root (X n) (rooted n X)
