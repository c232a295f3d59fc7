-- A register that divides by x^w + g, where g has w coefficients: it starts with s, and takes a content c.
--
--   divisor g          x^w + g
--   taken w s c        the polynomial x^k s + x^w c, where c has k coefficients
--   register g s c     what it then holds: the sum of the remainders of x^k s and of x^w c
--
-- Assumes nothing.
use Rattle.std.specs.Prelude.{List, ◌∷◌, ◌++◌, ℕ, length, replicate}
use Rattle.algebra.specs.Field.{Field}
use Rattle.algebra.specs.Series.{Series, operations}
use Rattle.algebra.specs.Polynomial.{polynomial, raised}
use Rattle.algebra.specs.Division.{sum, remainder}

module _ (𝓕 : Field) where
  infixl 60 ◌⊞◌
  open 𝓕 use {Carrier as F, nil as 𝟘, one as 𝟙}
  open operations 𝓕 use {◌⊞◌}

  abbrev pub divisor : List F → Series 𝓕
  divisor g = polynomial 𝓕 (𝟙 ∷ g)

  abbrev pub taken : ℕ → List F → List F → Series 𝓕
  taken w s c = raised 𝓕 (length c) (polynomial 𝓕 s) ⊞ raised 𝓕 w (polynomial 𝓕 c)

  unfoldable pub register : List F → List F → List F → List F
  register g s c = sum 𝓕 (remainder 𝓕 g (s ++ replicate (length c) 𝟘)) (remainder 𝓕 g (c ++ replicate (length g) 𝟘))
