-- Long division of polynomials, each given by its coefficients, the highest first; a sum is also a difference.
--
--   sum p q         p + q; where q has fewer coefficients, they stand under the highest of p
--   scaled a g      a g, for a of the field
--   lowered g p     one step of the division of p by x^w + g, where g has w coefficients: the highest coefficient a of p goes,
--                   and a g is taken off what stands next
--   divided k g p   k such steps
--   remainder g p   steps until w coefficients are left, which are the remainder
--
-- Assumes nothing.
use Rattle.std.specs.Prelude.{List, [], ◌∷◌, map, ℕ, zero, suc, ◌-◌, length}
use Rattle.algebra.specs.Field.{Field}

module _ (𝓕 : Field) where
  infixl 60 ◌⊕◌
  infixl 70 ◌⊙◌
  open 𝓕 use {Carrier as F, add as ◌⊕◌, mul as ◌⊙◌}

  unfoldable pub sum : List F → List F → List F
  sum [] q = []
  sum (a ∷ p) [] = a ∷ p
  sum (a ∷ p) (b ∷ q) = (a ⊕ b) ∷ sum p q

  abbrev pub scaled : F → List F → List F
  scaled a g = map (λ b. a ⊙ b) g

  unfoldable pub lowered : List F → List F → List F
  lowered g [] = []
  lowered g (a ∷ p) = sum p (scaled a g)

  unfoldable pub divided : ℕ → List F → List F → List F
  divided zero g p = p
  divided (suc k) g p = divided k g (lowered g p)

  unfoldable pub remainder : List F → List F → List F
  remainder g p = divided (length p - length g) g p
