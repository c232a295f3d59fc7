-- The remainder of a division, the one notion that checks and parity are told in, and what is claimed of it; proofs/Theorems.antt proves
-- each claim.
--
--   Monic d g             g has degree d, and its highest coefficient is 1
--   IsRemainder g d f r   r are the d coefficients, the highest first, of the remainder of f by g, which has degree d: f = q g + r for a
--                         polynomial q (`Remainder` of specs/Polynomial.antt)
--   RemainderOnly         a monic g leaves one remainder
--   DivisionLeaves        x^w + g, where g has w coefficients, is monic, and long division by it leaves the remainder
--
-- Assumes nothing.
use Rattle.std.specs.Prelude.{◌≡◌, List, ◌∷◌, ℕ, suc, ◌≤◌, length}
use Rattle.algebra.specs.Field.{Field}
use Rattle.algebra.specs.Series.{Series, Below}
use Rattle.algebra.specs.Polynomial.{polynomial, Remainder}
use Rattle.algebra.specs.Division.{remainder}

module _ (𝓕 : Field) where
  open 𝓕 use {Carrier as F, one as 𝟙}

  pub record Monic (d : ℕ) (g : Series 𝓕) : Type 0 where
    pub below : Below 𝓕 (suc d) g
    pub top : g d ≡ 𝟙

  pub record IsRemainder (g : Series 𝓕) (d : ℕ) (f : Series 𝓕) (r : List F) : Type 0 where
    pub long : length r ≡ d
    pub is : Remainder 𝓕 g d f (polynomial 𝓕 r)

  abbrev pub RemainderOnly : Type 0
  RemainderOnly = (d : ℕ) (g f : Series 𝓕) (r s : List F) → Monic d g → IsRemainder g d f r → IsRemainder g d f s → r ≡ s

  abbrev pub DivisionLeaves : Type 0
  DivisionLeaves =
      (g p : List F) → Monic (length g) (polynomial 𝓕 (𝟙 ∷ g))
      × (length g ≤ length p → IsRemainder (polynomial 𝓕 (𝟙 ∷ g)) (length g) (polynomial 𝓕 p) (remainder 𝓕 g p))
