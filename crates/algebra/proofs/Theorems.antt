-- The claims of specs/Remainder.antt.
--
--   remainder_only     one remainder
--   division_leaves    .. which long division leaves
--
-- Assumes nothing.
use mathlib.Core.Path.{sym, ◌∙◌}
use Rattle.algebra.specs.Field.{Field}
use Rattle.algebra.specs.Remainder.{RemainderOnly, DivisionLeaves}
use Rattle.algebra.proofs.Remainder.{remainder_unique}
use Rattle.algebra.proofs.Polynomial.{polynomial-same}
use Rattle.algebra.proofs.Division.{monic, monic-top, remainder-length, remainder_is}

module _ (𝓕 : Field) where
  pub remainder_only : RemainderOnly 𝓕
  remainder_only d g f r s m a b = polynomial-same 𝓕 r s (a.long ∙ sym b.long) (remainder_unique 𝓕 d g f _ _ m.below m.top a.is b.is)

  pub division_leaves : DivisionLeaves 𝓕
  division_leaves g p = (
    record { below = monic 𝓕 g; top = monic-top 𝓕 g },
    λ l. record { long = remainder-length 𝓕 g p l; is = remainder_is 𝓕 g p l },
  )
