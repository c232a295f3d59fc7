-- The widths of a check that may be asked for: 0, 8 and 16 bits (document 01, "Refusal numbers").
--
--   kind_of w       the check that each case of `Width` names
--   width_of b      the case for b bits, where there is one
--   kind_asked w    the check that it names, and none where there is no such width
--   is_width b      a check of b bits may be asked for
--   kind_at b       the check of b bits
--
-- Assumes nothing.
use Rattle.std.specs.Prelude.{Bool, cond, ℕ, eqb, Option, Some, None, is_some}
use Rattle.checks.specs.Check.{Kind, none, eight, sixteen}
use Rattle.checks.specs.declared.Width.{Width}
use Rattle.checks.specs.declared.Width.TheVariants.{Zero, Eight, Sixteen}

abbrev pub kind_of : Width → Kind
kind_of Zero = none
kind_of Eight = eight
kind_of Sixteen = sixteen

unfoldable pub width_of : ℕ → Option Width
width_of b = cond (eqb b 0) (Some Zero) (cond (eqb b 8) (Some Eight) (cond (eqb b 16) (Some Sixteen) None))

abbrev pub kind_asked : Option Width → Kind
kind_asked (Some w) = kind_of w
kind_asked None = none

abbrev pub is_width : ℕ → Bool
is_width b = is_some (width_of b)

abbrev pub kind_at : ℕ → Kind
kind_at b = kind_asked (width_of b)
