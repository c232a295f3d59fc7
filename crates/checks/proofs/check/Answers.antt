-- By the width: no octets and two zeros; one and a zero; or two.
use Rattle.std.proofs.Common.{◌≡◌, refl, sym, ap, ◌∙◌, List, ◌++◌, ◌∷◌, [], ℕ, arith, append-nil, length, get_or, rules}
use Rattle.checks.specs.Bits.{octets_of}
use Rattle.checks.specs.Check.{none, eight, sixteen, check_of}
use Rattle.checks.proofs.check.Goals as goal

one : (r : List ℕ) → length r ≡ 1 → get_or r 0 0 ∷ 0 ∷ [] ≡ r ++ 0 ∷ []
one [] l = absurd (omega arith)
one (a ∷ []) l = refl
one (a ∷ b ∷ r) l = absurd (omega arith)

pub check_by-requires : goal.check_by-requires
unfolding eight
check_by-requires c = search rules

pub check_by-requires-in-Sixteen : goal.check_by-requires-in-Sixteen
unfolding sixteen
check_by-requires-in-Sixteen c = search rules

pub returns-in-Zero : goal.returns-in-Zero
unfolding octets_of check_of none
returns-in-Zero c = rw c.in-Zero.is

pub returns-in-Eight : goal.returns-in-Eight
unfolding eight
returns-in-Eight c = rw c.in-Eight.is (one c.check_by.result (omega arith) ∙ ap (λ (r : List ℕ). r ++ 0 ∷ []) c.check_by.ensures)

pub returns-in-Sixteen : goal.returns-in-Sixteen
unfolding sixteen
returns-in-Sixteen c = rw (c.in-Sixteen.is, ← c.check_by-in-Sixteen.ensures) (sym (append-nil _))
