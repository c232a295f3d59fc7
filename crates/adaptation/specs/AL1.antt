-- AL1 (000, 7.2; document 01, "AL1 and AL2").
--
--   pass_tests u       what refuses it
--   passed u          how passing u ends: it is handed up as it is, unchecked
--   passed_says r u    what the function's answer says, where u was given
--
-- Assumes nothing.
use Rattle.std.specs.Prelude.{not, List, [], ◌∷◌, ℕ, Result, Ok, Err}
use Rattle.calls.specs.Refusal.{Told, refused, told, Test, ◌when◌, checked, number}
use Rattle.calls.specs.declared.Refusal.{Refusal}
use Rattle.adaptation.specs.Handed.{longest_unit, is_unit, Handed, handed}
use Rattle.adaptation.specs.declared.Badge.{Badge}
use Rattle.adaptation.specs.declared.Badge.TheVariants.{Unchecked}

abbrev pub pass_tests : List ℕ → List Test
pass_tests u = 2 when not (is_unit longest_unit u) ∷ []

unfoldable pub passed : List ℕ → Told Handed
passed u = checked refused (pass_tests u) (told (handed Unchecked u))

abbrev pub passed_says : Result Badge Refusal → List ℕ → Told Handed
passed_says (Ok b) u = told (handed b u)
passed_says (Err r) u = refused (number r)
