-- The claims of specs/Claims.antt.
--
--   first_refuses, none_answers, results_say, one_number   each of them
--
-- Assumes nothing.
use mathlib.Core.Path.{refl}
use mathlib.Core.List.{[], ◌∷◌}
use Rattle.calls.specs.Refusal.{◌when◌}
use Rattle.calls.specs.Claims.{FirstRefuses, NoneAnswers, ResultsSay, OneNumber}
use Rattle.calls.proofs.Laws.{number-once}

pub first_refuses : FirstRefuses
first_refuses [] after k none = refl
first_refuses ((i when b) ∷ l) after k none = rw none.0 (first_refuses l after k none.1)

pub none_answers : NoneAnswers
none_answers [] none = refl
none_answers ((i when b) ∷ l) none = rw none.0 (none_answers l none.1)

pub results_say : (A : Type 0) → ResultsSay A
results_say A = record { answers = λ a. refl; refuses = λ r. refl }

pub one_number : OneNumber
one_number = number-once
