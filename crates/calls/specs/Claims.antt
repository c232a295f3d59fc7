-- What is claimed of a list of tests, whatever they are, and of what answers say; proofs/Theorems.antt proves each claim.
--
--   FirstRefuses    the first test that holds gives its number, whatever stands after it
--   NoneAnswers     where no test holds, nothing is refused
--   ResultsSay A    a result that a function answers says what it is: its value, or refused with the refusal's number
--   OneNumber       no two refusals have one number
--
-- Assumes nothing.
use Rattle.std.specs.Prelude.{◌≡◌, true, List, ◌∷◌, ◌++◌, ℕ, Ok, Err}
use Rattle.calls.specs.declared.Refusal.{Refusal}
use Rattle.calls.specs.Refusal.{refused, told, Test, ◌when◌, refusal, None, number, says}

abbrev pub FirstRefuses : Type 0
FirstRefuses = (before after : List Test) (k : ℕ) → None before → refusal (before ++ k when true ∷ after) ≡ refused k

abbrev pub NoneAnswers : Type 0
NoneAnswers = (l : List Test) → None l → refusal l ≡ told tt

pub record ResultsSay (A : Type 0) : Type 0 where
  pub answers : (a : A) → says (Ok a) ≡ told a
  pub refuses : (r : Refusal) → says {A = A} (Err r) ≡ refused (number r)

abbrev pub OneNumber : Type 0
OneNumber = (r s : Refusal) → number r ≡ number s → r ≡ s
