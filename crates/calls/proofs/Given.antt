-- A refusal by its number, where a list has one test of that number.
--
--   pick b A B         the one of two statements that a test picks
--   lacks k l          k is none of the numbers of the tests l
--   is_once k l         .. or that of one test alone
--   Given k l          the test with number k holds, and none before it
--   given_exactly      a call is refused with k exactly there
--
-- Assumes nothing.
use mathlib.Core.Path.{◌≡◌, refl, ap}
use mathlib.Core.Logic.{◌↔◌}
use mathlib.Core.Bool.{Bool, true, false, cond, not, ◌&&◌}
use mathlib.Core.List.{List, [], ◌∷◌}
use Prim.Native.Nat.{ℕ}
use borrow.Author.Tests.{eqb-true, eqb-false, not-true}
use lib.Dec.{eqb}
use Rattle.octets.specs.Tests.{both_true, never}
use Rattle.calls.specs.Refusal.{refused, Test, ◌when◌, refusal, Gives}

abbrev pub pick : Bool → Type 0 → Type 0 → Type 0
pick true a b = a
pick false a b = b

abbrev pub lacks : ℕ → List Test → Bool
lacks k [] = true
lacks k ((j when b) ∷ l) = not (eqb j k) && lacks k l

abbrev pub is_once : ℕ → List Test → Bool
is_once k [] = true
is_once k ((j when b) ∷ l) = cond (eqb j k) (lacks k l) (is_once k l)

abbrev pub Given : ℕ → List Test → Type 0
Given k [] = ⊥
Given k ((j when b) ∷ l) = pick (eqb j k) (b ≡ true) ((b ≡ false) × Given k l)

lacks_none : (k : ℕ) (l : List Test) → lacks k l ≡ true → refusal l ≡ refused k → ⊥
lacks_none k [] h e = never (cc)
lacks_none k ((j when true) ∷ l) h e = eqb-false j k (not-true (eqb j k) (both_true (not (eqb j k)) (lacks k l) h).0) (cc)
lacks_none k ((j when false) ∷ l) h e = lacks_none k l (both_true (not (eqb j k)) (lacks k l) h).1 e

pub given_exactly : (k : ℕ) (l : List Test) → is_once k l ≡ true → Gives l k ↔ Given k l
given_exactly k [] h = (λ e. never (cc), λ g. absurd g)
given_exactly k ((j when b) ∷ l) h = by (given_exactly k l) (eqb j k) refl b h
  where
    by : (is_once k l ≡ true → refusal l ≡ refused k ↔ Given k l) → (t : Bool) → eqb j k ≡ t → (b : Bool) → cond t (lacks k l) (is_once k l) ≡ true
        → cond b (refused j) (refusal l) ≡ refused k ↔ pick t (b ≡ true) ((b ≡ false) × Given k l)
    by rest true e true h = (λ q. refl, λ q. ap refused (eqb-true j k e))
    by rest true e false h = (λ q. absurd (lacks_none k l h q), λ q. never (cc))
    by rest false e true h = (λ q. absurd (eqb-false j k e (cc)), λ g. never (cc g.0))
    by rest false e false h = (λ q. (refl, (rest h).0 q), λ g. (rest h).1 g.1)
