-- How a call ends (document 01, "Refusal numbers").
--
--   Told A          what a call tells: a refusal's number, or an answer of A
--   Ended A X       .. and what it leaves of X, all that it was lent to write to
--   ended t x       it tells t, and leaves x
--   leaving a x     it answers a, and leaves x
--   refusing x k    it is refused with number k: it tells the number only, and leaves everything as it came
--   k when b        a `Test`: refusal k is given where b holds
--   checked f l e   f of the first of the refusals l whose test holds, or else e
--   refusal l       the first of the refusals l whose test holds, if one does
--   Gives l k       the tests l give refusal k
--   None l          no test of the refusals l holds
--   RefusedIs l k before after   k is that one, and what was lent is as it came
--   Refuses d l x   a call that ends as d is refused with the first of the refusals l whose test holds, exactly where one does, and
--                   then leaves x, as it came
--   number r        the number of a refusal
--   says r          what a result says: it tells its value, or the refusal's number
--
-- Assumes nothing.
use Rattle.std.specs.Prelude.{◌≡◌, ◌↔◌, Bool, false, cond, List, [], ◌∷◌, ℕ, Result, Ok, Err}
use Rattle.calls.specs.declared.Refusal.{Refusal}
use Rattle.calls.specs.declared.Refusal.TheVariants.{BadSetting, BadLength, NoRoom, NoEntry, NotOpen, PastEntry, BadMark, HeldTooLong, NothingWaits, BadEntry, AlreadyWaiting, NoPlace, AlreadyOpen, Fixed, BadForm, BadHeader}

infix 68 ◌when◌
pub data Told (A : Type 0) : Type 0 where
  refused : ℕ → Told A
  told : A → Told A

pub record Ended (A X : Type 0) : Type 0 where
  pub answer : Told A
  pub left : X

abbrev pub ended : {A X : Type 0} → Told A → X → Ended A X
ended t x = record { answer = t; left = x }

abbrev pub leaving : {A X : Type 0} → A → X → Ended A X
leaving a x = ended (told a) x

abbrev pub refusing : {A X : Type 0} → X → ℕ → Ended A X
refusing x k = ended (refused k) x

-- ---- tests in their order

pub data Test : Type 0 where
  ◌when◌ : ℕ → Bool → Test

abbrev pub checked : {R : Type 0} → (ℕ → R) → List Test → R → R
checked f [] e = e
checked f ((k when b) ∷ l) e = cond b (f k) (checked f l e)

abbrev pub refusal : List Test → Told (Unit {0})
refusal l = checked refused l (told tt)

abbrev pub Gives : List Test → ℕ → Type 0
Gives l k = refusal l ≡ refused k

abbrev pub None : List Test → Type 0
None [] = Unit {0}
None ((k when b) ∷ l) = (b ≡ false) × None l

pub record RefusedIs {X : Type 0} (l : List Test) (k : ℕ) (before after : X) : Type 0 where
  pub first : refusal l ≡ refused k
  pub same : after ≡ before

pub record Refuses {A X : Type 0} (d : Ended A X) (l : List Test) (x : X) : Type 0 where
  pub exactly : (k : ℕ) → d.answer ≡ refused k ↔ (refusal l ≡ refused k)
  pub leaves : (k : ℕ) → d.answer ≡ refused k → d.left ≡ x

-- ---- what the answers say

abbrev pub number : Refusal → ℕ
number BadSetting = 1
number BadLength = 2
number NoRoom = 3
number NoEntry = 4
number NotOpen = 5
number PastEntry = 6
number BadMark = 7
number HeldTooLong = 8
number NothingWaits = 9
number BadEntry = 10
number AlreadyWaiting = 11
number NoPlace = 12
number AlreadyOpen = 13
number Fixed = 14
number BadForm = 15
number BadHeader = 17

abbrev pub says : {A : Type 0} → Result A Refusal → Told A
says (Ok a) = told a
says (Err r) = refused (number r)
