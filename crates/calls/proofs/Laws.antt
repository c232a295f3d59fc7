-- Laws of how a call ends, for the crates above.
--
--   told-refused       a call is not answered and refused
--   told_same          two answers that are told alike are equal
--   leaving-same       .. and so is what two calls leave that end alike
--   by_test            what holds of both ends of a test holds of what it decides
--   by_tests           what holds of every refusal, and of the end that is reached where no test holds, holds of the call
--   both_tests         .. and so of two calls that are refused by one list of tests
--   checked_through    what is made of a call's end is made of each refusal and of the other end
--   checked_leaves     a refusal leaves what was lent as it came
--   checked_keeps      what holds of what was lent, and of what an accepted call leaves, holds of what a call leaves
--   checked_refuses    a call that is refused by a list of tests refuses by them
--   told_refuses       .. and one that is lent nothing
--   allowed_refuses    an answer where no test holds refuses by them
--   refused_refuses    .. and so does a refusal by the first that holds
--   Given, is_once, given_exactly   a call is refused with a number exactly where the test of that number holds, and none before it (Given)
--   once               two things of which something says the same are equal, where the saying can be undone
--   both-once          two answers of which a saying and what is left say the same, where the saying can be undone
--   number-once        two refusals of one number are one
--   says-once          two results that say the same are equal
--   both_say-once      .. and what is left beside them
--
-- Assumes nothing.
use mathlib.Core.Path.{◌≡◌, refl, sym, ap, ◌∙◌}
use mathlib.Core.Bool.{Bool, true, false, cond}
use mathlib.Core.List.{List, [], ◌∷◌}
use Prim.Native.Nat.{ℕ}
use Rattle.octets.specs.Tests.{never}
use Rattle.calls.specs.Refusal.{Told, refused, told, Ended, ended, leaving, refusing, Test, ◌when◌, checked, refusal, None, Refuses}
use Rattle.calls.specs.Refusal.{number, says}
use Rattle.calls.specs.declared.Refusal.{Refusal}
use Rattle.calls.specs.declared.Refusal.TheVariants.{BadSetting, BadLength, NoRoom, NoEntry, NotOpen, PastEntry, BadMark, HeldTooLong, NothingWaits, BadEntry, AlreadyWaiting, NoPlace, AlreadyOpen, Fixed, BadForm, BadHeader}
use Rattle.std.specs.Prelude.{Result, Ok, Err, get_or}
pub use Rattle.calls.proofs.Given.{Given, is_once, given_exactly}

pub told-refused : {A B : Type 0} {t : Told A} {a : A} {k : ℕ} → t ≡ told a → t ≡ refused k → B
told-refused p q = never (cc)

pub told_same : {A : Type 0} (a b : A) → told a ≡ told b → a ≡ b
told_same a b e = cc

pub leaving-same : {A X : Type 0} (a b : A) (x y : X) → leaving a x ≡ leaving b y → (a ≡ b) × (x ≡ y)
leaving-same {A = A} {X = X} a b x y e = (told_same a b (ap (λ (r : Ended A X). r.answer) e), ap (λ (r : Ended A X). r.left) e)

refused-same : {A B : Type 0} (i k : ℕ) → ◌≡◌ {A = Told A} (refused i) (refused k) → ◌≡◌ {A = Told B} (refused i) (refused k)
refused-same i k e = cc

-- ---- tests

pub by_test : {A : Type 0} (P : A → Type 0) (b : Bool) {x y : A} → (b ≡ true → P x) → (b ≡ false → P y) → P (cond b x y)
by_test P true f g = f refl
by_test P false f g = g refl

pub by_tests : {A : Type 0} (P : A → Type 0) (f : ℕ → A) (l : List Test) (e : A) → ((k : ℕ) → P (f k)) → (None l → P e) → P (checked f l e)
by_tests P f [] e r a = a tt
by_tests P f ((k when b) ∷ l) e r a = by_test P b (λ h. r k) (λ h. by_tests P f l e r (λ n. a (h, n)))

pub both_tests : {A B : Type 0} (P : A → B → Type 0) (f : ℕ → A) (g : ℕ → B) (l : List Test) (a : A) (b : B)
    → ((k : ℕ) → P (f k) (g k)) → (None l → P a b) → P (checked f l a) (checked g l b)
both_tests P f g [] a b r h = h tt
both_tests P f g ((k when true) ∷ l) a b r h = r k
both_tests P f g ((k when false) ∷ l) a b r h = both_tests P f g l a b r (λ n. h (refl, n))

pub checked_through : {R S : Type 0} (g : R → S) (f : ℕ → R) (l : List Test) (e : R) → g (checked f l e) ≡ checked (λ k. g (f k)) l (g e)
checked_through g f [] e = refl
checked_through g f ((k when true) ∷ l) e = refl
checked_through g f ((k when false) ∷ l) e = checked_through g f l e

module _ {A X : Type 0} (x : X) (l : List Test) where
  pub checked_keeps : (P : X → Type 0) (e : Ended A X) → P x → (None l → P e.left) → P (checked (refusing x) l e).left
  checked_keeps P e p f = by_tests (λ r. P r.left) (refusing x) l e (λ k. p) f

  pub checked_leaves : (a : A) (y : X) (k : ℕ) → (checked (refusing x) l (leaving a y)).answer ≡ refused k → (checked (refusing x) l (leaving a y)).left ≡ x
  checked_leaves a y k =
      by_tests (λ (r : Ended A X). r.answer ≡ refused k → r.left ≡ x) (refusing x) l (leaving a y) (λ i e. refl)
      (λ none e. told-refused {A = A} refl e)

-- ---- what a list of tests refuses

module _ {A X : Type 0} (x : X) (l : List Test) where
  pub allowed_refuses : (a : A) (y : X) → refusal l ≡ told tt → Refuses (leaving a y) l x
  allowed_refuses a y h = record { exactly = λ k. (λ e. told-refused {A = A} refl e, λ e. told-refused h e); leaves = λ k e. told-refused {A = A} refl e }

  pub refused_refuses : (i : ℕ) (y : X) → refusal l ≡ refused i → y ≡ x → Refuses {A = A} (refusing y i) l x
  refused_refuses i y h s = record {
    exactly = λ k. (λ e. h ∙ refused-same {A = A} i k e, λ e. refused-same i k (sym h ∙ e));
    leaves = λ k e. s;
  }

pub checked_refuses : {A X : Type 0} (x : X) (l : List Test) (a : A) (y : X) → Refuses (checked (refusing x) l (leaving a y)) l x
checked_refuses x [] a y = allowed_refuses x [] a y refl
checked_refuses {A = A} {X = X} x ((i when b) ∷ l) a y = by b (checked_refuses x l a y)
  where
    by : (b : Bool) → Refuses (checked (refusing x) l (leaving a y)) l x
        → Refuses (cond b (refusing x i) (checked (refusing x) l (leaving a y))) (i when b ∷ l) x
    by true h = refused_refuses x (i when true ∷ l) i x refl refl
    by false h = record { exactly = h.exactly; leaves = h.leaves }

pub told_refuses : {A : Type 0} (l : List Test) (a : A) → Refuses {X = Unit {0}} (ended (checked refused l (told a)) tt) l tt
told_refuses [] a = allowed_refuses tt [] a tt refl
told_refuses {A = A} ((i when b) ∷ l) a = by b (told_refuses l a)
  where
    by : (b : Bool) → Refuses {X = Unit {0}} (ended (checked refused l (told a)) tt) l tt
        → Refuses {X = Unit {0}} (ended (cond b (refused i) (checked refused l (told a))) tt) (i when b ∷ l) tt
    by true h = refused_refuses tt (i when true ∷ l) i tt refl refl
    by false h = record { exactly = h.exactly; leaves = h.leaves }

-- ---- one answer

pub once : {A B : Type 0} (says : A → B) (undo : B → A) → ((a : A) → undo (says a) ≡ a) → (a b : A) (x : B) → says a ≡ x → says b ≡ x → a ≡ b
once says undo back a b x p q = sym (back a) ∙ ap undo (p ∙ sym q) ∙ back b

module _ {R A X : Type 0} (says : R → Told A) (undo : Told A → R) (back : (r : R) → undo (says r) ≡ r) where
  pub both-once : (a b : R) (x y : X) (z : Ended A X) → ended (says a) x ≡ z → ended (says b) y ≡ z → (a ≡ b) × (x ≡ y)
  both-once a b x y z p q = (
    once says undo back a b z.answer (ap (λ (r : Ended A X). r.answer) p) (ap (λ (r : Ended A X). r.answer) q),
    ap (λ (r : Ended A X). r.left) (p ∙ sym q),
  )

-- the refusals by their numbers; there is none of number 0, nor of 16
numbered : List Refusal
numbered =
    Fixed ∷ BadSetting ∷ BadLength ∷ NoRoom ∷ NoEntry ∷ NotOpen ∷ PastEntry ∷ BadMark ∷ HeldTooLong ∷ NothingWaits ∷ BadEntry ∷ AlreadyWaiting
    ∷ NoPlace ∷ AlreadyOpen ∷ Fixed ∷ BadForm ∷ Fixed ∷ BadHeader ∷ []

of_number : ℕ → Refusal
of_number k = get_or numbered k Fixed

number_back : (r : Refusal) → of_number (number r) ≡ r
unfolding of_number numbered
number_back BadSetting = refl
number_back BadLength = refl
number_back NoRoom = refl
number_back NoEntry = refl
number_back NotOpen = refl
number_back PastEntry = refl
number_back BadMark = refl
number_back HeldTooLong = refl
number_back NothingWaits = refl
number_back BadEntry = refl
number_back AlreadyWaiting = refl
number_back NoPlace = refl
number_back AlreadyOpen = refl
number_back Fixed = refl
number_back BadForm = refl
number_back BadHeader = refl

pub number-once : (r s : Refusal) → number r ≡ number s → r ≡ s
number-once r s e = sym (number_back r) ∙ ap of_number e ∙ number_back s

module _ {A : Type 0} where
  unsaid : Told A → Result A Refusal
  unsaid (told a) = Ok a
  unsaid (refused k) = Err (of_number k)

  said_back : (r : Result A Refusal) → unsaid (says r) ≡ r
  unfolding unsaid
  said_back (Ok a) = refl
  said_back (Err r) = rw number_back

  pub says-once : (a b : Result A Refusal) (x : Told A) → says a ≡ x → says b ≡ x → a ≡ b
  says-once = once says unsaid said_back

  pub both_say-once : {X : Type 0} (a b : Result A Refusal) (x y : X) (z : Ended A X) → ended (says a) x ≡ z → ended (says b) y ≡ z
      → (a ≡ b) × (x ≡ y)
  both_say-once = both-once says unsaid said_back
