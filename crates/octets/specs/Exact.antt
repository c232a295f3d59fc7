-- What a test says, exactly: a fact for each outcome of a comparison, and how such equivalences are put together.
--
--   chain                  one equivalence behind another
--   both_of                two of them, beside each other
--   is_true, is_false      the outcome of a test that was turned over
--   denied                 .. where the test says something exactly
--   and-not, not-and-not   one test and not another
--   less, not-less         one number is less than another
--   at_most, two-at_most   .. or at most as much; and two such comparisons
--   either_less            one of two comparisons
--   either_over            .. and one of two that fails
--   equal, not_equal       two numbers are equal
--
-- Assumes nothing.
use Rattle.std.specs.Prelude.{◌≡◌, refl, ◌↔◌, ◌⊎◌, Bool, true, false, not, ◌&&◌, ◌||◌, ℕ, ◌≤◌, ◌<◌, leb, ltb, eqb}
use Rattle.std.proofs.Common.{⊎_elim, inl, inr, arith, le-leb, leb-true, leb-false, lt-ltb, ltb-true, ltb-false, le-ltb, eq-eqb, ne_eqb, eqb-true}
use Rattle.std.proofs.lemmas.Bool.{eqb-false}
use Rattle.octets.specs.Tests.{both_true, never}

pub chain : {A B C : Type 0} → A ↔ B → B ↔ C → A ↔ C
chain p q = (λ a. q.0 (p.0 a), λ c. p.1 (q.1 c))

pub both_of : {A B C D : Type 0} → A ↔ B → C ↔ D → (A × C) ↔ (B × D)
both_of p q = (λ h. (p.0 h.0, q.0 h.1), λ h. (p.1 h.0, q.1 h.1))

pub is_true : (b : Bool) → not b ≡ false ↔ (b ≡ true)
is_true true = (λ e. refl, λ e. refl)
is_true false = (λ e. never (cc), λ e. never (cc))

pub is_false : (b : Bool) → not b ≡ true ↔ (b ≡ false)
is_false true = (λ e. never (cc), λ e. never (cc))
is_false false = (λ e. refl, λ e. refl)

pub denied : {A : Type 0} (b : Bool) → b ≡ true ↔ A → not b ≡ true ↔ (A → ⊥)
denied true q = (λ h. never (cc), λ f. absurd (f (q.0 refl)))
denied false q = (λ h a. let z : false ≡ true = q.1 a in never (cc), λ f. refl)

pub and-not : (m g : Bool) → (m && not g) ≡ true ↔ ((m ≡ true) × (g ≡ false))
and-not true true = (λ e. never (cc), λ h. never (cc h.1))
and-not true false = (λ e. (refl, refl), λ h. refl)
and-not false g = (λ e. never (cc), λ h. never (cc h.0))

pub not-and-not : (m g : Bool) → (m && not g) ≡ false ↔ (m ≡ true → g ≡ true)
not-and-not true true = (λ e h. refl, λ h. refl)
not-and-not true false = (λ e h. never (cc), λ h. let z : false ≡ true = h refl in never (cc))
not-and-not false g = (λ e h. never (cc), λ h. refl)

pub less : (n k : ℕ) → ltb n k ≡ true ↔ (n < k)
less n k = (ltb-true n k, lt-ltb n k)

pub not-less : (n k : ℕ) → ltb n k ≡ false ↔ (k ≤ n)
not-less n k = (ltb-false n k, le-ltb n k)

pub at_most : (n k : ℕ) → leb n k ≡ true ↔ (n ≤ k)
at_most n k = (leb-true n k, le-leb n k)

pub two-at_most : (a b c d : ℕ) → (leb a b && leb c d) ≡ true ↔ ((a ≤ b) × (c ≤ d))
two-at_most a b c d = (
  λ e. let t = both_true (leb a b) (leb c d) e in (leb-true a b t.0, leb-true c d t.1),
  λ h. rw (le-leb a b h.0, le-leb c d h.1),
)

pub either_less : (a b c d : ℕ) → (ltb a b || ltb c d) ≡ true ↔ ((a < b) ⊎ (c < d))
either_less a b c d = by (ltb a b) refl
  where
    by : (t : Bool) → ltb a b ≡ t → (t || ltb c d) ≡ true ↔ ((a < b) ⊎ (c < d))
    by true e = (λ h. inl (ltb-true a b e), λ h. refl)
    by false e = (λ h. inr (ltb-true c d h), second)
      where
        second : (a < b) ⊎ (c < d) → ltb c d ≡ true
        second (inl l) = absurd (omega (arith, ltb-false a b e))
        second (inr l) = lt-ltb c d l

pub either_over : (a b c d : ℕ) → not (leb a b && leb c d) ≡ true ↔ ((b < a) ⊎ (d < c))
either_over a b c d = by (leb a b) (leb c d) refl refl
  where
    by : (s t : Bool) → leb a b ≡ s → leb c d ≡ t → not (s && t) ≡ true ↔ ((b < a) ⊎ (d < c))
    by true true e f =
        (λ h. never (cc), ⊎_elim (λ l. absurd (omega (arith, leb-true a b e))) (λ l. absurd (omega (arith, leb-true c d f))))
    by true false e f = (λ h. inr (leb-false c d f), λ h. refl)
    by false t e f = (λ h. inl (leb-false a b e), λ h. refl)

pub equal : (n k : ℕ) → eqb n k ≡ true ↔ (n ≡ k)
equal n k = (eqb-true n k, eq-eqb n k)

pub not_equal : (n k : ℕ) → eqb n k ≡ false ↔ (n ≡ k → ⊥)
not_equal n k = (eqb-false n k, ne_eqb n k)
