-- Rising lists of the places that have a property.
--
--   lists-none    no places are listed by nothing
--   up, front     the list moved up by one place; and with place 0 before it
--   lists-skip    place 0 has not the property: the list of the others, moved up
--   lists-take    .. it has: with 0 before it
--   lists_as      the same places by a like list, for a like property
--   lists-same    two lists of the same places are as long, and equal
--
-- Assumes nothing.
use mathlib.Core.Path.{◌≡◌, refl, sym, ap, ◌∙◌, subst}
use Prim.Native.Nat.{ℕ, zero, suc, ◌≤◌, ◌<◌}
use native.Mathlib.Omega.{arith}
use native.Mathlib.Decide.{dec_le}
use Rattle.algebra.specs.Lists.{Lists}

pub lists-none : (P : ℕ → Type 0) (at : ℕ → ℕ) → Lists 0 0 P at
lists-none P at = record {
  inside = λ j l. absurd (omega arith);
  rises = λ i j l m. absurd (omega arith);
  each = λ j l. absurd (omega arith);
  all = λ p l. absurd (omega arith);
}

-- ---- one place more, in front

abbrev pub up : (ℕ → ℕ) → ℕ → ℕ
up at j = suc (at j)

unfoldable pub front : (ℕ → ℕ) → ℕ → ℕ
front at zero = 0
front at (suc j) = suc (at j)

module _ (n v : ℕ) (P : ℕ → Type 0) (at : ℕ → ℕ) (s : Lists n v (λ p. P (suc p)) at) where
  pub lists-skip : (P 0 → ⊥) → Lists (suc n) v P (up at)
  lists-skip e = record {
    inside = λ j l. omega (arith, s.inside j l);
    rises = λ i j l m. omega (arith, s.rises i j l m);
    each = s.each;
    all = every;
  }
    where
      every : (p : ℕ) → p < suc n → P p → (j : ℕ) × (j < v) × (suc (at j) ≡ p)
      every zero l h = absurd (e h)
      every (suc p) l h = let r = s.all p (omega arith) h in (r.0, r.1, ap suc r.2)

  pub lists-take : P 0 → Lists (suc n) (suc v) P (front at)
  unfolding front
  lists-take e = record { inside = inside; rises = rises; each = each; all = every }
    where
      inside : (j : ℕ) → j < suc v → front at j < suc n
      inside zero l = omega arith
      inside (suc j) l = omega (arith, s.inside j (omega arith))

      rises : (i j : ℕ) → i < j → j < suc v → front at i < front at j
      rises zero zero l m = absurd (omega arith)
      rises zero (suc j) l m = omega arith
      rises (suc i) zero l m = absurd (omega arith)
      rises (suc i) (suc j) l m = omega (arith, s.rises i j (omega arith) (omega arith))

      each : (j : ℕ) → j < suc v → P (front at j)
      each zero l = e
      each (suc j) l = s.each j (omega arith)

      every : (p : ℕ) → p < suc n → P p → (j : ℕ) × (j < suc v) × (front at j ≡ p)
      every zero l h = (0, omega arith, refl)
      every (suc p) l h = let r = s.all p (omega arith) h in let m : r.0 < v = r.1 in (suc r.0, omega arith, ap suc r.2)

-- ---- the same places

pub lists_as : (n v : ℕ) (P Q : ℕ → Type 0) (at bt : ℕ → ℕ) → ((p : ℕ) → p < n → P p → Q p) → ((p : ℕ) → p < n → Q p → P p)
    → ((j : ℕ) → j < v → at j ≡ bt j) → Lists n v P at → Lists n v Q bt
lists_as n v P Q at bt to back same s = record {
  inside = λ j l. omega (arith, same j l, s.inside j l);
  rises = λ i j l m. omega (arith, same i (omega arith), same j m, s.rises i j l m);
  each = λ j l. subst Q (same j l) (to (at j) (s.inside j l) (s.each j l));
  all = λ p l h. let r = s.all p l (back p l h) in (r.0, r.1, sym (same r.0 r.1) ∙ r.2);
}

module _ (n v w : ℕ) (P : ℕ → Type 0) (at bt : ℕ → ℕ) (s : Lists n v P at) (t : Lists n w P bt) where
  -- the j-th of the one is the j-th of the other
  same_to : (m j : ℕ) → j < m → j < v → (j < w) × (at j ≡ bt j)
  same_to zero j l h = absurd (omega arith)
  same_to (suc m) j l h = go (t.all (at j) (s.inside j h) (s.each j h)) (same_to m)
    where
      go : (k : ℕ) × (k < w) × (bt k ≡ at j) → ((i : ℕ) → i < m → i < v → (i < w) × (at i ≡ bt i)) → (j < w) × (at j ≡ bt j)
      go r ih = (j<w, eq (s.all (bt j) (t.inside j j<w) (t.each j j<w)))
        where
          before : r.0 < j → ⊥
          before p = let a = s.rises r.0 j p h in let b = (ih r.0 (omega arith) (omega arith)).1 in let c = r.2 in omega arith

          j<w : j < w
          j<w = let p = r.1 in elim (dec_le j r.0) [ yes q ↦ omega arith | no q ↦ absurd (before (omega arith)) ]

          low : bt j ≤ at j
          low = let c = r.2 in elim (dec_le r.0 j) [
            | yes q ↦ (let z : r.0 ≡ j = elim (dec_le j r.0) [ yes o ↦ omega arith | no o ↦ absurd (before (omega arith)) ] in omega (arith, ap bt z))
            | no q ↦ omega (arith, t.rises j r.0 (omega arith) r.1)
          ]

          eq : (i : ℕ) × (i < v) × (at i ≡ bt j) → at j ≡ bt j
          eq u = let c = u.2 in elim (dec_le j u.0) [
            | yes q ↦ elim (dec_le u.0 j) [
              | yes o ↦ (let z : u.0 ≡ j = omega arith in sym (ap at z) ∙ c)
              | no o ↦ (let a = s.rises j u.0 (omega arith) u.1 in omega (arith, low))
            ]
            | no q ↦ absurd (let b = (ih u.0 (omega arith) u.1).1 in let a = t.rises u.0 j (omega arith) j<w in omega arith)
          ]

count-le : (n v w : ℕ) (P : ℕ → Type 0) (at bt : ℕ → ℕ) → Lists n v P at → Lists n w P bt → v ≤ w
count-le n zero w P at bt s t = omega arith
count-le n (suc v) w P at bt s t = (same_to n (suc v) w P at bt s t (suc v) v (omega arith) (omega arith)).0

pub lists-same : (n v w : ℕ) (P : ℕ → Type 0) (at bt : ℕ → ℕ) → Lists n v P at → Lists n w P bt → (v ≡ w) × ((j : ℕ) → j < v → at j ≡ bt j)
lists-same n v w P at bt s t = (
  let a = count-le n v w P at bt s t in let b = count-le n w v P bt at t s in omega arith,
  λ j l. (same_to n v w P at bt s t v j l l).1,
)
