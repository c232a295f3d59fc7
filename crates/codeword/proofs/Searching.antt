-- The search for the roots, place by place.
--
--   inverse_of-place                              the inverse of the locator of place p is α to the 256 - n + p
--   gathered_start, gathered-skip, gathered_hit   the zeros among the values, one place after another
--   gathered_searched                             .. are the roots
--
-- Assumes nothing.
use mathlib.Core.Path.{◌≡◌, refl, sym, ap, ap₂, ◌∙◌}
use mathlib.Core.Logic.{◌≢◌}
use mathlib.Core.List.{List}
use Prim.Native.Nat.{ℕ, suc, ◌+◌, ◌-◌, ◌≤◌, ◌<◌}
use native.Mathlib.Numerals.{add-one}
use native.Mathlib.Omega.{arith}
use native.Mathlib.Decide.{dec_lt}
use lib.ListN.{length, get_or, set, length-set}
use lib.Seq.{get_or-set_same, get_or-set_other}
use Rattle.algebra.specs.Value.{ev}
use Rattle.algebra.proofs.Laws.{lists-none, lists_as}
use Rattle.field.specs.Octet as Octet
use Rattle.codeword.specs.Element.{elements, octet}
use Rattle.codeword.specs.Element.Laws.{octet-same, octet-nil, element-octet}
use Rattle.codeword.proofs.Element.Laws.{octet-pow}
use Rattle.codeword.specs.CodeWord.{longest_word}
use Rattle.codeword.specs.Places.{places, inverses}
use Rattle.codeword.specs.Search.{value_of, SearchIs, Gathered}
use Rattle.codeword.proofs.Arrays.{zeros}
use Rattle.codeword.proofs.Word.{inverses-at}
open elements use {Carrier as F, nil as 𝟘}

pub inverse_of-place : (n p : ℕ) → p < n → n ≤ longest_word → octet (inverses n p) ≡ Octet.power Octet.α (256 - n + p)
inverse_of-place n p l h =
    let e : Octet.order - (n - suc p) ≡ 256 - n + p = omega arith in
    ap octet (inverses-at n p) ∙ octet-pow (Octet.order - (n - suc p)) ∙ ap (Octet.power Octet.α) e

-- ---- the search

pub gathered_start : {v : List ℕ} → Gathered 0 v zeros 0
gathered_start = record { long = refl; few = omega arith; lists = lists-none _ _ }

-- no zero in a row of places
pub gathered-skip : {p q count : ℕ} {v at : List ℕ} → p ≤ q → ((k : ℕ) → p ≤ k → k < q → get_or v k 0 ≢ 0) → Gathered p v at count
    → Gathered q v at count
gathered-skip {p} {q} {count} {v} {at} m none g = record {
  long = g.long;
  few = omega (arith, g.few);
  lists = record {
    inside = λ j h. omega (arith, g.lists.inside j h);
    rises = g.lists.rises;
    each = g.lists.each;
    all = λ k h z. go k h z (dec_lt k p);
  };
}
  where
    go : (k : ℕ) → k < q → get_or v k 0 ≡ 0 → Dec (k < p) → (j : ℕ) × (j < count) × (get_or at j 0 ≡ k)
    go k h z (yes a) = g.lists.all k a z
    go k h z (no a) = absurd (none k (omega arith) h z)

pub gathered_hit : {p count : ℕ} {v at : List ℕ} → p < longest_word → get_or v p 0 ≡ 0 → Gathered p v at count
    → Gathered (p + 1) v (set at count p) (count + 1)
gathered_hit {p} {count} {v} {at} small zero g = record {
  long = length-set at count p ∙ g.long;
  few = omega (arith, g.few);
  lists = record { inside = inside; rises = rises; each = each; all = all };
}
  where
    room : count < length at
    room = omega (arith, g.long, g.few)

    new : get_or (set at count p) count 0 ≡ p
    new = get_or-set_same at count p 0 room

    old : (j : ℕ) → j < count → get_or (set at count p) j 0 ≡ get_or at j 0
    old j h = get_or-set_other at count j p 0 (omega arith)

    inside : (j : ℕ) → j < count + 1 → get_or (set at count p) j 0 < p + 1
    inside j h = elim (dec_lt j count) [
      | yes m ↦ omega (arith, old j m, g.lists.inside j m)
      | no m ↦ (let e : j ≡ count = omega arith in rw (e, new) (omega arith))
    ]

    rises : (i j : ℕ) → i < j → j < count + 1 → get_or (set at count p) i 0 < get_or (set at count p) j 0
    rises i j h k = elim (dec_lt j count) [
      | yes m ↦ omega (arith, old i (omega arith), old j m, g.lists.rises i j h m)
      | no m ↦ (let e : j ≡ count = omega arith in rw (e, new) (omega (arith, old i (omega arith), g.lists.inside i (omega arith))))
    ]

    each : (j : ℕ) → j < count + 1 → get_or v (get_or (set at count p) j 0) 0 ≡ 0
    each j h = elim (dec_lt j count) [
      | yes m ↦ rw (old j m) (g.lists.each j m)
      | no m ↦ (let e : j ≡ count = omega arith in rw (e, new) zero)
    ]

    all : (q : ℕ) → q < p + 1 → get_or v q 0 ≡ 0 → (j : ℕ) × (j < count + 1) × (get_or (set at count p) j 0 ≡ q)
    all q h z = elim (dec_lt q p) [
      | yes m ↦ (let r = g.lists.all q m z in let o : r.0 < count = r.1 in (r.0, omega arith, old r.0 r.1 ∙ r.2))
      | no m ↦ (count, omega arith, new ∙ omega arith)
    ]

-- the value at an element of the field
value-octet : (c : List ℕ) (l : ℕ) (z : F) → value_of c (l + 1) (octet z) ≡ octet (ev elements (suc l) (places c) z)
unfolding value_of
value-octet c l z = ap octet (ap₂ (λ (k : ℕ) (y : F). ev elements k (places c) y) (add-one l) (element-octet z))

-- the zeros among the values at the inverses of the locators are those of the polynomial
pub gathered_searched : {n p l : ℕ} {c v at : List ℕ} {count : ℕ} → p ≡ n → ((q : ℕ) → q < n → get_or v q 0 ≡ value_of c (l + 1) (octet (inverses n q)))
    → Gathered p v at count → SearchIs n l c at count
gathered_searched {n} {p} {l} {c} {v} {at} {count} e values g = record {
  long = g.long;
  few = omega (arith, g.few);
  search = lists_as n count _ _ _ _ (λ q h z. octet-same _ _ (sym (value-is q h) ∙ z ∙ sym octet-nil)) (λ q h z. value-is q h ∙ ap octet z ∙ octet-nil)
      (λ j h. refl) (rw e at g.lists);
}
  where
    value-is : (q : ℕ) → q < n → get_or v q 0 ≡ octet (ev elements (suc l) (places c) (inverses n q))
    value-is q h = values q h ∙ value-octet c l (inverses n q)
