-- Horner's rule in the lanes: the value of a polynomial at a point in each of them, from the highest coefficient down.
--
--   HornerLanes n d x s a    lane i of a has what Horner's rule has at xᵢ, for the n coefficients of sᵢ, after those from d on
--   horner-none              .. after none of them: zeros
--   horner-first             .. at the highest coefficient
--   horner_turn              .. and after one turn more
--   horner-value             .. and after the last: the value
--   turned_octets            a turn with octets makes octets
--   same-lanes, same_octets  one coefficient in every lane, and that it is an octet
--   horner-lanes             the values at the last, as octets
--
-- Assumes nothing.
use mathlib.Core.Path.{◌≡◌, refl, sym, ap, ap₂, ◌∙◌}
use mathlib.Core.List.{List}
use Prim.Native.Nat.{ℕ, suc, ◌+◌, ◌-◌, ◌<◌}
use native.Mathlib.Numerals.{add-one}
use native.Mathlib.Omega.{arith}
use lib.ListN.{length, get_or, replicate}
use Rattle.algebra.specs.Series.{Series}
use Rattle.algebra.specs.Value.{ev, from}
use Rattle.algebra.proofs.Laws.{ring, ⊕-comm, ev_zero, from_zero, horner}
use Rattle.field.specs.Octet as Octet
use Rattle.field.specs.Octet.Laws.{sum_octet, product_octet}
use Rattle.codeword.specs.Element.{elements, element, octet}
use Rattle.codeword.specs.Element.Laws.{octet-element, element-sum, element-product, element-zero}
use Rattle.codeword.specs.Places.{places}
use Rattle.codeword.specs.Lanes.{lanes, Lanes, OctetLanes, Turned}
use Rattle.codeword.specs.Search.{value_of}
use Rattle.codeword.proofs.Arrays.{replicate-is, replicate-at}
use Rattle.codeword.proofs.Word.{places-at}

infixl 60 ◌⊕◌
infixl 70 ◌⊙◌
open elements use {Carrier as F, add as ◌⊕◌, mul as ◌⊙◌}

pub record HornerLanes (n d : ℕ) (x : ℕ → ℕ) (s : ℕ → Series elements) (a : List ℕ) : Type 0 where
  pub long : length a ≡ lanes
  pub is : (i : ℕ) → i < lanes → element (get_or a i 0) ≡ ev elements (n - d) (from elements d (s i)) (element (x i))

pub horner-none : {n : ℕ} {x : ℕ → ℕ} {s : ℕ → Series elements} → HornerLanes n n x s (replicate lanes 0)
horner-none {n} = record {
  long = refl;
  is = λ i l. let z : n - n ≡ 0 = omega arith in ap element (replicate-at lanes i) ∙ element-zero ∙ (rw (z, ev_zero));
}

pub horner-first : {n d : ℕ} {x : ℕ → ℕ} {s : ℕ → Series elements} {a : List ℕ} → d + 1 ≡ n → length a ≡ lanes
    → ((i : ℕ) → i < lanes → element (get_or a i 0) ≡ s i d) → HornerLanes n d x s a
horner-first {n} {d} {x} {s} e long h = record {
  long = long;
  is = λ i l.
      let z : n - suc d ≡ 0 = omega arith in
      h i l ∙ sym (horner elements n d (s i) (element (x i)) (omega arith) ∙ (rw (z, ev_zero) (simp ring)));
}

pub horner_turn : {n d : ℕ} {x : ℕ → ℕ} {s : ℕ → Series elements} {a : List ℕ} (c : ℕ → ℕ) {b : List ℕ} → d < n
    → ((i : ℕ) → i < lanes → element (c i) ≡ s i d) → Turned x a c b → HornerLanes n (d + 1) x s a → HornerLanes n d x s b
horner_turn {n} {d} {x} {s} {a} c {b} l e t h = record {
  long = t.long;
  is = λ i m.
      ap element (t.entry i m) ∙ element-sum _ _
      ∙ ap₂ (λ (y z : F). y ⊕ z) (element-product _ _ ∙ ap (λ (y : F). element (x i) ⊙ y) (rw (add-one d) at (h.is i m))) (e i m)
      ∙ ⊕-comm elements _ _ ∙ sym (horner elements n d (s i) (element (x i)) l);
}

pub horner-value : {n : ℕ} {x : ℕ → ℕ} {s : ℕ → Series elements} {a : List ℕ} → HornerLanes n 0 x s a
    → (i : ℕ) → i < lanes → element (get_or a i 0) ≡ ev elements n (s i) (element (x i))
horner-value {n} h i l = let e : n - 0 ≡ n = omega arith in rw (e, from_zero) at (h.is i l)

pub turned_octets : (x : ℕ → ℕ) (a : List ℕ) (c : ℕ → ℕ) {b : List ℕ} → ((i : ℕ) → i < lanes → c i < Octet.size) → Turned x a c b → OctetLanes b
turned_octets x a c h t i l = rw (t.entry i l) (sum_octet _ _ (product_octet _ _) (h i l))

pub same-lanes : (c : List ℕ) (j : ℕ) {x : ℕ} → x ≡ get_or c j 0 → (i : ℕ) → i < lanes → element (get_or (replicate lanes x) i 0) ≡ places c j
same-lanes c j {x} e i l = ap element (replicate-is lanes x i l ∙ e) ∙ sym (places-at c j)

pub same_octets : {x : ℕ} → x < Octet.size → OctetLanes (replicate lanes x)
same_octets {x} h i l = rw (replicate-is lanes x i l) h

pub horner-lanes : (c : List ℕ) {n : ℕ} {x : ℕ → ℕ} {a : List ℕ} → OctetLanes a → HornerLanes n 0 x (λ i. places c) a → Lanes (λ i. value_of c n (x i)) a
unfolding value_of
horner-lanes c {n} {x} {a} small h = record {
  long = h.long;
  entry = λ i l. sym (octet-element (get_or a i 0) (small i l)) ∙ ap octet (horner-value h i l);
}
