-- The lanes, one after another, and stretches of them.
--
--   filled_start, filled_next     one entry after another
--   filled_by                     all at once, by calls that each give the entry asked for and change nothing
--   stored-below                  what holds of every entry below o, and of each that is written, holds of every entry below o + 16
--   summed_start, summed-next     one product after another
--
-- Assumes nothing.
use mathlib.Core.Path.{◌≡◌, sym, ap₂, ◌∙◌, subst}
use mathlib.Core.List.{List}
use Prim.Native.Nat.{ℕ, zero, suc, ◌+◌, ◌-◌, ◌<◌, ◌≤◌}
use native.Mathlib.Numerals.{add-one}
use native.Mathlib.Omega.{arith}
use native.Mathlib.Decide.{dec_lt}
use lib.Dec.{lit<}
use lib.ListN.{length, get_or, set, length-set}
use Rattle.algebra.proofs.Laws.{total-zero, total-suc}
use Rattle.field.specs.Octet as Octet
use Rattle.field.specs.Octet.Laws.{sum_octet, product_octet}
use Rattle.codeword.specs.Element.{elements}
use Rattle.codeword.specs.Element.Laws.{element-sum, element-product, element-zero}
use Rattle.codeword.specs.Lanes.{lanes, Filled, Stored, Summed}
use Rattle.codeword.proofs.Arrays.{set_below}
use Rattle.std.specs.Array.{IsFromFnResultFrom, IsFromFnResult}
use denote.Param.Members.{Mut, Called}

infixl 60 ◌⊕◌
infixl 70 ◌⊙◌
open elements use {Carrier as F, add as ◌⊕◌, mul as ◌⊙◌}

pub filled_start : {z : ℕ} {f : ℕ → ℕ} {r : List ℕ} → length r ≡ z → Filled z 0 f r
filled_start e = record { long = e; entry = λ k l. absurd (omega arith) }

pub filled_next : {z n v : ℕ} {f : ℕ → ℕ} {r : List ℕ} → Filled z n f r → n < z → v ≡ f n → Filled z (n + 1) f (set r n v)
filled_next {z} {n} {v} {f} {r} h l e = record {
  long = length-set r n v ∙ h.long;
  entry = set_below (λ k y. y ≡ f k) r n v (omega (arith, h.long)) h.entry e;
}

module _ {F : Type 0} (g : Mut F (ℕ × Unit {0}) ℕ) (f : F) (h : ℕ → ℕ) (z : ℕ)
    (one : (k y : ℕ) (q : F) → k < z → Called g f (k, tt) y q → (y ≡ h k) × (q ≡ f)) where
  made : (ys : List ℕ) (n i : ℕ) → i + n ≤ z → IsFromFnResultFrom g f ys i n → (k : ℕ) → i ≤ k → k < i + n → get_or ys k 0 ≡ h k
  made ys zero i l m k low high = absurd (omega arith)
  made ys (suc n) i l m k low high =
      let o = one i m.1 m.0 (omega arith) m.3 in elim (dec_lt i k) [
        | yes p ↦ made ys n (i + 1) (omega arith) (subst (λ (x : F). IsFromFnResultFrom g x ys (i + 1) n) o.1 m.4) k (omega arith) (omega arith)
        | no p ↦ (let e : k ≡ i = omega arith in rw e (m.2.1 0 ∙ o.0))
      ]

  pub filled_by : {ys : List ℕ} → IsFromFnResult g f ys z → Filled z z h ys
  filled_by {ys} m = record { long = m.long; entry = λ k l. made ys z 0 (omega arith) m.each k (omega arith) (omega arith) }

pub stored-below : (P : ℕ → ℕ → Type 0) {o : ℕ} {a s t : List ℕ} → Stored lanes o a s t → ((i : ℕ) → i < o → P i (get_or s i 0))
    → ((k : ℕ) → k < lanes → P (o + k) (get_or a k 0)) → (i : ℕ) → i < o + lanes → P i (get_or t i 0)
stored-below P {o} {a} {s} {t} h old new i l = elim (dec_lt i o) [
  | yes p ↦ rw (h.before i p) (old i p)
  | no p ↦ (let q : i ≡ o + (i - o) = omega arith in
      subst (λ (j : ℕ). P j (get_or t j 0)) (sym q) (rw (h.written (i - o) (omega arith)) (new (i - o) (omega arith))))
]

pub summed_start : {a b : List ℕ} → Summed 0 a b 0
summed_start = record { octet = lit< tt; sum = element-zero ∙ sym (total-zero elements _) }

pub summed-next : {n v r : ℕ} {a b : List ℕ} → Summed n a b r → v ≡ Octet.sum r (Octet.product (get_or a n 0) (get_or b n 0)) → Summed (n + 1) a b v
summed-next {n} {v} {r} {a} {b} h e = record {
  octet = rw e (sum_octet _ _ h.octet (product_octet _ _));
  sum = rw (e, add-one n) (element-sum _ _ ∙ ap₂ (λ (x y : F). x ⊕ y) h.sum (element-product _ _) ∙ sym (total-suc elements n _));
}
