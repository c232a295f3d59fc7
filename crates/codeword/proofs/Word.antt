-- A word as a list of elements and as a series over its places, and the value of its polynomial.
--
--   word-length, word_at, word-append     the octets as elements
--   word_same                             two words of octets with the same elements are equal
--   places-at, places-tl, inverses-at     the series of specs/Places.antt
--   pow_wrap                              a power of α depends on the exponent modulo the order
--   locators-distinct, locators-inverse   for n up to the longest word
--   below_word                            the degree of a word's polynomial
--   value_none, value-cons, value-snoc    its value, an octet at a time
--   value-places                          at αⁱ it is the power sum of the places' elements and locators
--
-- Assumes nothing.
use mathlib.Core.Path.{◌≡◌, refl, sym, ap, ap₂, fun_ext, ◌∙◌}
use mathlib.Core.List.{List, [], ◌∷◌, ◌++◌}
use Prim.Native.Nat.{ℕ, zero, suc, ◌+◌, ◌-◌, ◌%◌, ◌≤◌}
use native.Mathlib.Omega.{arith}
use lib.ListN.{length, get_or, length-map, length-append}
use lib.Seq.{ext_get_or}
use Rattle.algebra.specs.Series as Ser
use Rattle.algebra.specs.Series.{Series, Below, operations}
use Rattle.algebra.specs.Polynomial.{polynomial}
use Rattle.algebra.specs.Power.{pow}
use Rattle.algebra.specs.Value.{ev}
use Rattle.algebra.specs.Points.{Distinct, Inverses}
use Rattle.algebra.specs.PowerSum.{psum}
use Rattle.algebra.proofs.Laws.{ev-monomial, ring, ev_zero, ev-⊞, ev_more, polynomial-cons, below-polynomial, pow-zero}
use Rattle.algebra.proofs.Laws.{pow-suc, psum-zero, psum-suc, pow-add, pow_times}
use Rattle.field.specs.Octet.{order}
use Rattle.field.proofs.Laws.{powers_distinct, alpha-around, power_wrap}
use Rattle.codeword.specs.Element.{elements, element, octet, α}
use Rattle.codeword.specs.Element.Laws.{octet-element, octet-same, octet_one, element-zero}
use Rattle.codeword.proofs.Element.Laws.{octet-pow}
use Rattle.codeword.specs.CodeWord.{longest_word, word, Octets}
use Rattle.codeword.specs.Places.{places, locators, inverses, value}

infixl 60 ◌⊕◌ ◌⊞◌
infixl 70 ◌⊙◌
open elements use {Carrier as F, add as ◌⊕◌, mul as ◌⊙◌, nil as 𝟘, one as 𝟙}
open operations elements use {◌⊞◌, sh, tl, unit}

-- ---- the octets as elements

pub word-length : (w : List ℕ) → length (word w) ≡ length w
unfolding word
word-length w = length-map w element

pub word-append : (u p : List ℕ) → word (u ++ p) ≡ word u ++ word p
unfolding word
word-append [] p = refl
word-append (a ∷ u) p = ap (λ (l : List F). element a ∷ l) (word-append u p)

pub word_at : (w : List ℕ) (i : ℕ) → get_or (word w) i 𝟘 ≡ element (get_or w i 0)
unfolding word
word_at [] i = sym element-zero
word_at (a ∷ w) zero = refl
word_at (a ∷ w) (suc i) = word_at w i

pub word_same : (v w : List ℕ) → Octets v → Octets w → word v ≡ word w → v ≡ w
word_same v w hv hw e =
    ext_get_or 0 v w (sym (word-length v) ∙ ap length e ∙ word-length w)
    (λ i l. sym (octet-element _ (hv i)) ∙ ap octet (sym (word_at v i) ∙ ap (λ (l : List F). get_or l i 𝟘) e ∙ word_at w i) ∙ octet-element _ (hw i))

-- ---- places and locators

pub places-at : (w : List ℕ) (p : ℕ) → places w p ≡ element (get_or w p 0)
unfolding places
places-at w p = word_at w p

pub inverses-at : (n p : ℕ) → inverses n p ≡ pow elements α (order - (n - suc p))
unfolding inverses
inverses-at n p = refl

α-around : pow elements α order ≡ 𝟙
α-around = octet-same _ _ (octet-pow order ∙ alpha-around ∙ sym octet_one)

pub pow_wrap : (k : ℕ) → pow elements α (k % order) ≡ pow elements α k
pow_wrap k = octet-same _ _ (octet-pow (k % order) ∙ power_wrap k ∙ sym (octet-pow k))

pub locators-inverse : (n : ℕ) → n ≤ longest_word → Inverses elements n (locators n) (inverses n)
unfolding locators inverses
locators-inverse n h p l =
    let k : ℕ = n - suc p in
    let e : k + (order - k) ≡ order = omega arith in
    sym (pow-add elements α k (order - k)) ∙ (rw e α-around)

pub locators-distinct : (n : ℕ) → n ≤ longest_word → Distinct elements n (locators n)
unfolding locators
locators-distinct n h i j l m e =
    let q : n - suc i ≡ n - suc j = powers_distinct (n - suc i) (n - suc j) (omega arith) (omega arith) (sym (octet-pow _) ∙ ap octet e ∙ octet-pow _) in
    omega arith

-- ---- the value of a word's polynomial

pub value_none : (x : F) → value [] x ≡ 𝟘
unfolding value word
value_none x = ev_zero elements _ x

pub below_word : (w : List ℕ) → Below elements (length w) (polynomial elements (word w))
below_word w = rw word-length at (below-polynomial elements (word w))

pub value-cons : (a : ℕ) (w : List ℕ) (x : F) → value (a ∷ w) x ≡ element a ⊙ pow elements x (length w) ⊕ value w x
unfolding value word
value-cons a w x =
    ap (λ (f : Series elements). ev elements (suc (length w)) f x) (polynomial-cons elements (element a) (word w))
    ∙ ev-⊞ elements _ _ _ x
    ∙ ap₂ (λ (p q : F). p ⊕ q) (rw word-length (ev-monomial elements (length w) (element a) x))
    (ev_more elements (length w) (suc (length w)) _ x (below_word w) (omega arith))

pub value-snoc : (w : List ℕ) (a : ℕ) (x : F) → value (w ++ a ∷ []) x ≡ x ⊙ value w x ⊕ element a
value-snoc [] a x = rw (value-cons, value_none, pow-zero) (simp ring)
value-snoc (b ∷ w) a x =
    value-cons b (w ++ a ∷ []) x
    ∙ (let e : length (w ++ a ∷ []) ≡ suc (length w) = length-append w (a ∷ []) ∙ omega arith in
    rw (e, value-snoc w a x, value-cons b w x, pow-suc) (simp ring))

locators-tl : (n : ℕ) → tl (locators (suc n)) ≡ locators n
unfolding locators Ser.tl
locators-tl n = fun_ext (λ p. ap (pow elements α) (omega arith))

locators-first : (n : ℕ) → locators (suc n) 0 ≡ pow elements α n
unfolding locators
locators-first n = ap (pow elements α) (omega arith)

pub places-tl : (a : ℕ) (w : List ℕ) → tl (places (a ∷ w)) ≡ places w
unfolding places word Ser.tl
places-tl a w = refl

pub value-places : (w : List ℕ) (i : ℕ) → value w (pow elements α i) ≡ psum elements (length w) (places w) (locators (length w)) i
value-places [] i = value_none _ ∙ sym (psum-zero elements _ _ i)
value-places (a ∷ w) i =
    value-cons a w _
    ∙ (rw (psum-suc elements (length w) (places (a ∷ w)), places-tl, locators-tl, locators-first, places-at, pow_times elements α i, value-places w i))
