-- The distance of words and of code words.
--
--   element-same         two octets with the same element are one
--   difference v w       the series of what v and w differ by, at each place
--   distance-weight      the distance is its weight
--   distance_symmetric, distance_triangle, distance_self, distance-zero
--   difference-value     its power sums are the sums of the words' values
--   code_words-apart      two code words of one length that differ in at most 2e octets are equal
--   within_unique        so at most one code word lies within e octets of a word
--
-- Assumes nothing.
use mathlib.Core.Path.{◌≡◌, refl, sym, ap, ap₂, ◌∙◌}
use mathlib.Core.Bool.{Bool, true, false, cond}
use mathlib.Core.List.{List, [], ◌∷◌}
use Prim.Native.Nat.{ℕ, suc, ◌+◌, ◌*◌, ◌≤◌, ◌<◌}
use native.Mathlib.Omega.{arith}
use native.Mathlib.Decide.{ℕ_discrete}
use borrow.Author.Tests.{eq-eqb, ne_eqb}
use lib.Dec.{eqb}
use lib.ListN.{length}
use lib.Seq.{ext_get_or}
use Rattle.algebra.specs.Series.{Series, operations}
use Rattle.algebra.specs.Power.{pow}
use Rattle.algebra.specs.PowerSum.{psum}
use Rattle.algebra.specs.Support.{weight, one_if}
use Rattle.algebra.proofs.Laws.{⊕_self, eq_of-sum, sum_of-eq, ⊞-at, tl-⊞, left-ne, weight-zero, weight-suc, psum-⊞, light-is-none}
use Rattle.field.specs.Octet.{size}
use Rattle.codeword.specs.Element.{elements, element, octet, α}
use Rattle.codeword.specs.Element.Laws.{octet-element}
use Rattle.codeword.specs.CodeWord.{longest_word, Octets, CodeWord, differs, distance, Within}
use Rattle.codeword.specs.Places.{places, locators, value}
use Rattle.codeword.proofs.Word.{places-at, places-tl, locators-distinct, locators-inverse, value-places}
use Rattle.codeword.proofs.Criterion.{code_word-zero}

infixl 60 ◌⊕◌ ◌⊞◌
open elements use {Carrier as F, add as ◌⊕◌, nil as 𝟘}
open operations elements use {◌⊞◌, tl}

abbrev pub difference : List ℕ → List ℕ → Series elements
difference v w = places v ⊞ places w

pub element-same : (a b : ℕ) → a < size → b < size → element a ≡ element b → a ≡ b
element-same a b h k e = sym (octet-element a h) ∙ ap octet e ∙ octet-element b k

-- one place
one_place : (a b : ℕ) → a < size → b < size → (d : Dec (element a ⊕ element b ≡ 𝟘)) → differs a b ≡ one_if elements d
unfolding one_if
one_place a b h k (yes e) = rw (eq-eqb a b (element-same a b h k (eq_of-sum elements _ _ e)))
one_place a b h k (no n) = rw (ne_eqb a b (λ e. n (sum_of-eq elements _ _ (ap element e))))

pub distance-weight : (v w : List ℕ) → length v ≡ length w → Octets v → Octets w → distance v w ≡ weight elements (length v) (difference v w)
unfolding distance
distance-weight [] [] e hv hw = sym (weight-zero elements _)
distance-weight [] (b ∷ w) e hv hw = absurd (omega arith)
distance-weight (a ∷ v) [] e hv hw = absurd (omega arith)
distance-weight (a ∷ v) (b ∷ w) e hv hw =
    ap₂ (λ (x y : ℕ). x + y) (one_place a b (hv 0) (hw 0) (elements.decide _ 𝟘)) (distance-weight v w (omega arith) (λ i. hv (suc i)) (λ i. hw (suc i)))
    ∙ sym (weight-suc elements (length v) (difference (a ∷ v) (b ∷ w)) ∙ (rw (tl-⊞, places-tl, places-tl, ⊞-at, places-at, places-at)))

differs_swap : (a b : ℕ) → differs a b ≡ differs b a
differs_swap a b = go (ℕ_discrete a b)
  where
    go : Dec (a ≡ b) → differs a b ≡ differs b a
    go (yes e) = rw (eq-eqb a b e, eq-eqb b a (sym e))
    go (no n) = rw (ne_eqb a b n, ne_eqb b a (λ e. n (sym e)))

pub distance_symmetric : (v w : List ℕ) → distance v w ≡ distance w v
unfolding distance
distance_symmetric [] [] = refl
distance_symmetric [] (b ∷ w) = refl
distance_symmetric (a ∷ v) [] = refl
distance_symmetric (a ∷ v) (b ∷ w) = ap₂ (λ (x y : ℕ). x + y) (differs_swap a b) (distance_symmetric v w)

pub distance_triangle : (v w u : List ℕ) → length v ≡ length w → length w ≡ length u → distance v u ≤ distance v w + distance w u
unfolding distance
distance_triangle [] [] [] e f = omega arith
distance_triangle [] [] (c ∷ u) e f = absurd (omega arith)
distance_triangle [] (b ∷ w) u e f = absurd (omega arith)
distance_triangle (a ∷ v) [] u e f = absurd (omega arith)
distance_triangle (a ∷ v) (b ∷ w) [] e f = absurd (omega arith)
distance_triangle (a ∷ v) (b ∷ w) (c ∷ u) e f =
    omega (arith, distance_triangle v w u (omega arith) (omega arith), step (ℕ_discrete a b) (ℕ_discrete b c))
  where
    at_most : (x : Bool) → cond {A = ℕ} x 0 1 ≤ 1
    at_most true = omega arith
    at_most false = omega arith

    step : Dec (a ≡ b) → Dec (b ≡ c) → differs a c ≤ differs a b + differs b c
    step (yes p) (yes q) = rw (eq-eqb a c (p ∙ q)) (omega arith)
    step (yes p) (no q) = rw (ne_eqb b c q) (omega (arith, at_most (eqb a c)))
    step (no p) (yes q) = rw (ne_eqb a b p) (omega (arith, at_most (eqb a c)))
    step (no p) (no q) = rw (ne_eqb a b p) (omega (arith, at_most (eqb a c)))

pub distance_self : (w : List ℕ) → distance w w ≡ 0
unfolding distance
distance_self [] = refl
distance_self (a ∷ w) = rw (eq-eqb a a refl, distance_self w)

pub distance-zero : (v w : List ℕ) → length v ≡ length w → distance v w ≡ 0 → v ≡ w
unfolding distance
distance-zero [] [] e h = refl
distance-zero [] (b ∷ w) e h = absurd (omega arith)
distance-zero (a ∷ v) [] e h = absurd (omega arith)
distance-zero (a ∷ v) (b ∷ w) e h = ap₂ (λ (x : ℕ) (l : List ℕ). x ∷ l) (same (ℕ_discrete a b)) (distance-zero v w (omega arith) (omega (arith, h)))
  where
    same : Dec (a ≡ b) → a ≡ b
    same (yes p) = p
    same (no p) = absurd (omega (arith, h, let z : differs a b ≡ 1 = rw (ne_eqb a b p) in z))

-- ---- code words

pub difference-value : (v w : List ℕ) → length v ≡ length w → (i : ℕ)
    → psum elements (length v) (difference v w) (locators (length v)) i ≡ value v (pow elements α i) ⊕ value w (pow elements α i)
difference-value v w e i = psum-⊞ elements (length v) (places v) (places w) (locators (length v)) i ∙ (rw (value-places v i, value-places w i, e))

pub code_words-apart : (e : ℕ) (v w : List ℕ) → length v ≡ length w → length v ≤ longest_word → CodeWord e v → CodeWord e w → distance v w ≤ 2 * e → v ≡ w
code_words-apart e v w l h cv cw d =
    ext_get_or 0 v w l (λ p m. element-same _ _ (cv.octets p) (cw.octets p)
    (eq_of-sum elements _ _ (sym (⊞-at elements _ _ p ∙ (rw (places-at v p, places-at w p))) ∙ none p m)))
  where
    none : (p : ℕ) → p < length v → difference v w p ≡ 𝟘
    none =
        light-is-none elements (length v) (2 * e) (locators (length v)) (locators-distinct (length v) h)
        (λ k m. left-ne elements _ _ (locators-inverse (length v) h k m))
        (difference v w) (rw (← distance-weight v w l cv.octets cw.octets) d)
        (λ i m. difference-value v w l (suc i) ∙ (rw (code_word-zero e v cv i m, code_word-zero e w cw i m) (⊕_self elements 𝟘)))

pub within_unique : (e : ℕ) (w c d : List ℕ) → length w ≤ longest_word → Within e w c → Within e w d → c ≡ d
within_unique e w c d h p q =
    code_words-apart e c d (p.long ∙ sym q.long) (rw p.long h) p.code q.code
    (omega (arith, distance_triangle c w d p.long (sym q.long), distance_symmetric c w, p.near, q.near))
