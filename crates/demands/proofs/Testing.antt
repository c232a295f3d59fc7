-- Whether a word is a code word, and whether one lies within one octet of it, by a test that antt computes.
--
--   is_zero_at w i    the value at α^(i+1) is zero
--   is_code e w      the test: the values at α, .., α^2e are zero
--   is_code_true     it passes at code words only
--   is_code_false    .. and at all of them
--   none_at w i      no octet at place i makes a code word of w, for e = 1
--   none_near w      no word that differs from w in one octet at most passes it, for e = 1
--   Beside w c      c is w with the octet of c at one place
--   near-one        a word within one octet is
--   none_near-none   .. so no code word lies within one octet
--
-- Assumes nothing.
use mathlib.Core.Path.{◌≡◌, refl, sym, ap, ap₂, subst, ◌∙◌}
use mathlib.Core.Bool.{Bool, true, false, cond, not, ◌&&◌}
use mathlib.Core.List.{List, [], ◌∷◌}
use Prim.Native.Nat.{ℕ, zero, suc, ◌+◌, ◌*◌, ◌≤◌, ◌<◌}
use native.Mathlib.Nat.{not-suc-le-zero}
use native.Mathlib.Omega.{arith}
use borrow.Author.Tests.{eq-eqb}
use lib.Dec.{T, eqb, eqb→eq, lit<}
use lib.ListN.{length, get_or, set}
use Rattle.octets.specs.Tests.{never}
use Rattle.octets.specs.Every.{every, every_at}
use Rattle.algebra.specs.Power.{pow}
use Rattle.codeword.specs.Element.{elements, octet, α}
use Rattle.codeword.specs.Element.Laws.{octet-same, octet-nil}
use Rattle.codeword.specs.CodeWord.{Octets, CodeWord, distance, Within, longest_word}
use Rattle.codeword.specs.Places.{value}
use Rattle.codeword.proofs.Laws.{octet-pow, value_none, code_word-zero, zero_code_word, distance-zero}
use Rattle.demands.proofs.Working.{alphas, alphas-at, horner, horner-value}

unfoldable pub is_zero_at : List ℕ → ℕ → Bool
is_zero_at w i = eqb (horner (alphas (suc i)) 0 w) 0

unfoldable pub is_code : ℕ → List ℕ → Bool
is_code e w = every (is_zero_at w) (2 * e)

-- the test works out the value
module _ (w : List ℕ) (o : Octets w) (i : ℕ) (h : suc i < longest_word) where
  worked : horner (alphas (suc i)) 0 w ≡ octet (value w (pow elements α (suc i)))
  worked =
      ap₂ (λ (x v : ℕ). horner x v w) (alphas-at (suc i) ∙ sym (octet-pow (suc i))) (sym (ap octet (value_none (pow elements α (suc i))) ∙ octet-nil))
      ∙ horner-value [] w (pow elements α (suc i)) o

all-every : (f : ℕ → Bool) (n : ℕ) → ((k : ℕ) → k < n → f k ≡ true) → every f n ≡ true
all-every f zero h = refl
all-every f (suc n) h = ap₂ ◌&&◌ (h n (omega arith)) (all-every f n (λ k l. h k (omega arith)))

pub is_code_true : (e : ℕ) (w : List ℕ) → 2 * e < longest_word → Octets w → T (is_code e w) → CodeWord e w
unfolding is_code is_zero_at
is_code_true e w h o t =
    zero_code_word e w h o
    λ i l. octet-same _ _ (sym (worked w o i (omega arith)) ∙ eqb→eq _ 0 (every_at (is_zero_at w) (2 * e) t i l) ∙ sym octet-nil)

pub is_code_false : (e : ℕ) (w : List ℕ) → 2 * e < longest_word → is_code e w ≡ false → CodeWord e w → ⊥
unfolding is_code is_zero_at
is_code_false e w h f c =
    let all : every (is_zero_at w) (2 * e) ≡ true
    = all-every (is_zero_at w) (2 * e) λ i l. eq-eqb _ 0 (worked w c.octets i (omega arith) ∙ ap octet (code_word-zero e w c i l) ∙ octet-nil) in
    never (cc)

-- ---- within one octet

-- c is w with the octet of c at one place
pub record Beside (w c : List ℕ) : Type 0 where
  pub place : ℕ
  pub inside : place < length w
  pub is : c ≡ set w place (get_or c place 0)

beside_head : (a b : ℕ) (v u : List ℕ) → v ≡ u → Beside (a ∷ v) (b ∷ u)
beside_head a b v u e = record { place = 0; inside = omega arith; is = ap (λ (l : List ℕ). b ∷ l) (sym e) }

beside_tail : (a b : ℕ) (v u : List ℕ) → a ≡ b → Beside v u → Beside (a ∷ v) (b ∷ u)
beside_tail a b v u e h = record { place = suc h.place; inside = omega (arith, h.inside); is = ap₂ (λ (n : ℕ) (l : List ℕ). n ∷ l) (sym e) h.is }

beside_same : (a b : ℕ) (v u : List ℕ) → length v ≡ length u → a ≡ b → (0 < length v → Beside v u) → Beside (a ∷ v) (b ∷ u)
beside_same a b [] [] l e h = beside_head a b [] [] refl
beside_same a b [] (y ∷ u) l e h = absurd (omega arith)
beside_same a b (x ∷ v) u l e h = beside_tail a b (x ∷ v) u e (h (omega arith))

beside-step : (a b : ℕ) (v u : List ℕ) → length v ≡ length u → (0 < length v → distance v u ≤ 1 → Beside v u)
    → (t : Bool) → eqb a b ≡ t → cond t 0 1 + distance v u ≤ 1 → Beside (a ∷ v) (b ∷ u)
beside-step a b v u l h true e d = beside_same a b v u l (eqb→eq a b (subst T (sym e) tt)) (λ p. h p (omega (arith, d)))
beside-step a b v u l h false e d = beside_head a b v u (distance-zero v u l (omega (arith, d)))

pub near-one : (w c : List ℕ) → length w ≡ length c → 0 < length w → distance w c ≤ 1 → Beside w c
unfolding distance
near-one [] c l p d = absurd (not-suc-le-zero p)
near-one (a ∷ v) [] l p d = absurd (omega arith)
near-one (a ∷ v) (b ∷ u) l p d =
    let m : length v ≡ length u = omega arith in
    beside-step a b v u m (λ q f. near-one v u m q f) (eqb a b) refl d

-- no octet at place i makes a code word of w
unfoldable pub none_at : List ℕ → ℕ → Bool
none_at w i = every (λ v. not (is_code 1 (set w i v))) 256

unfoldable pub none_near : List ℕ → Bool
none_near w = every (none_at w) (length w)

refuted : (b : Bool) → T (not b) → b ≡ false
refuted true t = absurd t
refuted false t = refl

pub none_near-none : (w : List ℕ) → 0 < length w → T (none_near w) → (c : List ℕ) → Within 1 w c → ⊥
unfolding none_near none_at
none_near-none w p t c n =
    let b = near-one w c (sym n.long) p n.near in
    let none : is_code 1 (set w b.place (get_or c b.place 0)) ≡ false
    =
    refuted _ (every_at (λ v. not (is_code 1 (set w b.place v))) 256 (every_at (none_at w) (length w) t b.place b.inside) (get_or c b.place 0)
    (n.code.octets b.place)) in
    is_code_false 1 c (lit< tt) (ap (is_code 1) b.is ∙ none) n.code
