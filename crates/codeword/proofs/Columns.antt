-- Octets side by side, and the word's columns.
--
--   Blocks P n m s               the first n octets of s, as far as m, have P
--   blocks-next                  .. and 16 more
--   RowsLaid n w f               n rows of f have octets of w, row d those from 15 (16 - d) on
--   rows_next                    .. and one more
--   rows_are                     .. of a word with zeros in front
--   added_start, added_next      octets added, one after another
--   spaced-at                    a coefficient of a series of spaced entries
--   loaded                       .. in each lane, where they are loaded
--   evaluated                    what Horner's rule has of such series in the end
--   FoldingTo n d t a f g        d rows of g are worth what those of f are, and a times the powers that n of the taps t name, d - 8 on
--   folding_start, folding-next  .. one after another
--   folded_start, folded-next    one row after another is folded
--
-- Assumes nothing.
use mathlib.Core.Path.{◌≡◌, refl, sym, ap, ◌∙◌}
use mathlib.Core.Logic.{◌≢◌, ◌⊎◌, ⊎_elim, inl, inr}
use mathlib.Core.List.{List}
use Prim.Native.Nat.{ℕ, suc, ◌+◌, ◌-◌, ◌*◌, ◌≤◌, ◌<◌}
use native.Mathlib.Numerals.{add-one}
use native.Mathlib.Omega.{arith}
use native.Mathlib.Decide.{ℕ_discrete, dec_lt}
use lib.ListN.{length, get_or, set, length-set}
use lib.Seq.{get_or-set_same, get_or-set_other}
use Rattle.algebra.specs.Power.{pow}
use Rattle.algebra.specs.Polynomial.{polynomial}
use Rattle.algebra.specs.Value.{ev, terms}
use Rattle.algebra.proofs.Laws.{ring, ev-snoc, ev_added, terms-zero, terms-suc, pow-add, polynomial-at}
use Rattle.octets.specs.Written.{written, written_inside, written_outside}
use Rattle.field.specs.Octet as Octet
use Rattle.codeword.specs.Element.{elements, element}
use Rattle.codeword.specs.Element.Laws.{element-sum, element-zero}
use Rattle.codeword.specs.CodeWord.{longest_word, word}
use Rattle.codeword.specs.Lanes.{lanes, Lanes}
use Rattle.codeword.specs.Rows.{RowAdded, spaced, Evaluated, column, RowsAre, Folded}
use Rattle.codeword.proofs.Horner.{HornerLanes, horner-value}
use Rattle.codeword.proofs.Word.{word-length, word_at, below_word}

infixl 60 ◌⊕◌
infixl 70 ◌⊙◌
open elements use {Carrier as F, add as ◌⊕◌, mul as ◌⊙◌}

abbrev pub Blocks : (ℕ → ℕ → Type 0) → ℕ → ℕ → List ℕ → Type 0
Blocks P n m s = (i : ℕ) → i < n → i < m → P i (get_or s i 0)

pub blocks-next : (P : ℕ → ℕ → Type 0) (n m : ℕ) (s a : List ℕ) → n + lanes ≤ length s → length a ≡ lanes → Blocks P n m s
    → ((j : ℕ) → j < lanes → n + j < m → P (n + j) (get_or a j 0)) → Blocks P (n + lanes) m (written s n a)
blocks-next P n m s a room long old new i l k = go (dec_lt i n)
  where
    fits : n + length a ≤ length s
    fits = omega (arith, long)

    go : Dec (i < n) → P i (get_or (written s n a) i 0)
    go (yes b) = rw (written_outside s n a fits i 0 (inl b)) (old i b k)
    go (no b) =
        let e : i ≡ n + (i - n) = omega arith in
        rw (e, written_inside s n a fits (i - n) 0 (omega (arith, long))) (new (i - n) (omega arith) (omega arith))

abbrev pub RowsLaid : ℕ → List ℕ → List ℕ → Type 0
RowsLaid n w f = (d i : ℕ) → d < n → i < lanes → get_or f (16 * d + i) 0 ≡ get_or w (15 * (16 - d) + i) 0

pub rows_next : (n : ℕ) (w f a : List ℕ) → 16 * n + lanes ≤ length f → Lanes (λ k. get_or w (15 * (16 - n) + k) 0) a → RowsLaid n w f
    → RowsLaid (n + 1) w (written f (16 * n) a)
rows_next n w f a room h old d i l m = go (ℕ_discrete d n)
  where
    fits : 16 * n + length a ≤ length f
    fits = omega (arith, h.long)

    go : Dec (d ≡ n) → get_or (written f (16 * n) a) (16 * d + i) 0 ≡ get_or w (15 * (16 - d) + i) 0
    go (yes e) = rw e (written_inside f (16 * n) a fits i 0 (omega (arith, h.long)) ∙ h.entry i m)
    go (no e) = written_outside f (16 * n) a fits (16 * d + i) 0 (inl (omega arith)) ∙ old d i (omega arith) m

-- a word with zeros in front has its polynomial's coefficients, from the last octet on
padded-at : (d w : List ℕ) → ((i : ℕ) → get_or d i 0 ≡ 0) → length d ≡ 256 → length w ≤ longest_word → (i : ℕ) → i < longest_word
    → element (get_or (written d (longest_word - length w) w) (254 - i) 0) ≡ polynomial elements (word w) i
padded-at d w zero-d long h i l = go (dec_lt i (length w))
  where
    at : ℕ
    at = longest_word - length w

    fits : at + length w ≤ length d
    fits = omega arith

    go : Dec (i < length w) → element (get_or (written d at w) (254 - i) 0) ≡ polynomial elements (word w) i
    go (yes m) =
        let e : 254 - i ≡ at + (length w - suc i) = omega arith in
        ap element (ap (λ (n : ℕ). get_or (written d at w) n 0) e ∙ written_inside d at w fits (length w - suc i) 0 (omega arith))
        ∙ sym (polynomial-at elements (word w) i (omega (arith, word-length w)) ∙ (rw (word-length w) (word_at w (length w - suc i))))
    go (no m) =
        ap element (written_outside d at w fits (254 - i) 0 (inl (omega arith)) ∙ zero-d (254 - i)) ∙ element-zero
        ∙ sym (below_word w i (omega arith))

pub rows_are : (d w f : List ℕ) → ((i : ℕ) → get_or d i 0 ≡ 0) → length d ≡ 256 → length w ≤ longest_word
    → RowsLaid 17 (written d (longest_word - length w) w) f → RowsAre w f
unfolding column
rows_are d w f zero-d long h laid = record {
  used = λ d' p l m.
      let e : 15 * (16 - d') + p ≡ 254 - (15 * d' + (14 - p)) = omega arith in
      ap element (laid d' p l (omega arith)) ∙ (rw e (padded-at d w zero-d long h (15 * d' + (14 - p)) (omega arith)));
}

pub added_start : {o : ℕ} {a f : List ℕ} → RowAdded 0 o a f f
added_start = record { long = refl; done = λ i l. absurd (omega arith); left = λ k l. refl }

pub added_next : {n o v : ℕ} {a f g : List ℕ} → RowAdded n o a f g → o + n < length f → v ≡ Octet.sum (get_or g (o + n) 0) (get_or a n 0)
    → RowAdded (n + 1) o a f (set g (o + n) v)
added_next {n} {o} {v} {a} {f} {g} h room e = record {
  long = length-set g (o + n) v ∙ h.long;
  done = λ i l. go i l (ℕ_discrete i n);
  left = λ k l. get_or-set_other g (o + n) k v 0 (⊎_elim (λ m. omega arith) (λ m. omega arith) l) ∙ h.left k (⊎_elim (λ m. inl m) (λ m. inr (omega arith)) l);
}
  where
    go : (i : ℕ) → i < n + 1 → Dec (i ≡ n) → get_or (set g (o + n) v) (o + i) 0 ≡ Octet.sum (get_or f (o + i) 0) (get_or a i 0)
    go i l (yes p) =
        rw p (get_or-set_same g (o + n) v 0 (omega (arith, h.long)) ∙ e ∙ ap (λ (x : ℕ). Octet.sum x (get_or a n 0)) (h.left (o + n) (inr (omega arith))))
    go i l (no p) = get_or-set_other g (o + n) (o + i) v 0 (omega arith) ∙ h.done i (omega arith)

-- ---- Horner's rule, of columns

pub spaced-at : (f : List ℕ) (s k d n : ℕ) → n ≡ s * d + k → spaced f s k d ≡ element (get_or f n 0)
unfolding spaced
spaced-at f s k d n e = ap (λ (k : ℕ). element (get_or f k 0)) (sym e)

pub loaded : (f : List ℕ) (s o d : ℕ) {at : ℕ} {a : List ℕ} → at ≡ s * d + o → Lanes (λ k. get_or f (at + k) 0) a
    → (i : ℕ) → i < lanes → element (get_or a i 0) ≡ spaced f s (o + i) d
loaded f s o d {at} e h i l = ap element (h.entry i l) ∙ sym (spaced-at f s (o + i) d (at + i) (omega arith))

pub evaluated : (f : List ℕ) (s o : ℕ) {n : ℕ} {x : ℕ → ℕ} {a : List ℕ} → HornerLanes n 0 x (λ i. spaced f s (o + i)) a → Evaluated n x f s o a
evaluated f s o h = record { long = h.long; used = horner-value h }

-- ---- folding

pub record FoldingTo (n d : ℕ) (t a f g : List ℕ) : Type 0 where
  pub worth : (p : ℕ) (y : F) → p < lanes
      → ev elements d (spaced g 16 p) y
      ≡ ev elements d (spaced f 16 p) y ⊕ element (get_or a p 0) ⊙ (pow elements y (d - 8) ⊙ terms elements n (λ j. get_or t j 0) y)

pub folding_start : {d : ℕ} {t a f : List ℕ} → FoldingTo 0 d t a f f
folding_start = record { worth = λ p y l. rw (terms-zero) (simp ring) }

pub folding-next : (n d : ℕ) (t : List ℕ) {b : ℕ} {a f g h : List ℕ} → 8 ≤ d → get_or t n 0 < 8 → b ≡ 16 * (d - 8 + get_or t n 0) → RowAdded lanes b a g h
    → FoldingTo n d t a f g → FoldingTo (n + 1) d t a f h
folding-next n d t {b} {a} {f} {g} {h} l m e s w = record {
  worth = λ p y k.
      ev_added elements d row (element (get_or a p 0)) (spaced g 16 p) (spaced h 16 p) y (omega arith) (added p k) (others p k)
      ∙ (rw (add-one n, terms-suc, w.worth p y k, pow-add elements y (d - 8) (get_or t n 0)) (simp ring));
}
  where
    row : ℕ
    row = d - 8 + get_or t n 0

    added : (p : ℕ) → p < lanes → spaced h 16 p row ≡ spaced g 16 p row ⊕ element (get_or a p 0)
    added p k =
        spaced-at h 16 p row (b + p) (omega arith) ∙ ap element (s.done p k) ∙ element-sum _ _
        ∙ ap (λ (x : F). x ⊕ element (get_or a p 0)) (sym (spaced-at g 16 p row (b + p) (omega arith)))

    others : (p : ℕ) → p < lanes → (k : ℕ) → k ≢ row → spaced h 16 p k ≡ spaced g 16 p k
    others p m k ne =
        spaced-at h 16 p k (16 * k + p) refl ∙ ap element (s.left (16 * k + p) (apart (dec_lt k row)))
        ∙ sym (spaced-at g 16 p k (16 * k + p) refl)
      where
        apart : Dec (k < row) → (16 * k + p < b) ⊎ (b + lanes ≤ 16 * k + p)
        apart (yes j) = inl (omega arith)
        apart (no j) = inr (omega arith)

pub folded_start : {t f : List ℕ} → Folded 17 t f f
folded_start = record { worth = λ p y l h. refl }

pub folded-next : {n d : ℕ} {t a r f g : List ℕ} → n ≡ length t → 8 ≤ d → Lanes (λ k. get_or f (16 * d + k) 0) a → FoldingTo n d t a f g
    → Folded (d + 1) t r f → Folded d t r g
folded-next {n} {d} {t} {a} {r} {f} {g} e l h w old = record {
  worth = λ p y k y8.
      let s : d - 8 + 8 ≡ d = omega arith in
      let z : terms elements n (λ j. get_or t j 0) y ≡ pow elements y 8 = rw e (sym y8) in
      let whole : ev elements d (spaced g 16 p) y ≡ ev elements (d + 1) (spaced f 16 p) y =
      w.worth p y k
      ∙ (rw (z, ← pow-add elements y (d - 8) 8, s, add-one d, ev-snoc elements d (spaced f 16 p) y, spaced-at f 16 p d (16 * d + p) refl, h.entry p k)) in
      whole ∙ old.worth p y k y8;
}
