-- A word is a code word exactly when its 2e syndromes, the values of its polynomial at α, α², .., α^2e, are zero.
--
--   rising-distinct   α, .., α^m are distinct
--   code_word-zero     a code word's are
--   zero_code_word     and a word of which they are is a code word
--
-- Assumes nothing.
use mathlib.Core.Path.{◌≡◌, sym, ap, ◌∙◌}
use mathlib.Core.List.{List}
use Prim.Native.Nat.{ℕ, suc, ◌*◌, ◌<◌}
use native.Mathlib.Omega.{arith}
use lib.ListN.{length}
use Rattle.algebra.specs.Power.{pow, rising}
use Rattle.algebra.specs.Polynomial.{polynomial}
use Rattle.algebra.specs.Points.{Distinct}
use Rattle.algebra.proofs.Laws.{divides-root, roots_divide}
use Rattle.field.specs.Octet.{order}
use Rattle.field.proofs.Laws.{powers_distinct}
use Rattle.codeword.specs.Element.{elements, octet, α}
use Rattle.codeword.proofs.Element.Laws.{octet-pow}
use Rattle.codeword.specs.CodeWord.{generator, word, Octets, CodeWord}
use Rattle.codeword.specs.Places.{value}
use Rattle.codeword.proofs.Word.{below_word}

pub rising-distinct : (m : ℕ) → m < order → Distinct elements m (rising elements α)
unfolding rising
rising-distinct m h i j l o e =
    let q : suc i ≡ suc j = powers_distinct (suc i) (suc j) (omega arith) (omega arith) (sym (octet-pow _) ∙ ap octet e ∙ octet-pow _) in
    omega arith

pub code_word-zero : (e : ℕ) (w : List ℕ) → CodeWord e w → (i : ℕ) → i < 2 * e → value w (pow elements α (suc i)) ≡ elements.nil
unfolding value generator rising
code_word-zero e w c i l = divides-root elements (2 * e) (length w) (rising elements α) (polynomial elements (word w)) (below_word w) c.divided i l

pub zero_code_word : (e : ℕ) (w : List ℕ) → 2 * e < order → Octets w
    → ((i : ℕ) → i < 2 * e → value w (pow elements α (suc i)) ≡ elements.nil) → CodeWord e w
unfolding value generator rising
zero_code_word e w h o z = record {
  octets = o;
  divided = roots_divide elements (2 * e) (length w) (rising elements α) (polynomial elements (word w)) (below_word w) (rising-distinct (2 * e) h) z;
}
