-- The coefficients of the generator and of a list's polynomial, in a form that a machine works out.
--
--   only a m k          a where k is m, and 0 elsewhere
--   shifted f k         the coefficient at x^k of x times f
--   coefficient n k     the coefficient at x^k of (x - α) .. (x - αⁿ)
--   rooted-worked       it is
--   of_list w k          the coefficient at x^k of the polynomial of the octets w, the first the highest
--   polynomial-worked   it is
--
-- Assumes nothing.
use mathlib.Core.Path.{◌≡◌, sym, ap, ap₂, ◌∙◌}
use mathlib.Core.List.{List, [], ◌∷◌}
use Prim.Native.Nat.{ℕ, zero, suc, ◌<◌}
use native.Mathlib.Omega.{arith}
use lib.Bits.{bit_xor}
use lib.ListN.{length}
use Rattle.algebra.specs.Series.{◌⊞◌, ◌⊡◌, none, unit, sh}
use Rattle.algebra.specs.Power.{rising}
use Rattle.algebra.specs.Polynomial.{monomial, polynomial, root, rooted}
use Rattle.field.specs.Octet.{sum, product, order}
use Rattle.field.specs.Octet.Laws.{sum_xor, product-zero, product_one}
use Rattle.codeword.specs.Element.{elements, element, octet, α}
use Rattle.codeword.specs.Element.Laws.{octet-element, octet-add, octet-mul, octet-nil, octet_one}
use Rattle.codeword.specs.CodeWord.{Octets, word}
use Rattle.codeword.proofs.Laws.{octet-pow, word-length}
use Rattle.demands.proofs.Working.{times, product-times, alphas, alphas-at}

abbrev pub shifted : (ℕ → ℕ) → ℕ → ℕ
shifted f zero = 0
shifted f (suc k) = f k

unfoldable pub coefficient : ℕ → ℕ → ℕ
coefficient zero zero = 1
coefficient zero (suc k) = 0
coefficient (suc n) k = bit_xor (shifted (coefficient n) k) (times (alphas (suc n)) (coefficient n k))

pub rooted-worked : (n : ℕ) → n < order → (k : ℕ) → octet (rooted elements n (rising elements α) k) ≡ coefficient n k
unfolding rooted root rising coefficient ◌⊞◌ ◌⊡◌ unit sh
rooted-worked zero h zero = octet_one
rooted-worked zero h (suc k) = octet-nil
rooted-worked (suc n) h k =
    octet-add _ _
    ∙ ap₂ sum (before (λ k. rooted-worked n (omega arith) k) k)
    (octet-mul _ _ ∙ product-times _ _ ∙ ap₂ times (octet-pow (suc n) ∙ sym (alphas-at (suc n))) (rooted-worked n (omega arith) k))
    ∙ sum_xor _ _
  where
    before : ((k : ℕ) → octet (rooted elements n (rising elements α) k) ≡ coefficient n k)
        → (k : ℕ) → octet (sh elements (rooted elements n (rising elements α)) k) ≡ shifted (coefficient n) k
    before f zero = octet-nil
    before f (suc k) = f k

-- a where the coefficient is asked for at its own place
abbrev pub only : ℕ → ℕ → ℕ → ℕ
only a zero zero = a
only a zero (suc k) = 0
only a (suc m) zero = 0
only a (suc m) (suc k) = only a m k

unfoldable pub of_list : List ℕ → ℕ → ℕ
of_list [] k = 0
of_list (a ∷ w) k = bit_xor (only a (length w) k) (of_list w k)

monomial-worked : (m a k : ℕ) → a < 256 → octet (monomial elements m (element a) k) ≡ only a m k
unfolding monomial ◌⊡◌ unit sh
monomial-worked zero a zero h = octet-mul _ _ ∙ ap₂ product (octet-element a h) octet_one ∙ product_one a h
monomial-worked zero a (suc k) h = octet-mul _ _ ∙ ap (product (octet (element a))) octet-nil ∙ product-zero _
monomial-worked (suc m) a zero h = octet-nil
monomial-worked (suc m) a (suc k) h = monomial-worked m a k h

pub polynomial-worked : (w : List ℕ) → Octets w → (k : ℕ) → octet (polynomial elements (word w) k) ≡ of_list w k
unfolding polynomial word of_list ◌⊞◌ none
polynomial-worked [] o k = octet-nil
polynomial-worked (a ∷ w) o k =
    octet-add _ _
    ∙ ap₂ sum (ap (λ (m : ℕ). octet (monomial elements m (element a) k)) (word-length w) ∙ monomial-worked (length w) a k (o 0))
    (polynomial-worked w (λ i. o (suc i)) k)
    ∙ sum_xor _ _
