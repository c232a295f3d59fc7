-- The field's product and the values of a word, in a form that a machine works out.
--
--   times a b       the product; who unfolds this computes it
--   product-times   it is the product
--   alphas k        α to the k, by so many products
--   alphas-at       it is
--   horner x v w    the value at x of a word that goes on with w, where v is its value so far
--   horner-value    it is the value of the word's polynomial
--
-- Assumes nothing.
use mathlib.Core.Path.{◌≡◌, sym, ap, ap₂, ◌∙◌}
use mathlib.Core.List.{List, [], ◌∷◌, ◌++◌, append_assoc}
use Prim.Native.Nat.{ℕ, zero, suc}
use lib.Bits.{bit_xor}
use Rattle.field.specs.Octet.{sum, product}
use Rattle.field.specs.Octet as field
use Rattle.field.specs.Octet.Laws.{sum_xor, power_zero, power-suc}
use Rattle.field.specs.Octet.Table.{worked, worked-is}
use Rattle.codeword.specs.Element.{elements, octet}
use Rattle.codeword.specs.Element.Laws.{octet-element, octet-add, octet-mul}
use Rattle.codeword.specs.CodeWord.{Octets}
use Rattle.codeword.specs.Places.{value}
use Rattle.codeword.proofs.Laws.{value-snoc}

unfoldable pub times : ℕ → ℕ → ℕ
unfolding worked
times a b = worked a b

pub product-times : (a b : ℕ) → product a b ≡ times a b
unfolding times
product-times a b = sym (worked-is a b)

unfoldable pub alphas : ℕ → ℕ
alphas zero = 1
alphas (suc k) = times field.α (alphas k)

pub alphas-at : (k : ℕ) → alphas k ≡ field.power field.α k
unfolding alphas
alphas-at zero = sym (power_zero field.α)
alphas-at (suc k) = sym (product-times field.α _) ∙ ap (product field.α) (alphas-at k) ∙ sym (power-suc field.α k)

unfoldable pub horner : ℕ → ℕ → List ℕ → ℕ
horner x v [] = v
horner x v (a ∷ w) = horner x (bit_xor (times x v) a) w

tail-octets : (a : ℕ) (w : List ℕ) → Octets (a ∷ w) → Octets w
tail-octets a w o i = o (suc i)

pub horner-value : (v w : List ℕ) (x : elements.Carrier) → Octets w → horner (octet x) (octet (value v x)) w ≡ octet (value (v ++ w) x)
unfolding horner
horner-value v [] x o = ap (λ (u : List ℕ). octet (value u x)) (sym (mathlib.Core.List.append-nil v))
horner-value v (a ∷ w) x o =
    let step : octet (value (v ++ a ∷ []) x) ≡ bit_xor (times (octet x) (octet (value v x))) a
    = ap octet (value-snoc v a x) ∙ octet-add _ _
    ∙ ap₂ sum (octet-mul x (value v x) ∙ product-times (octet x) (octet (value v x))) (octet-element a (o 0))
    ∙ sum_xor (times (octet x) (octet (value v x))) a in
    ap (λ (n : ℕ). horner (octet x) n w) (sym step) ∙ horner-value (v ++ a ∷ []) w x (tail-octets a w o)
    ∙ ap (λ (u : List ℕ). octet (value u x)) (append_assoc v (a ∷ []) w)
