-- The octets as a field, in the sense of crate `algebra`. It is made of the field's laws alone: what a sum or a product is worked out
-- to stays shut here.
--
--   Element      an octet as an element
--   same-octet   two with the same octet are one
--   elements     the field: its elements are the octets
--   element a    the octet a as an element; of a larger number, its low octet
--   octet x      the element x as an octet
--   α            the element 02
--
-- `elements` is shut too; what stands behind it is Element/Laws.antt, and of the powers of α proofs/Element/Laws.antt. Assumes nothing.
use mathlib.Core.Path.{◌≡◌, ap}
use mathlib.Core.HLevel.{Σ_prop_path}
use Rattle.std.specs.Prelude.{ℕ, zero, suc, ◌%◌, ◌<◌}
use Rattle.std.proofs.Math.Bridge.{le_prop}
use Rattle.std.proofs.Math.Decide.{ℕ_discrete}
use Rattle.std.proofs.Common.{arith, lit<}
use Rattle.algebra.specs.Field.{Field}
use Rattle.field.specs.Octet as Octet
use Rattle.field.specs.Octet.Laws.{sum_octet, sum-assoc, sum_comm, sum-zero, sum_self, product_octet, product-assoc, product-comm}
use Rattle.field.specs.Octet.Laws.{product_one, product-sum, inverse_octet}
use Rattle.field.proofs.Laws.{product-inverse}
pub mod Laws

abbrev pub Element : Type 0
Element = (a : ℕ) × (a < Octet.size)

pub same-octet : (x y : Element) → x.0 ≡ y.0 → x ≡ y
same-octet x y e = Σ_prop_path (λ n. le_prop) e

positive : (x : Element) → (x ≡ (0, lit< tt) → ⊥) → 0 < x.0
positive (zero, h) ne = absurd (ne (same-octet _ _ mathlib.Core.Path.refl))
positive (suc a, h) ne = omega arith

decide-same : (x y : Element) → Dec (x.0 ≡ y.0) → Dec (x ≡ y)
decide-same x y (yes e) = yes (same-octet x y e)
decide-same x y (no n) = no (λ e. n (ap (λ z. z.0) e))

pub elements : Field
elements = record {
  Carrier = Element;
  add = λ x y. (Octet.sum x.0 y.0, sum_octet _ _ x.1 y.1);
  mul = λ x y. (Octet.product x.0 y.0, product_octet _ _);
  nil = (0, lit< tt);
  one = (1, lit< tt);
  inv = λ x. (Octet.inverse x.0, inverse_octet _);
  add_assoc = λ x y z. same-octet _ _ (sum-assoc _ _ _);
  add_comm = λ x y. same-octet _ _ (sum_comm _ _);
  add_nil = λ x. same-octet _ _ (sum-zero _);
  add_self = λ x. same-octet _ _ (sum_self _);
  mul_assoc = λ x y z. same-octet _ _ (product-assoc _ _ _);
  mul_comm = λ x y. same-octet _ _ (product-comm _ _);
  mul_one = λ x. same-octet _ _ (product_one _ x.1);
  mul_add = λ x y z. same-octet _ _ (product-sum _ _ _);
  mul_inv = λ x h. same-octet _ _ (product-inverse _ (positive x h) x.1);
  one_ne_nil = λ e. let z : ◌≡◌ {A = ℕ} 1 0 = ap (λ (x : Element). x.0) e in omega arith;
  decide = λ x y. decide-same x y (ℕ_discrete x.0 y.0);
}

pub element : ℕ → elements.Carrier
unfolding elements
element a = (a % Octet.size, omega arith)

pub octet : elements.Carrier → ℕ
unfolding elements
octet x = x.0

abbrev pub α : elements.Carrier
α = element Octet.α
