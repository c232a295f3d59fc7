-- From octets to elements and back.
--
--   octet-lt                          an element's octet is one
--   octet-element, element-octet      each undoes the other
--   octet-same                        two elements with the same octet are one
--   by-octet                          what an octet's element is, by the octet
--   octet-add, octet-mul, octet_inv   the operations, on octets
--   octet-nil, octet_one              0 and 1
--   element-sum, element-product,     .. and the other way: of any numbers, since their low octets count
--   element-inverse, element-zero,
--   element_one
--   element-ne                        an octet that is not 0 is not the element 0
--
-- Assumes nothing.
use Rattle.std.specs.Prelude.{◌≡◌, refl, ◌≢◌, ℕ, ◌<◌}
use Rattle.std.proofs.Common.{sym, ap, ◌∙◌, mod-eq_of_lt}
use Rattle.field.specs.Octet as Octet
use Rattle.field.specs.Octet.Laws.{sum_low, product_octet, product_low}
use Rattle.codeword.specs.Element.{elements, element, octet, same-octet}

pub octet-lt : (x : elements.Carrier) → octet x < Octet.size
unfolding elements octet
octet-lt x = x.1

pub octet-element : (a : ℕ) → a < Octet.size → octet (element a) ≡ a
unfolding elements octet element
octet-element a h = mod-eq_of_lt h

pub element-octet : (x : elements.Carrier) → element (octet x) ≡ x
unfolding elements octet element
element-octet x = same-octet _ _ (mod-eq_of_lt x.1)

pub octet-same : (x y : elements.Carrier) → octet x ≡ octet y → x ≡ y
octet-same x y e = sym (element-octet x) ∙ ap element e ∙ element-octet y

pub octet-add : (x y : elements.Carrier) → octet (elements.add x y) ≡ Octet.sum (octet x) (octet y)
unfolding elements octet
octet-add x y = refl

pub octet-mul : (x y : elements.Carrier) → octet (elements.mul x y) ≡ Octet.product (octet x) (octet y)
unfolding elements octet
octet-mul x y = refl

pub octet_inv : (x : elements.Carrier) → octet (elements.inv x) ≡ Octet.inverse (octet x)
unfolding elements octet
octet_inv x = refl

pub octet-nil : octet elements.nil ≡ 0
unfolding elements octet
octet-nil = refl

pub octet_one : octet elements.one ≡ 1
unfolding elements octet
octet_one = refl

-- ---- the other way

-- what an octet's element is, by the octet
pub by-octet : (x : elements.Carrier) (a : ℕ) → octet x ≡ a → element a ≡ x
by-octet x a e = ap element (sym e) ∙ element-octet x

pub element-sum : (a b : ℕ) → element (Octet.sum a b) ≡ elements.add (element a) (element b)
unfolding elements element
element-sum a b = same-octet _ _ (sum_low a b)

pub element-product : (a b : ℕ) → element (Octet.product a b) ≡ elements.mul (element a) (element b)
unfolding elements element
element-product a b = same-octet _ _ (mod-eq_of_lt (product_octet a b) ∙ sym (product_low a b))

pub element-inverse : (a : ℕ) → a < Octet.size → element (Octet.inverse a) ≡ elements.inv (element a)
element-inverse a h = by-octet _ _ (octet_inv _ ∙ ap Octet.inverse (octet-element a h))

pub element-zero : element 0 ≡ elements.nil
element-zero = by-octet _ _ octet-nil

pub element_one : element 1 ≡ elements.one
element_one = by-octet _ _ octet_one

pub element-ne : (a : ℕ) → a < Octet.size → a ≢ 0 → element a ≢ elements.nil
element-ne a h n e = n (sym (octet-element a h) ∙ ap octet e ∙ octet-nil)
