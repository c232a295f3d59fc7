-- Product and inverse in the words of 003, D.4.1.7.3 (`IsProduct` in `specs/Octet/Exactly.antt`).
--
--   product_is     the product is such
--   product_only   .. and nothing else is: on octets, f is the product
--   inverse_only   an octet whose product with a is 1 is the inverse of a
--
-- Assumes nothing.
use Rattle.std.specs.Prelude.{◌≡◌, ℕ, zero, suc, ◌^◌, ◌<◌}
use Rattle.std.proofs.Common.{sym, ap, ◌∙◌, arith, add-one, eqb→eq}
use Rattle.std.proofs.Math.Decide.{dec_lt}
use Rattle.octets.specs.Every.{every_at}
use Rattle.field.specs.Octet.{product, inverse, α, size}
use Rattle.field.specs.Octet.Laws.{product_octet, sum-product, product-sum, product-assoc, product-comm, one_product, product_one, inverse_octet}
use Rattle.field.specs.Octet.Basis.{agree}
use Rattle.field.specs.Octet.Exactly.{IsProduct, next_at, next_test, eighth_is}
use Rattle.field.proofs.Octet.Inverse.{product-inverse}

pub product_is : IsProduct product
unfolding next_at
product_is = record {
  left = sum-product;
  right = product-sum;
  assoc = product-assoc;
  one = one_product;
  next = λ i h. eqb→eq _ _ (every_at next_at 7 next_test i h);
  eighth = eighth_is;
}

-- ---- there is no other

module _ (f : ℕ → ℕ → ℕ) (p : IsProduct f) where
  -- x times a power of x: `next` and `eighth` say what it is, of both
  on_basis : (i : ℕ) → i < 8 → f α (2 ^ i) ≡ product α (2 ^ i)
  on_basis i h = elim (dec_lt i 7) [
    | yes l ↦ p.next i l ∙ sym (product_is.next i l)
    | no l ↦ (let e : i ≡ 7 = omega arith in rw e (p.eighth ∙ sym product_is.eighth))
  ]

  by_alpha : (b : ℕ) → b < size → f α b ≡ product α b
  by_alpha = agree (f α) (product α) (p.right α) (product-sum α) on_basis

  -- a power of x times b: one more x each time
  by-power : (i : ℕ) → i < 8 → (b : ℕ) → b < size → f (2 ^ i) b ≡ product (2 ^ i) b
  by-power zero h b l = p.one b l ∙ sym (one_product b l)
  by-power (suc i) h b l = rw (← add-one i) (
      ap (λ (x : ℕ). f x b) (sym (p.next i (omega arith))) ∙ p.assoc α (2 ^ i) b ∙ ap (f α) (by-power i (omega arith) b l)
      ∙ by_alpha _ (product_octet (2 ^ i) b) ∙ sym (product-assoc α (2 ^ i) b)
      ∙ ap (λ (x : ℕ). product x b) (product_is.next i (omega arith)))

  pub product_only : (a b : ℕ) → a < size → b < size → f a b ≡ product a b
  product_only a b ha hb = agree (λ x. f x b) (λ x. product x b) (λ x y. p.left x y b) (λ x y. sum-product x y b) (λ i h. by-power i h b hb) a ha

pub inverse_only : (a b : ℕ) → 0 < a → a < size → b < size → product a b ≡ 1 → b ≡ inverse a
inverse_only a b p ha hb e =
    sym (one_product b hb) ∙ ap (λ (x : ℕ). product x b) (sym (product-inverse a p ha) ∙ product-comm a (inverse a))
    ∙ product-assoc (inverse a) a b ∙ ap (product (inverse a)) e ∙ product_one (inverse a) (inverse_octet a)
