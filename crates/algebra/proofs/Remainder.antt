-- Division with remainder.
--
--   monomial-top, monomial_above,          the coefficients of a x^n: a at n, zero above and below
--   monomial_below, monomial-suc           .. and x times it is a x^(n+1)
--   divides-⊞, divides-sh, divides_self    sums, shifts and multiples of what g divides it divides too
--   remainder_unique                       what a monic g of degree d divides is zero, if its degree is below d: there is one remainder
--
-- Assumes nothing.
use mathlib.Core.Path.{◌≡◌, refl, sym, ◌∙◌, ap, ap₂, fun_ext}
use Prim.Native.Nat.{ℕ, zero, suc, ◌+◌, ◌<◌}
use native.Mathlib.Nat.{zero-add, suc-add}
use native.Mathlib.Omega.{arith}
use native.Mathlib.Decide.{dec_le}
use Rattle.algebra.specs.Field.{Field}
use Rattle.algebra.specs.Series.{Series, Below, operations}
use Rattle.algebra.specs.Polynomial.{Divides, Remainder, monomial}
use Rattle.algebra.proofs.Ring.{ring, ⊙-𝟙, eq_of-sum}
use Rattle.algebra.proofs.Product.{tl-at, ⊞-at, ⊡-at, sh-zero, sh-suc, unit-zero, none-at, ⊛-suc, ⊞-⊛, ⊡-⊛, sh-⊛, unit-⊛, none-⊛}
use Rattle.algebra.proofs.Product.{window, below_none, below-tl, below-⊞, below-⊡, below-sh, below_more}
use Rattle.algebra.proofs.Roots.{below-unit}

module _ (𝓕 : Field) where
  infixl 60 ◌⊕◌ ◌⊞◌
  infixl 70 ◌⊙◌ ◌⊛◌
  infixr 80 ◌⊡◌
  open 𝓕 use {Carrier as F, add as ◌⊕◌, mul as ◌⊙◌, nil as 𝟘, one as 𝟙}
  open operations 𝓕 use {◌⊞◌, ◌⊡◌, ◌⊛◌, none, unit, sh, tl}

  -- ---- monomials

  pub monomial-top : (n : ℕ) (a : F) → monomial 𝓕 n a n ≡ a
  unfolding monomial
  monomial-top zero a = rw (⊡-at, unit-zero) (⊙-𝟙 𝓕 a)
  monomial-top (suc n) a = sh-suc 𝓕 _ n ∙ monomial-top n a

  pub monomial_above : (n : ℕ) (a : F) → Below 𝓕 (suc n) (monomial 𝓕 n a)
  unfolding monomial
  monomial_above zero a = below-⊡ 𝓕 1 a unit (below-unit 𝓕)
  monomial_above (suc n) a = below-sh 𝓕 (suc n) (monomial 𝓕 n a) (monomial_above n a)

  pub monomial_below : (n : ℕ) (a : F) (k : ℕ) → k < n → monomial 𝓕 n a k ≡ 𝟘
  unfolding monomial
  monomial_below zero a k l = absurd (omega arith)
  monomial_below (suc n) a zero l = sh-zero 𝓕 _
  monomial_below (suc n) a (suc k) l = sh-suc 𝓕 _ k ∙ monomial_below n a k (omega arith)

  pub monomial-suc : (n : ℕ) (a : F) → monomial 𝓕 (suc n) a ≡ sh (monomial 𝓕 n a)
  unfolding monomial
  monomial-suc n a = refl

  -- ---- what g divides

  pub divides-⊞ : (g f h : Series 𝓕) → Divides 𝓕 g f → Divides 𝓕 g h → Divides 𝓕 g (f ⊞ h)
  divides-⊞ g f h p q = record {
    quotient = p.quotient ⊞ q.quotient;
    degree = p.degree + q.degree;
    finite = below-⊞ 𝓕 _ _ _ (below_more 𝓕 _ _ _ (omega arith) p.finite) (below_more 𝓕 _ _ _ (omega arith) q.finite);
    is = ap₂ (λ (x y : Series 𝓕). x ⊞ y) p.is q.is ∙ sym (⊞-⊛ 𝓕 _ _ _);
  }

  pub divides-sh : (g f : Series 𝓕) → Divides 𝓕 g f → Divides 𝓕 g (sh f)
  divides-sh g f p = record {
    quotient = sh p.quotient;
    degree = suc p.degree;
    finite = below-sh 𝓕 _ _ p.finite;
    is = ap sh p.is ∙ sym (sh-⊛ 𝓕 _ _);
  }

  pub divides_self : (g : Series 𝓕) (c : F) → Divides 𝓕 g (c ⊡ g)
  divides_self g c = record {
    quotient = c ⊡ unit;
    degree = 1;
    finite = below-⊡ 𝓕 1 c unit (below-unit 𝓕);
    is = sym (⊡-⊛ 𝓕 c unit g ∙ ap (λ (x : Series 𝓕). c ⊡ x) (unit-⊛ 𝓕 g));
  }

  ⊛-top : (a b : ℕ) (f g : Series 𝓕) → Below 𝓕 (suc a) f → Below 𝓕 (suc b) g → (f ⊛ g) (a + b) ≡ f a ⊙ g b
  ⊛-top zero b f g h k = rw zero-add (window 𝓕 0 b f g h (λ i l m. absurd (omega arith)))
  ⊛-top (suc a) b f g h k =
      rw (suc-add, ⊛-suc 𝓕 f g (a + b), ⊛-top a b (tl f) g (below-tl 𝓕 (suc a) f h) k, k (suc (a + b)) (omega arith), tl-at 𝓕 f a) (simp ring)

  -- the quotient of a product of degree below d, from its highest coefficient down
  quotient-none : (D d : ℕ) (g q : Series 𝓕) → Below 𝓕 (suc d) g → g d ≡ 𝟙 → Below 𝓕 D q → Below 𝓕 d (q ⊛ g) → q ≡ none
  quotient-none zero d g q hg top hq hp = below_none 𝓕 q hq
  quotient-none (suc D) d g q hg top hq hp = quotient-none D d g q hg top lower hp
    where
      lead : q D ≡ 𝟘
      lead = sym (⊛-top D d q g hq hg ∙ (rw top (⊙-𝟙 𝓕 _))) ∙ hp (D + d) (omega arith)

      lower : Below 𝓕 D q
      lower k l = elim (dec_le (suc D) k) [ yes p ↦ hq k p | no p ↦ (let e : k ≡ D = omega arith in rw e lead) ]

  divides-none : (d : ℕ) (g f : Series 𝓕) → Below 𝓕 (suc d) g → g d ≡ 𝟙 → Divides 𝓕 g f → Below 𝓕 d f → f ≡ none
  divides-none d g f hg top p hf =
      p.is ∙ ap (λ (q : Series 𝓕). q ⊛ g) (quotient-none p.degree d g p.quotient hg top p.finite (rw (← p.is) hf)) ∙ none-⊛ 𝓕 g

  pub remainder_unique : (d : ℕ) (g f p q : Series 𝓕) → Below 𝓕 (suc d) g → g d ≡ 𝟙 → Remainder 𝓕 g d f p → Remainder 𝓕 g d f q → p ≡ q
  remainder_unique d g f p q hg top hp hq = fun_ext (λ k. eq_of-sum 𝓕 _ _ (sym (⊞-at 𝓕 p q k) ∙ ap (λ (x : Series 𝓕). x k) zero-sum ∙ none-at 𝓕 k))
    where
      same : f ⊞ p ⊞ (f ⊞ q) ≡ p ⊞ q
      same = fun_ext (λ k. simp (⊞-at, ring))

      zero-sum : p ⊞ q ≡ none
      zero-sum =
          divides-none d g (p ⊞ q) hg top (rw same at (divides-⊞ g (f ⊞ p) (f ⊞ q) hp.divides hq.divides))
          (below-⊞ 𝓕 d p q hp.small hq.small)
