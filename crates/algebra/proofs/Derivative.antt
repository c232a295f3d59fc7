-- The formal derivative, in characteristic 2.
--
--   odds-at, deriv-odds      it is f₁, 0, f₃, 0, .., so its value at x is that of f₁, f₃, .. at x²
--   deriv-⊡                  it is linear
--   deriv-quo                at a root r of f it is the quotient of f by x - r
--   deriv-loc                the locator's derivative at Zₖ is Xₖ skip: Forney's divisor
--
-- Assumes nothing.
use mathlib.Core.Path.{◌≡◌, refl, sym, ap, ◌∙◌, fun_ext}
use Prim.Native.Nat.{ℕ, zero, suc, ◌+◌, ◌*◌, ◌/◌, ◌<◌}
use native.Mathlib.Omega.{arith}
use Rattle.algebra.specs.Field.{Field}
use Rattle.algebra.specs.Series.{Series, Below, operations}
use Rattle.algebra.specs.Polynomial.{root}
use Rattle.algebra.specs.Value.{ev}
use Rattle.algebra.specs.Locator.{lin, loc, prod, skip}
use Rattle.algebra.specs.Derivative.{deriv, odds}
use Rattle.algebra.specs.Interpolation.{quo}
use Rattle.algebra.proofs.Ring.{ring, ⊕-𝟘, ⊕_self, ⊕-cancel}
use Rattle.algebra.proofs.Product.{below-tl, tl-at, tl-⊞, tl-⊡, tl-sh, ⊞-at, ⊡-at, sh-zero, sh-suc}
use Rattle.algebra.proofs.Value.{ev_zero, ev-suc, ev_one, ev-⊞, ev-⊡}
use Rattle.algebra.proofs.Roots.{root_is, ev-root, quo_splits, below-quo}
use Rattle.algebra.proofs.Locator.{lin-is, ev-lin, loc-suc, below-loc, ev-loc, prod-root}
use Rattle.algebra.proofs.Forney.{skip-zero, skip-suc}

module _ (𝓕 : Field) where
  infixl 60 ◌⊕◌ ◌⊞◌
  infixl 70 ◌⊙◌
  infixr 80 ◌⊡◌
  open 𝓕 use {Carrier as F, add as ◌⊕◌, mul as ◌⊙◌, nil as 𝟘, one as 𝟙}
  open operations 𝓕 use {◌⊞◌, ◌⊡◌, sh, tl}

  deriv-zero : (f : Series 𝓕) → deriv 𝓕 f 0 ≡ f 1
  unfolding deriv
  deriv-zero f = refl

  deriv-suc : (f : Series 𝓕) (n : ℕ) → deriv 𝓕 f (suc n) ≡ f (suc (suc n)) ⊕ deriv 𝓕 (tl f) n
  unfolding deriv
  deriv-suc f n = refl

  deriv_one : (f : Series 𝓕) → deriv 𝓕 f 1 ≡ 𝟘
  deriv_one f = rw (deriv-suc, deriv-zero, tl-at) (⊕_self 𝓕 _)

  deriv_two : (f : Series 𝓕) (n : ℕ) → deriv 𝓕 f (suc (suc n)) ≡ deriv 𝓕 (tl (tl f)) n
  deriv_two f n = rw (deriv-suc f (suc n), deriv-suc (tl f) n, tl-at) (⊕-cancel 𝓕 _ _)

  pub odds-at : (f : Series 𝓕) (n : ℕ) → odds 𝓕 f n ≡ f (2 * n + 1)
  unfolding odds
  odds-at f n = refl

  odds-tl : (f : Series 𝓕) → odds 𝓕 (tl (tl f)) ≡ tl (odds 𝓕 f)
  odds-tl f = fun_ext (λ n.
      let e : suc (suc (2 * n + 1)) ≡ 2 * suc n + 1 = omega arith in
      rw (odds-at, tl-at 𝓕 (tl f), tl-at 𝓕 f, tl-at 𝓕 (odds 𝓕 f), odds-at f (suc n), e))

  deriv-tl : (f : Series 𝓕) → tl (tl (deriv 𝓕 f)) ≡ deriv 𝓕 (tl (tl f))
  deriv-tl f = fun_ext (λ n. rw (tl-at 𝓕 (tl (deriv 𝓕 f)), tl-at 𝓕 (deriv 𝓕 f)) (deriv_two f n))

  pub deriv-odds : (d : ℕ) (f : Series 𝓕) (x : F) → ev 𝓕 d (deriv 𝓕 f) x ≡ ev 𝓕 ((d + 1) / 2) (odds 𝓕 f) (x ⊙ x)
  deriv-odds zero f x = ev_zero 𝓕 _ x ∙ sym (ev_zero 𝓕 _ _)
  deriv-odds (suc zero) f x = ev_one 𝓕 _ x ∙ deriv-zero f ∙ sym (ev_one 𝓕 _ _ ∙ odds-at f 0)
  deriv-odds (suc (suc d)) f x =
      let e : (suc (suc d) + 1) / 2 ≡ suc ((d + 1) / 2) = omega arith in
      rw (
        e,
        ev-suc 𝓕 (suc d),
        ev-suc 𝓕 d,
        ev-suc 𝓕 ((d + 1) / 2),
        ← odds-tl f,
        deriv-tl f,
        ← deriv-odds d (tl (tl f)) x,
        tl-at 𝓕 (deriv 𝓕 f) 0,
        deriv_one f,
        deriv-zero f,
        odds-at f 0,
      ) (simp ring)

  -- the derivative is linear, and (x f)' = f + x f'
  deriv-⊞-at : (f g : Series 𝓕) (n : ℕ) → deriv 𝓕 (f ⊞ g) n ≡ deriv 𝓕 f n ⊕ deriv 𝓕 g n
  deriv-⊞-at f g zero = simp (deriv-zero, ⊞-at)
  deriv-⊞-at f g (suc n) = simp (deriv-suc, tl-⊞, ⊞-at, deriv-⊞-at (tl f) (tl g) n, ring)

  deriv-⊡-at : (c : F) (f : Series 𝓕) (n : ℕ) → deriv 𝓕 (c ⊡ f) n ≡ c ⊙ deriv 𝓕 f n
  deriv-⊡-at c f zero = simp (deriv-zero, ⊡-at)
  deriv-⊡-at c f (suc n) = simp (deriv-suc, tl-⊡, ⊡-at, deriv-⊡-at c (tl f) n, ring)

  pub deriv-⊡ : (c : F) (f : Series 𝓕) → deriv 𝓕 (c ⊡ f) ≡ c ⊡ deriv 𝓕 f
  deriv-⊡ c f = fun_ext (λ n. deriv-⊡-at c f n ∙ sym (⊡-at 𝓕 c (deriv 𝓕 f) n))

  deriv-sh-at : (f : Series 𝓕) (n : ℕ) → deriv 𝓕 (sh f) n ≡ f n ⊕ sh (deriv 𝓕 f) n
  deriv-sh-at f zero = rw (deriv-zero, sh-suc, sh-zero) (sym (⊕-𝟘 𝓕 _))
  deriv-sh-at f (suc n) = simp (deriv-suc, sh-suc, tl-sh)

  deriv-lin : (a : F) (f : Series 𝓕) → deriv 𝓕 (lin 𝓕 a f) ≡ a ⊡ f ⊞ lin 𝓕 a (deriv 𝓕 f)
  deriv-lin a f = fun_ext (λ n.
      rw (lin-is 𝓕 a f, lin-is 𝓕 a (deriv 𝓕 f), deriv-⊞-at, deriv-⊡-at, deriv-sh-at) (simp (⊞-at, ⊡-at, ring)))

  below-deriv : (d : ℕ) (f : Series 𝓕) → Below 𝓕 (suc d) f → Below 𝓕 d (deriv 𝓕 f)
  below-deriv d f h zero l = deriv-zero f ∙ h 1 (omega arith)
  below-deriv zero f h (suc n) l =
      rw (deriv-suc, h (suc (suc n)) (omega arith), below-deriv 0 (tl f) (λ k m. tl-at 𝓕 f k ∙ h (suc k) (omega arith)) n (omega arith)) (⊕-𝟘 𝓕 𝟘)
  below-deriv (suc d) f h (suc n) l = rw (deriv-suc, h (suc (suc n)) (omega arith), below-deriv d (tl f) (below-tl 𝓕 (suc d) f h) n (omega arith)) (⊕-𝟘 𝓕 𝟘)

  -- ((x - r) q)' = q + (x - r) q'
  deriv-root : (r : F) (q : Series 𝓕) → deriv 𝓕 (root 𝓕 r q) ≡ q ⊞ root 𝓕 r (deriv 𝓕 q)
  deriv-root r q = fun_ext (λ n. rw (root_is 𝓕 r q, root_is 𝓕 r (deriv 𝓕 q), deriv-⊞-at, deriv-⊡-at, deriv-sh-at) (simp (⊞-at, ⊡-at, ring)))

  pub deriv-quo : (d : ℕ) (f : Series 𝓕) (r : F) → Below 𝓕 (suc d) f → ev 𝓕 (suc d) f r ≡ 𝟘 → ev 𝓕 d (quo 𝓕 d f r) r ≡ ev 𝓕 d (deriv 𝓕 f) r
  deriv-quo zero f r h e = rw (ev_zero 𝓕 (quo 𝓕 0 f r), ev_zero 𝓕 (deriv 𝓕 f))
  deriv-quo (suc d) f r h e =
      sym (ap (λ (g : Series 𝓕). ev 𝓕 (suc d) (deriv 𝓕 g) r) (quo_splits 𝓕 (suc d) f r h e)
      ∙ (rw (deriv-root, ev-⊞, ev-root 𝓕 d r _ r (below-deriv d _ (below-quo 𝓕 (suc d) f r))) (simp ring)))

  -- Λ' at the inverse of Xₖ
  pub deriv-loc : (v : ℕ) (X : Series 𝓕) (k : ℕ) (z : F) → k < v → X k ⊙ z ≡ 𝟙 → ev 𝓕 v (deriv 𝓕 (loc 𝓕 v X)) z ≡ X k ⊙ skip 𝓕 v X k z
  deriv-loc zero X k z l h = absurd (omega arith)
  deriv-loc (suc v) X k z l h =
      rw (loc-suc, deriv-lin, ev-⊞, ev-⊡, ev-loc, ev-lin 𝓕 v (X 0) _ z (below-deriv v _ (below-loc 𝓕 v (tl X)))) (at k l h (deriv-loc v (tl X)))
    where
      at : (k : ℕ) → k < suc v → X k ⊙ z ≡ 𝟙
          → ((i : ℕ) (z : F) → i < v → tl X i ⊙ z ≡ 𝟙 → ev 𝓕 v (deriv 𝓕 (loc 𝓕 v (tl X))) z ≡ tl X i ⊙ skip 𝓕 v (tl X) i z)
          → X 0 ⊙ prod 𝓕 v (tl X) z ⊕ (𝟙 ⊕ X 0 ⊙ z) ⊙ ev 𝓕 v (deriv 𝓕 (loc 𝓕 v (tl X))) z ≡ X k ⊙ skip 𝓕 (suc v) X k z
      at zero l h ih = rw (h, skip-zero) (simp ring)
      at (suc k) l h ih = rw (prod-root 𝓕 v (tl X) z k (omega arith) (rw tl-at h), ih k z (omega arith) (rw tl-at h), skip-suc, tl-at 𝓕 X k) (simp ring)
