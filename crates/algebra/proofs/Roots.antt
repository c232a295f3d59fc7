-- Roots of polynomials.
--
--   factor_theorem                   f(x) - f(r) = (x - r) quo(x)
--   quo_splits                       where f(r) = 0, f = (x - r) quo
--   quo-next                         its coefficients, each from the one above it: synthetic division
--   below-quo                        its degree
--   distinct-tl                      distinct points, without the first
--   roots                            d distinct points at which the first d coefficients evaluate to zero: all d are zero
--   root_is, root-at, root-first     (x - r) f, and its coefficients
--   ev-root                          .. and its value
--   rooted-zero, rooted-suc          the clauses of (x - X₀) .. (x - Xₘ₋₁)
--   below-unit, below-rooted         the degrees of 1 and of it
--   rooted-top                       its highest coefficient is 1
--   rooted-root                      it is zero at each Xᵢ
--   divides-root                     what it divides is zero at each Xᵢ
--   roots_divide                     and what is zero at each of the distinct Xᵢ it divides
--
-- Assumes nothing.
use mathlib.Core.Path.{◌≡◌, refl, sym, ◌∙◌, ap, fun_ext, ◌≡⟨◌⟩◌, ◌∎}
use mathlib.Core.Logic.{◌≢◌}
use Prim.Native.Nat.{ℕ, zero, suc, ◌+◌, ◌≤◌, ◌<◌}
use native.Mathlib.Omega.{arith}
use native.Mathlib.Decide.{dec_le}
use Rattle.algebra.specs.Field.{Field}
use Rattle.algebra.specs.Series as Ser
use Rattle.algebra.specs.Series.{Series, Below, operations}
use Rattle.algebra.specs.Polynomial.{Divides, root, rooted}
use Rattle.algebra.specs.Value.{ev}
use Rattle.algebra.specs.Interpolation.{quo}
use Rattle.algebra.specs.Points.{Distinct}
use Rattle.algebra.proofs.Ring.{ring, ⊙-𝟘, ⊙-comm, factor, mul-ne, sum-ne}
use Rattle.algebra.proofs.Product.{tl-at, ⊞-at, ⊡-at, sh-zero, sh-suc, unit-zero, unit-suc, below-⊞, below-⊡, below-sh, below_more}
use Rattle.algebra.proofs.Product.{below-tl, ⊞-⊛, ⊡-⊛, sh-⊛, ⊛-comm, unit-⊛}
use Rattle.algebra.proofs.Value.{ev_zero, ev-suc, ev_one, ev-⊞, ev-⊡, ev-sh, ev-unit, ev_more, ev-⊛}

module _ (𝓕 : Field) where
  infixl 60 ◌⊕◌ ◌⊞◌
  infixl 70 ◌⊙◌ ◌⊛◌
  infixr 80 ◌⊡◌
  open 𝓕 use {Carrier as F, add as ◌⊕◌, mul as ◌⊙◌, nil as 𝟘, one as 𝟙}
  open operations 𝓕 use {◌⊞◌, ◌⊡◌, ◌⊛◌, unit, sh, tl}

  quo-head : (d : ℕ) (f : Series 𝓕) (r : F) → quo 𝓕 (suc d) f r 0 ≡ ev 𝓕 (suc d) (tl f) r
  unfolding quo
  quo-head d f r = refl

  quo-tl : (d : ℕ) (f : Series 𝓕) (r : F) → tl (quo 𝓕 (suc d) f r) ≡ quo 𝓕 d (tl f) r
  unfolding quo Ser.tl
  quo-tl d f r = refl

  pub factor_theorem : (d : ℕ) (f : Series 𝓕) (r x : F) → ev 𝓕 (suc d) f x ⊕ ev 𝓕 (suc d) f r ≡ (x ⊕ r) ⊙ ev 𝓕 d (quo 𝓕 d f r) x
  factor_theorem zero f r x = simp (ev_one, ev_zero, ring)
  factor_theorem (suc d) f r x =
      ev 𝓕 (suc (suc d)) f x ⊕ ev 𝓕 (suc (suc d)) f r
      ≡⟨ (rw (ev-suc 𝓕 (suc d) f x, ev-suc 𝓕 (suc d) f r) (simp ring)) ⟩
      x ⊙ (ev 𝓕 (suc d) (tl f) x ⊕ ev 𝓕 (suc d) (tl f) r) ⊕ (x ⊕ r) ⊙ ev 𝓕 (suc d) (tl f) r
      ≡⟨ (rw (factor_theorem d (tl f) r x) (simp ring)) ⟩
      (x ⊕ r) ⊙ (ev 𝓕 (suc d) (tl f) r ⊕ x ⊙ ev 𝓕 d (quo 𝓕 d (tl f) r) x)
      ≡⟨ (rw (ev-suc 𝓕 d (quo 𝓕 (suc d) f r) x, quo-head, quo-tl)) ⟩
      (x ⊕ r) ⊙ ev 𝓕 (suc d) (quo 𝓕 (suc d) f r) x ∎

  -- a root whose quotient is zero (of f only the coefficients below suc d are seen)
  quo-zero : (d : ℕ) (f : Series 𝓕) (r : F) → ev 𝓕 (suc d) f r ≡ 𝟘 → ((k : ℕ) → k < d → quo 𝓕 d f r k ≡ 𝟘) → (k : ℕ) → k < suc d → f k ≡ 𝟘
  quo-zero zero f r e q zero l = sym (ev_one 𝓕 f r) ∙ e
  quo-zero zero f r e q (suc k) l = absurd (omega arith)
  quo-zero (suc d) f r e q zero l = sym (rw (ev-suc, ← quo-head d f r, q 0 (omega arith)) (simp ring)) ∙ e
  quo-zero (suc d) f r e q (suc k) l =
      sym (tl-at 𝓕 f k) ∙ quo-zero d (tl f) r (sym (quo-head d f r) ∙ q 0 (omega arith))
      (λ i m. sym (ap (λ s. s i) (quo-tl d f r)) ∙ tl-at 𝓕 _ i ∙ q (suc i) (omega arith)) k (omega arith)

  pub distinct-tl : (d : ℕ) (X : Series 𝓕) → Distinct 𝓕 (suc d) X → Distinct 𝓕 d (tl X)
  unfolding Ser.tl
  distinct-tl d X h i j l m = h (suc i) (suc j) (omega arith) (omega arith)

  -- d distinct points at which the first d coefficients evaluate to zero: all d are zero
  pub roots : (d : ℕ) (f X : Series 𝓕) → Distinct 𝓕 d X → ((k : ℕ) → k < d → ev 𝓕 d f (X k) ≡ 𝟘) → (k : ℕ) → k < d → f k ≡ 𝟘
  roots zero f X D e k l = absurd (omega arith)
  roots (suc d) f X D e k l = quo-zero d f (X 0) (e 0 (omega arith)) (roots d (quo 𝓕 d f (X 0)) (tl X) (distinct-tl d X D) at) k l
    where
      at : (k : ℕ) → k < d → ev 𝓕 d (quo 𝓕 d f (X 0)) (tl X k) ≡ 𝟘
      at k l = rw tl-at (factor 𝓕 (X (suc k) ⊕ X 0) _ (sum-ne 𝓕 _ _ (λ p. D 0 (suc k) (omega arith) (omega arith) (sym p)))
          (sym (factor_theorem d f (X 0) (X (suc k))) ∙ (rw (e (suc k) (omega arith), e 0 (omega arith)) (simp ring))))

  -- ---- the factor x - r

  pub root_is : (r : F) (f : Series 𝓕) → root 𝓕 r f ≡ sh f ⊞ r ⊡ f
  unfolding root
  root_is r f = refl

  pub root-at : (r : F) (f : Series 𝓕) (k : ℕ) → root 𝓕 r f (suc k) ≡ f k ⊕ r ⊙ f (suc k)
  root-at r f k = rw (root_is, ⊞-at, ⊡-at, sh-suc)

  pub root-first : (r : F) (f : Series 𝓕) → root 𝓕 r f 0 ≡ r ⊙ f 0
  root-first r f = rw (root_is, ⊞-at, ⊡-at, sh-zero) (simp ring)

  root-⊛ : (r : F) (f g : Series 𝓕) → root 𝓕 r f ⊛ g ≡ root 𝓕 r (f ⊛ g)
  root-⊛ r f g = simp (root_is, ⊞-⊛, ⊡-⊛, sh-⊛)

  below_root : (d : ℕ) (r : F) (f : Series 𝓕) → Below 𝓕 d f → Below 𝓕 (suc d) (root 𝓕 r f)
  below_root d r f h = rw root_is (below-⊞ 𝓕 (suc d) (sh f) _ (below-sh 𝓕 d f h) (below-⊡ 𝓕 (suc d) r f (below_more 𝓕 d (suc d) f (omega arith) h)))

  pub ev-root : (d : ℕ) (r : F) (f : Series 𝓕) (x : F) → Below 𝓕 d f → ev 𝓕 (suc d) (root 𝓕 r f) x ≡ (x ⊕ r) ⊙ ev 𝓕 d f x
  ev-root d r f x h = rw (root_is, ev-⊞, ev-⊡, ev-sh, ev_more 𝓕 d (suc d) f x h (omega arith)) (simp ring)

  -- the quotient's first coefficient, and those behind it
  quo-at : (d : ℕ) (f : Series 𝓕) (r : F) (k : ℕ) → quo 𝓕 (suc d) f r k ≡ sh (quo 𝓕 d (tl f) r) k ⊕ ev 𝓕 (suc d) (tl f) r ⊙ unit k
  quo-at d f r zero = rw (quo-head, sh-zero, unit-zero) (simp ring)
  quo-at d f r (suc k) = sym (tl-at 𝓕 (quo 𝓕 (suc d) f r) k) ∙ (rw (quo-tl, sh-suc, unit-suc) (simp ring))

  quo-none : (f : Series 𝓕) (r : F) (k : ℕ) → quo 𝓕 0 f r k ≡ 𝟘
  unfolding quo
  quo-none f r k = refl

  quo_splits-at : (d : ℕ) (f : Series 𝓕) (r : F) → Below 𝓕 (suc d) f → (k : ℕ) → f k ≡ root 𝓕 r (quo 𝓕 d f r) k ⊕ ev 𝓕 (suc d) f r ⊙ unit k
  quo_splits-at zero f r h zero = rw (root-first, quo-none, ev_one, unit-zero) (simp ring)
  quo_splits-at zero f r h (suc k) = rw (root-at, quo-none f r k, quo-none f r (suc k), unit-suc, h (suc k) (omega arith)) (simp ring)
  quo_splits-at (suc d) f r h zero = rw (root-first, quo-head, ev-suc 𝓕 (suc d) f r, unit-zero) (simp ring)
  quo_splits-at (suc d) f r h (suc k) =
      sym (tl-at 𝓕 f k) ∙ quo_splits-at d (tl f) r (below-tl 𝓕 (suc d) f h) k
      ∙ (rw (root_is r (quo 𝓕 d (tl f) r), ⊞-at, ⊡-at, root-at, quo-at d f r k, ← tl-at 𝓕 (quo 𝓕 (suc d) f r) k, quo-tl, unit-suc) (simp ring))

  pub quo_splits : (d : ℕ) (f : Series 𝓕) (r : F) → Below 𝓕 (suc d) f → ev 𝓕 (suc d) f r ≡ 𝟘 → f ≡ root 𝓕 r (quo 𝓕 d f r)
  quo_splits d f r h e = fun_ext (λ k. quo_splits-at d f r h k ∙ (rw e (simp ring)))

  pub quo-next : (d : ℕ) (f : Series 𝓕) (r : F) → Below 𝓕 (suc d) f → (k : ℕ) → quo 𝓕 d f r k ≡ f (suc k) ⊕ r ⊙ quo 𝓕 d f r (suc k)
  quo-next d f r h k = rw (quo_splits-at d f r h (suc k), root-at, unit-suc) (simp ring)

  pub below-quo : (d : ℕ) (f : Series 𝓕) (r : F) → Below 𝓕 d (quo 𝓕 d f r)
  below-quo zero f r k l = quo-none f r k
  below-quo (suc d) f r zero l = absurd (omega arith)
  below-quo (suc d) f r (suc k) l = sym (tl-at 𝓕 (quo 𝓕 (suc d) f r) k) ∙ (rw quo-tl (below-quo d (tl f) r k (omega arith)))

  -- ---- the product of the factors x - Xᵢ

  pub rooted-suc : (n : ℕ) (X : Series 𝓕) → rooted 𝓕 (suc n) X ≡ root 𝓕 (X n) (rooted 𝓕 n X)
  unfolding rooted
  rooted-suc n X = refl

  pub rooted-zero : (X : Series 𝓕) → rooted 𝓕 0 X ≡ unit
  unfolding rooted
  rooted-zero X = refl

  pub below-unit : Below 𝓕 1 unit
  below-unit zero l = absurd (omega arith)
  below-unit (suc k) l = unit-suc 𝓕 k

  pub below-rooted : (n : ℕ) (X : Series 𝓕) → Below 𝓕 (suc n) (rooted 𝓕 n X)
  below-rooted zero X = rw rooted-zero below-unit
  below-rooted (suc n) X = rw rooted-suc (below_root (suc n) (X n) _ (below-rooted n X))

  -- the highest coefficient is 1
  pub rooted-top : (n : ℕ) (X : Series 𝓕) → rooted 𝓕 n X n ≡ 𝟙
  rooted-top zero X = rw rooted-zero (unit-zero 𝓕)
  rooted-top (suc n) X = rw (rooted-suc, root-at, rooted-top n X, below-rooted n X (suc n) (omega arith)) (simp ring)

  ev-rooted : (n : ℕ) (X : Series 𝓕) (x : F) → ev 𝓕 (suc (suc n)) (rooted 𝓕 (suc n) X) x ≡ (x ⊕ X n) ⊙ ev 𝓕 (suc n) (rooted 𝓕 n X) x
  ev-rooted n X x = rw rooted-suc (ev-root (suc n) (X n) (rooted 𝓕 n X) x (below-rooted n X))

  pub rooted-root : (n : ℕ) (X : Series 𝓕) (i : ℕ) → i < n → ev 𝓕 (suc n) (rooted 𝓕 n X) (X i) ≡ 𝟘
  rooted-root zero X i l = absurd (omega arith)
  rooted-root (suc n) X i l = ev-rooted n X (X i) ∙ go (dec_le n i) (rooted-root n X i)
    where
      go : Dec (n ≤ i) → (i < n → ev 𝓕 (suc n) (rooted 𝓕 n X) (X i) ≡ 𝟘) → (X i ⊕ X n) ⊙ ev 𝓕 (suc n) (rooted 𝓕 n X) (X i) ≡ 𝟘
      go (yes p) ih = let e : i ≡ n = omega arith in rw e (simp ring)
      go (no p) ih = rw (ih (omega arith)) (⊙-𝟘 𝓕 _)

  rooted-ne : (n : ℕ) (X : Series 𝓕) (x : F) → ((i : ℕ) → i < n → x ≢ X i) → ev 𝓕 (suc n) (rooted 𝓕 n X) x ≢ 𝟘
  rooted-ne zero X x h = rw (rooted-zero, ev-unit) 𝓕.one_ne_nil
  rooted-ne (suc n) X x h = rw ev-rooted (mul-ne 𝓕 _ _ (sum-ne 𝓕 x (X n) (h n (omega arith))) (rooted-ne n X x (λ i l. h i (omega arith))))

  pub divides-root : (m n : ℕ) (X f : Series 𝓕) → Below 𝓕 n f → Divides 𝓕 (rooted 𝓕 m X) f → (i : ℕ) → i < m → ev 𝓕 n f (X i) ≡ 𝟘
  divides-root m n X f h d i l =
      let N : ℕ = n + d.degree + suc m in
      sym (ev_more 𝓕 n N f (X i) h (omega arith)) ∙ ap (λ (g : Series 𝓕). ev 𝓕 N g (X i)) d.is
      ∙ ev-⊛ 𝓕 d.degree (suc m) N d.quotient (rooted 𝓕 m X) (X i) d.finite (below-rooted m X) (omega arith)
      ∙ (rw (rooted-root m X i l) (⊙-𝟘 𝓕 _))

  pub roots_divide : (m n : ℕ) (X f : Series 𝓕) → Below 𝓕 n f → Distinct 𝓕 m X → ((i : ℕ) → i < m → ev 𝓕 n f (X i) ≡ 𝟘) → Divides 𝓕 (rooted 𝓕 m X) f
  roots_divide zero n X f h D e = record { quotient = f; degree = n; finite = h; is = sym (rw (rooted-zero, ⊛-comm 𝓕 f) (unit-⊛ 𝓕 f)) }
  roots_divide (suc m) n X f h D e = next (roots_divide m n X f h (λ i j l o. D i j l (omega arith)) (λ i l. e i (omega arith)))
    where
      next : Divides 𝓕 (rooted 𝓕 m X) f → Divides 𝓕 (rooted 𝓕 (suc m) X) f
      next d = record {
        quotient = quo 𝓕 d.degree d.quotient (X m);
        degree = d.degree;
        finite = below-quo d.degree d.quotient (X m);
        is = d.is ∙ ap (λ (q : Series 𝓕). q ⊛ rooted 𝓕 m X) (quo_splits d.degree d.quotient (X m) fin zero-at) ∙ root-⊛ (X m) _ _
            ∙ (rw (rooted-suc, ⊛-comm 𝓕 _ (root 𝓕 (X m) (rooted 𝓕 m X)), root-⊛ (X m) (rooted 𝓕 m X) _, ⊛-comm 𝓕 (rooted 𝓕 m X)));
      }
        where
          N : ℕ
          N = n + suc d.degree + suc m

          fin : Below 𝓕 (suc d.degree) d.quotient
          fin = below_more 𝓕 d.degree (suc d.degree) d.quotient (omega arith) d.finite

          both : ev 𝓕 (suc m) (rooted 𝓕 m X) (X m) ⊙ ev 𝓕 (suc d.degree) d.quotient (X m) ≡ 𝟘
          both =
              ⊙-comm 𝓕 _ _
              ∙ sym (ev-⊛ 𝓕 (suc d.degree) (suc m) N d.quotient (rooted 𝓕 m X) (X m) fin (below-rooted m X) (omega arith))
              ∙ ap (λ (g : Series 𝓕). ev 𝓕 N g (X m)) (sym d.is) ∙ ev_more 𝓕 n N f (X m) h (omega arith) ∙ e m (omega arith)

          zero-at : ev 𝓕 (suc d.degree) d.quotient (X m) ≡ 𝟘
          zero-at = factor 𝓕 _ _ (rooted-ne m X (X m) (λ i l p. D i m l (omega arith) (sym p))) both
