-- Forney's formula for the values of the errors.
--
--   skip-zero, skip-suc    the clauses of `skip`
--   prod-ne, skip-ne       a product of factors that are not zero is not
--   forney                 (C S)(Zₖ) = Yₖ Xₖ skip, for the locator C and the syndromes S
--   forney_sound           values that obey the formula, for any S of which C is a recurrence, have S as their syndromes
--
-- Assumes nothing.
use mathlib.Core.Path.{◌≡◌, refl, sym, ◌∙◌, ap, fun_ext}
use mathlib.Core.Logic.{◌≢◌}
use Prim.Native.Nat.{ℕ, zero, suc, ◌≤◌, ◌<◌}
use native.Mathlib.Omega.{arith}
use native.Mathlib.Decide.{dec_le}
use Rattle.algebra.specs.Field.{Field}
use Rattle.algebra.specs.Series.{Series, Below, operations}
use Rattle.algebra.specs.Value.{ev}
use Rattle.algebra.specs.Points.{Distinct, Inverses}
use Rattle.algebra.specs.Massey.{Annihilates}
use Rattle.algebra.specs.PowerSum.{psum, synd}
use Rattle.algebra.specs.Power.{rising}
use Rattle.algebra.specs.Locator.{lin, loc, prod, skip}
use Rattle.algebra.proofs.Ring.{ring, 𝟙-⊙, ⊙-𝟘, ⊕-𝟘, ⊕_self, eq_of-sum, mul-ne}
use Rattle.algebra.proofs.Product.{tl-at, ⊞-at, ⊡-at, sh-suc, unit-zero, unit-suc, ⊛-⊞, ⊛-⊡, ⊡-⊛, ⊛-comm, window, unit-⊛}
use Rattle.algebra.proofs.Value.{ev-⊞, ev-⊡}
use Rattle.algebra.proofs.Roots.{distinct-tl, roots}
use Rattle.algebra.proofs.Locator as Loc
use Rattle.algebra.proofs.Locator.{inverses_distinct, link-ne, synd-at, synd-suc, lin-is, lin-zero, lin-⊛, ev-lin, loc-suc, ev-loc}
use Rattle.algebra.proofs.Locator.{prod-zero, prod-suc, prod-root, loc-annihilates, locator_unique}
use Rattle.algebra.proofs.Powers.{pow-zero, pow-suc, rising-at}

module _ (𝓕 : Field) where
  infixl 60 ◌⊕◌ ◌⊞◌
  infixl 70 ◌⊙◌ ◌⊛◌
  infixr 80 ◌⊡◌
  open 𝓕 use {Carrier as F, add as ◌⊕◌, mul as ◌⊙◌, nil as 𝟘, one as 𝟙}
  open operations 𝓕 use {◌⊞◌, ◌⊡◌, ◌⊛◌, unit, sh, tl}

  -- (1 ⊕ a x) (a ⊕ a² x ⊕ ..) = a
  lin-rising : (a : F) → lin 𝓕 a (rising 𝓕 a) ≡ a ⊡ unit
  lin-rising a = fun_ext at
    where
      at : (n : ℕ) → lin 𝓕 a (rising 𝓕 a) n ≡ (a ⊡ unit) n
      at zero = rw (lin-zero, rising-at, pow-suc, pow-zero, ⊡-at, unit-zero)
      at (suc n) =
          rw (lin-is, ⊞-at, ⊡-at 𝓕 a (sh (rising 𝓕 a)), sh-suc, rising-at 𝓕 a (suc n), rising-at 𝓕 a n, pow-suc 𝓕 a (suc n), ⊕_self, ⊡-at, unit-suc, ⊙-𝟘)

  omega-suc : (v : ℕ) (Y X : Series 𝓕) → loc 𝓕 (suc v) X ⊛ synd 𝓕 (suc v) Y X
      ≡ (Y 0 ⊙ X 0) ⊡ loc 𝓕 v (tl X) ⊞ lin 𝓕 (X 0) (loc 𝓕 v (tl X) ⊛ synd 𝓕 v (tl Y) (tl X))
  omega-suc v Y X =
      rw (loc-suc, synd-suc, ⊛-⊞, lin-⊛ 𝓕 (X 0) _ (synd 𝓕 v (tl Y) (tl X)))
      (ap (λ f. f ⊞ lin 𝓕 (X 0) (loc 𝓕 v (tl X) ⊛ synd 𝓕 v (tl Y) (tl X))) first)
    where
      first : lin 𝓕 (X 0) (loc 𝓕 v (tl X)) ⊛ (Y 0 ⊡ rising 𝓕 (X 0)) ≡ (Y 0 ⊙ X 0) ⊡ loc 𝓕 v (tl X)
      first = rw (⊛-⊡, lin-⊛, ⊛-comm 𝓕 (loc 𝓕 v (tl X)), ← lin-⊛ 𝓕 (X 0) (rising 𝓕 (X 0)) (loc 𝓕 v (tl X)), lin-rising, ⊡-⊛, unit-⊛)
          (fun_ext (λ k. simp (⊡-at, ring)))

  pub skip-zero : (v : ℕ) (X : Series 𝓕) (x : F) → skip 𝓕 (suc v) X 0 x ≡ prod 𝓕 v (tl X) x
  unfolding skip
  skip-zero v X x = refl

  pub skip-suc : (v : ℕ) (X : Series 𝓕) (k : ℕ) (x : F) → skip 𝓕 (suc v) X (suc k) x ≡ (𝟙 ⊕ X 0 ⊙ x) ⊙ skip 𝓕 v (tl X) k x
  unfolding skip
  skip-suc v X k x = refl

  pub prod-ne : (v : ℕ) (X : Series 𝓕) (x : F) → ((l : ℕ) → l < v → 𝟙 ⊕ X l ⊙ x ≢ 𝟘) → prod 𝓕 v X x ≢ 𝟘
  prod-ne zero X x h = rw prod-zero 𝓕.one_ne_nil
  prod-ne (suc v) X x h = rw prod-suc (mul-ne 𝓕 _ _ (h 0 (omega arith)) (prod-ne v (tl X) x (λ l m. rw tl-at (h (suc l) (omega arith)))))

  pub skip-ne : (v : ℕ) (X : Series 𝓕) (k : ℕ) (z : F) → Distinct 𝓕 v X → k < v → X k ⊙ z ≡ 𝟙 → skip 𝓕 v X k z ≢ 𝟘
  skip-ne zero X k z D l h = absurd (omega arith)
  skip-ne (suc v) X zero z D l h = rw skip-zero (prod-ne v (tl X) z
      (λ i m. link-ne 𝓕 (tl X i) (X 0) z h (rw tl-at (λ p. D 0 (suc i) (omega arith) (omega arith) (sym p)))))
  skip-ne (suc v) X (suc k) z D l h = rw skip-suc (mul-ne 𝓕 _ _ (link-ne 𝓕 (X 0) (X (suc k)) z h (D 0 (suc k) (omega arith) l))
      (skip-ne v (tl X) k z (distinct-tl 𝓕 v X D) (omega arith) (rw tl-at h)))

  omega_below : (v : ℕ) (Y X Z : Series 𝓕) → Inverses 𝓕 v X Z → Below 𝓕 v (loc 𝓕 v X ⊛ synd 𝓕 v Y X)
  omega_below v Y X Z I k l = loc-annihilates 𝓕 v (suc k) Y X Z I k l (omega arith)

  pub forney : (v : ℕ) (Y X Z : Series 𝓕) → Inverses 𝓕 v X Z → (k : ℕ) (z : F) → k < v → X k ⊙ z ≡ 𝟙
      → ev 𝓕 v (loc 𝓕 v X ⊛ synd 𝓕 v Y X) z ≡ Y k ⊙ (X k ⊙ skip 𝓕 v X k z)
  forney zero Y X Z I k z l h = absurd (omega arith)
  forney (suc v) Y X Z I k z l h =
      rw (omega-suc, ev-⊞, ev-⊡, ev-loc, ev-lin 𝓕 v (X 0) _ z (omega_below v (tl Y) (tl X) (tl Z) (Loc.inverses-tl 𝓕 v X Z I)))
      (at k l h (forney v (tl Y) (tl X) (tl Z) (Loc.inverses-tl 𝓕 v X Z I)))
    where
      Ω : F
      Ω = ev 𝓕 v (loc 𝓕 v (tl X) ⊛ synd 𝓕 v (tl Y) (tl X)) z

      at : (k : ℕ) → k < suc v → X k ⊙ z ≡ 𝟙
          → ((i : ℕ) (z : F) → i < v → tl X i ⊙ z ≡ 𝟙 → ev 𝓕 v (loc 𝓕 v (tl X) ⊛ synd 𝓕 v (tl Y) (tl X)) z ≡ tl Y i ⊙ (tl X i ⊙ skip 𝓕 v (tl X) i z))
          → Y 0 ⊙ X 0 ⊙ prod 𝓕 v (tl X) z ⊕ (𝟙 ⊕ X 0 ⊙ z) ⊙ Ω ≡ Y k ⊙ (X k ⊙ skip 𝓕 (suc v) X k z)
      at zero l h ih = rw (h, skip-zero) (simp ring)
      at (suc k) l h ih =
          rw (prod-root 𝓕 v (tl X) z k (omega arith) (rw tl-at h), ih k z (omega arith) (rw tl-at h), skip-suc, tl-at 𝓕 X k, tl-at 𝓕 Y k) (simp ring)

  -- a series with constant coefficient 1 is no divisor of zero, up to any n
  cancel : (L n : ℕ) (C g : Series 𝓕) → C 0 ≡ 𝟙 → Below 𝓕 (suc L) C → ((k : ℕ) → k < n → (C ⊛ g) k ≡ 𝟘) → (k : ℕ) → k < n → g k ≡ 𝟘
  cancel L zero C g c d h k l = absurd (omega arith)
  cancel L (suc n) C g c d h k l = go (cancel L n C g c d (λ i m. h i (omega arith))) (dec_le n k)
    where
      go : ((i : ℕ) → i < n → g i ≡ 𝟘) → Dec (n ≤ k) → g k ≡ 𝟘
      go ih (no p) = ih k (omega arith)
      go ih (yes p) = sym (window 𝓕 L k C g d (λ i m o. ih i (omega arith)) ∙ (rw c (𝟙-⊙ 𝓕 _))) ∙ h k l

  pub forney_sound : (L n : ℕ) (C S Y X Z : Series 𝓕) → C 0 ≡ 𝟙 → Below 𝓕 (suc L) C → Annihilates 𝓕 L n C S → L ≤ n
      → Distinct 𝓕 L X → Inverses 𝓕 L X Z → ((k : ℕ) → k < L → ev 𝓕 (suc L) C (Z k) ≡ 𝟘)
      → ((k : ℕ) → k < L → Y k ⊙ (X k ⊙ skip 𝓕 L X k (Z k)) ≡ ev 𝓕 L (C ⊛ S) (Z k))
      → (i : ℕ) → i < n → psum 𝓕 L Y X (suc i) ≡ S i
  forney_sound L n C S Y X Z c d a l D I e y i m =
      sym (synd-at 𝓕 L Y X i) ∙ eq_of-sum 𝓕 _ _ (sym (⊞-at 𝓕 _ S i) ∙ cancel L n C (synd 𝓕 L Y X ⊞ S) c d all i m)
    where
      diff : Series 𝓕
      diff = C ⊛ (synd 𝓕 L Y X ⊞ S)

      is : C ≡ loc 𝓕 L X
      is = locator_unique 𝓕 L C X Z c d I D e

      at-root : (k : ℕ) → k < L → ev 𝓕 L diff (Z k) ≡ 𝟘
      at-root k o = rw (⊛-⊞, ev-⊞, ← y k o, is, forney L Y X Z I k (Z k) o (I k o)) (⊕_self 𝓕 _)

      all : (k : ℕ) → k < n → diff k ≡ 𝟘
      all k o = elim (dec_le L k) [
        | yes p ↦ rw (⊛-⊞, ⊞-at, a k p o, is, omega_below L Y X Z I k p) (⊕-𝟘 𝓕 𝟘)
        | no p ↦ roots 𝓕 L diff Z (inverses_distinct 𝓕 L X Z I D) at-root k (omega arith)
      ]
