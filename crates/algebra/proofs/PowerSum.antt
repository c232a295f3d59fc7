-- Power sums Y₀ X₀ⁱ + .. + Yᵥ₋₁ Xᵥ₋₁ⁱ.
--
--   psum-zero, psum-suc    the clauses of the definition
--   psum-none              values that are zero sum to zero
--   vandermonde            v power sums in a row that vanish, at distinct Xₖ that are not zero: every Yₖ is zero
--
-- Assumes nothing.
use mathlib.Core.Path.{◌≡◌, refl, sym, ◌∙◌}
use mathlib.Core.Logic.{◌≢◌}
use Prim.Native.Nat.{ℕ, zero, suc, ◌+◌, ◌≤◌, ◌<◌}
use native.Mathlib.Omega.{arith}
use Rattle.algebra.specs.Field.{Field}
use Rattle.algebra.specs.Series as Ser
use Rattle.algebra.specs.Power.{pow}
use Rattle.algebra.specs.Series.{Series, operations}
use Rattle.algebra.specs.Points.{Distinct}
use Rattle.algebra.specs.PowerSum.{psum}
use Rattle.algebra.proofs.Ring.{ring, ⊙-comm, factor, sum-ne}
use Rattle.algebra.proofs.Product.{tl-at}
use Rattle.algebra.proofs.Roots.{distinct-tl}
use Rattle.algebra.proofs.Powers.{pow-suc, pow-ne}

module _ (𝓕 : Field) where
  infixl 60 ◌⊕◌
  infixl 70 ◌⊙◌
  open 𝓕 use {Carrier as F, add as ◌⊕◌, mul as ◌⊙◌, nil as 𝟘, one as 𝟙}
  open operations 𝓕 use {tl}

  pub psum-zero : (Y X : Series 𝓕) (i : ℕ) → psum 𝓕 0 Y X i ≡ 𝟘
  unfolding psum
  psum-zero Y X i = refl

  pub psum-suc : (v : ℕ) (Y X : Series 𝓕) (i : ℕ) → psum 𝓕 (suc v) Y X i ≡ Y 0 ⊙ pow 𝓕 (X 0) i ⊕ psum 𝓕 v (tl Y) (tl X) i
  unfolding psum
  psum-suc v Y X i = refl

  pub psum-none : (v : ℕ) (Y X : Series 𝓕) (i : ℕ) → ((k : ℕ) → k < v → Y k ≡ 𝟘) → psum 𝓕 v Y X i ≡ 𝟘
  psum-none zero Y X i h = psum-zero Y X i
  psum-none (suc v) Y X i h =
      rw (psum-suc, h 0 (omega arith), psum-none v (tl Y) (tl X) i (λ k l. tl-at 𝓕 Y k ∙ h (suc k) (omega arith))) (simp ring)

  -- Y at X, times (X ⊕ r)
  less : F → Series 𝓕 → Series 𝓕 → Series 𝓕
  less r X Y k = Y k ⊙ (X k ⊕ r)

  less-at : (r : F) (X Y : Series 𝓕) (k : ℕ) → less r X Y k ≡ Y k ⊙ (X k ⊕ r)
  unfolding less
  less-at r X Y k = refl

  tl-less : (r : F) (X Y : Series 𝓕) → tl (less r X Y) ≡ less r (tl X) (tl Y)
  unfolding less Ser.tl
  tl-less r X Y = refl

  psum-less : (v : ℕ) (r : F) (Y X : Series 𝓕) (i : ℕ) → psum 𝓕 v (less r X Y) X i ≡ psum 𝓕 v Y X (suc i) ⊕ r ⊙ psum 𝓕 v Y X i
  psum-less zero r Y X i = simp (psum-zero, ring)
  psum-less (suc v) r Y X i = simp (psum-suc, less-at, tl-less, pow-suc, psum-less v r (tl Y) (tl X) i, ring)

  -- the first point drops out
  psum-drop : (v : ℕ) (Y X : Series 𝓕) (i : ℕ)
      → psum 𝓕 v (less (X 0) (tl X) (tl Y)) (tl X) i ≡ psum 𝓕 (suc v) Y X (suc i) ⊕ X 0 ⊙ psum 𝓕 (suc v) Y X i
  psum-drop v Y X i = rw psum-less (simp (psum-suc, pow-suc, ring))

  pub vandermonde : (v a : ℕ) (Y X : Series 𝓕) → Distinct 𝓕 v X → ((k : ℕ) → k < v → X k ≢ 𝟘)
      → ((i : ℕ) → a ≤ i → i < a + v → psum 𝓕 v Y X i ≡ 𝟘) → (k : ℕ) → k < v → Y k ≡ 𝟘
  vandermonde zero a Y X D ne h k l = absurd (omega arith)
  vandermonde (suc v) a Y X D ne h k l =
      at (rest (vandermonde v a (less (X 0) (tl X) (tl Y)) (tl X) (distinct-tl 𝓕 v X D) (λ i m. rw tl-at (ne (suc i) (omega arith)))
      (λ i m n. psum-drop v Y X i ∙ (rw (h i (omega arith) (omega arith), h (suc i) (omega arith) (omega arith)) (simp ring))))) k l
    where
      -- without the first point, by the recursive call that stands in the body
      rest : ((k : ℕ) → k < v → less (X 0) (tl X) (tl Y) k ≡ 𝟘) → (k : ℕ) → k < v → tl Y k ≡ 𝟘
      rest ih k l = factor 𝓕 (tl X k ⊕ X 0) (tl Y k)
          (sum-ne 𝓕 _ _ (rw tl-at (λ p. D 0 (suc k) (omega arith) (omega arith) (sym p))))
          (⊙-comm 𝓕 _ _ ∙ sym (less-at (X 0) (tl X) (tl Y) k) ∙ ih k l)

      at : ((k : ℕ) → k < v → tl Y k ≡ 𝟘) → (k : ℕ) → k < suc v → Y k ≡ 𝟘
      at r zero l = factor 𝓕 (pow 𝓕 (X 0) a) (Y 0) (pow-ne 𝓕 (X 0) a (ne 0 l))
          (sym (rw (psum-suc, psum-none v (tl Y) (tl X) a r) (simp ring)) ∙ h a (omega arith) (omega arith))
      at r (suc k) l = sym (tl-at 𝓕 Y k) ∙ r k (omega arith)
