-- The distance of the code.
--
--   psum-⊞           the power sum of a sum of values
--   light-is-none    a series of weight at most t whose t syndromes vanish is zero
--
-- Assumes nothing.
use mathlib.Core.Path.{◌≡◌, sym, ◌∙◌}
use mathlib.Core.Logic.{◌≢◌}
use Prim.Native.Nat.{ℕ, zero, suc, ◌+◌, ◌≤◌, ◌<◌}
use native.Mathlib.Omega.{arith}
use Rattle.algebra.specs.Field.{Field}
use Rattle.algebra.specs.Series.{Series, operations}
use Rattle.algebra.specs.Points.{Distinct}
use Rattle.algebra.specs.PowerSum.{psum}
use Rattle.algebra.specs.Support.{Support, pick, weight}
use Rattle.algebra.proofs.Ring.{ring}
use Rattle.algebra.proofs.Product.{tl-⊞, ⊞-at}
use Rattle.algebra.proofs.PowerSum.{psum-zero, psum-suc, vandermonde}
use Rattle.algebra.proofs.Support.{pick_at, support}

module _ (𝓕 : Field) where
  infixl 60 ◌⊕◌ ◌⊞◌
  open 𝓕 use {add as ◌⊕◌, nil as 𝟘}
  open operations 𝓕 use {◌⊞◌, tl}

  pub psum-⊞ : (v : ℕ) (Y W X : Series 𝓕) (i : ℕ) → psum 𝓕 v (Y ⊞ W) X i ≡ psum 𝓕 v Y X i ⊕ psum 𝓕 v W X i
  psum-⊞ zero Y W X i = simp (psum-zero, ring)
  psum-⊞ (suc v) Y W X i = simp (psum-suc, tl-⊞, ⊞-at, psum-⊞ v (tl Y) (tl W) (tl X) i, ring)

  module _ (n t : ℕ) (A : Series 𝓕) (D : Distinct 𝓕 n A) (ne : (k : ℕ) → k < n → A k ≢ 𝟘) where
    pub light-is-none : (E : Series 𝓕) → weight 𝓕 n E ≤ t → ((i : ℕ) → i < t → psum 𝓕 n E A (suc i) ≡ 𝟘) → (p : ℕ) → p < n → E p ≡ 𝟘
    light-is-none E w z p l = go (𝓕.decide (E p) 𝟘)
      where
        at : ℕ → ℕ
        at = (support 𝓕 n E).0

        su : Support 𝓕 n (weight 𝓕 n E) E at
        su = (support 𝓕 n E).1

        sums : (i : ℕ) → 1 ≤ i → i < 1 + weight 𝓕 n E → psum 𝓕 (weight 𝓕 n E) (pick 𝓕 E at) (pick 𝓕 A at) i ≡ 𝟘
        sums zero m o = absurd (omega arith)
        sums (suc i) m o = sym (su.sums A (suc i)) ∙ z i (omega arith)

        nil-at : (j : ℕ) → j < weight 𝓕 n E → E (at j) ≡ 𝟘
        nil-at j m = sym (pick_at 𝓕 E at j) ∙ vandermonde 𝓕 (weight 𝓕 n E) 1 (pick 𝓕 E at) (pick 𝓕 A at)
            (λ i k q r. rw (pick_at 𝓕 A at i, pick_at 𝓕 A at k) (D (at i) (at k) (su.lists.rises i k q r) (su.lists.inside k r)))
            (λ k q. rw pick_at (ne (at k) (su.lists.inside k q))) sums j m

        go : Dec (E p ≡ 𝟘) → E p ≡ 𝟘
        go (yes e) = e
        go (no h) = let r = su.lists.all p l h in absurd (su.lists.each r.0 r.1 (nil-at r.0 r.1))
