-- Interpolation at the roots of (x - X₀) .. (x - Xₘ₋₁), after Lagrange.
--
--   total-zero, total-suc, total-same    the clauses of a sum, and sums of the same terms
--   total_more                           n terms more
--   part-is, part-next, below-part       a part's definition, coefficients and degree
--   part_value                           its value at its own point, by the derivative ..
--   part-ne                              .. is not zero
--   interpolated-at                      a coefficient of a sum of parts
--   interpolated-remainder               the parts taken so often that their sum has the values of f at all Xₖ: it is the remainder of f
--
-- Assumes nothing.
use mathlib.Core.Path.{◌≡◌, refl, sym, ◌∙◌, ap, ap₂, fun_ext}
use mathlib.Core.Logic.{◌≢◌}
use Prim.Native.Nat.{ℕ, zero, suc, ◌+◌, ◌*◌, ◌/◌, ◌≤◌, ◌<◌}
use native.Mathlib.Nat.{add-zero, add-suc}
use native.Mathlib.Omega.{arith}
use native.Mathlib.Decide.{dec_le, ℕ_discrete}
use Rattle.algebra.specs.Field.{Field}
use Rattle.algebra.specs.Series.{Series, Below, operations}
use Rattle.algebra.specs.Polynomial.{rooted, Remainder}
use Rattle.algebra.specs.Value.{ev}
use Rattle.algebra.specs.Points.{Distinct}
use Rattle.algebra.specs.Derivative.{odds}
use Rattle.algebra.specs.Interpolation.{quo, total, part, interpolated}
use Rattle.algebra.proofs.Ring.{ring, ⊕-𝟘, ⊕_self, 𝟘-⊙, factor, sum-ne}
use Rattle.algebra.proofs.Product.{⊞-at, ⊡-at, none-at, below-⊞, below_more}
use Rattle.algebra.proofs.Value.{ev-none, ev-⊞, ev-⊡, ev_more}
use Rattle.algebra.proofs.Roots.{factor_theorem, roots, quo-next, below-quo, below-rooted, rooted-top, rooted-root, roots_divide}
use Rattle.algebra.proofs.Derivative.{deriv-quo, deriv-odds}

module _ (𝓕 : Field) where
  infixl 60 ◌⊕◌ ◌⊞◌
  infixl 70 ◌⊙◌
  infixr 80 ◌⊡◌
  open 𝓕 use {Carrier as F, add as ◌⊕◌, mul as ◌⊙◌, nil as 𝟘, one as 𝟙}
  open operations 𝓕 use {◌⊞◌, ◌⊡◌, none}

  pub total-zero : (f : ℕ → F) → total 𝓕 0 f ≡ 𝟘
  unfolding total
  total-zero f = refl

  pub total-suc : (n : ℕ) (f : ℕ → F) → total 𝓕 (suc n) f ≡ total 𝓕 n f ⊕ f n
  unfolding total
  total-suc n f = refl

  pub total-same : (n : ℕ) (f g : ℕ → F) → ((k : ℕ) → k < n → f k ≡ g k) → total 𝓕 n f ≡ total 𝓕 n g
  total-same zero f g h = total-zero f ∙ sym (total-zero g)
  total-same (suc n) f g h =
      total-suc n f ∙ ap₂ (λ (x y : F). x ⊕ y) (total-same n f g (λ k l. h k (omega arith))) (h n (omega arith)) ∙ sym (total-suc n g)

  pub total_more : (m n : ℕ) (f : ℕ → F) → total 𝓕 (m + n) f ≡ total 𝓕 m f ⊕ total 𝓕 n (λ k. f (m + k))
  total_more m zero f = rw (add-zero, total-zero) (sym (⊕-𝟘 𝓕 _))
  total_more m (suc n) f = rw (add-suc, total-suc (m + n) f, total_more m n f, total-suc n (λ k. f (m + k))) (simp ring)

  pub interpolated-at : (m : ℕ) (X : Series 𝓕) (n : ℕ) (W : Series 𝓕) (c : ℕ) → interpolated 𝓕 m X n W c ≡ total 𝓕 n (λ k. W k ⊙ part 𝓕 m X k c)
  unfolding interpolated
  interpolated-at m X n W c = refl

  module _ (m : ℕ) (X : Series 𝓕) where
    pub part-is : (k : ℕ) → part 𝓕 m X k ≡ quo 𝓕 m (rooted 𝓕 m X) (X k)
    unfolding part
    part-is k = refl

    pub part-next : (k c : ℕ) → part 𝓕 m X k c ≡ rooted 𝓕 m X (suc c) ⊕ X k ⊙ part 𝓕 m X k (suc c)
    part-next k c = rw part-is (quo-next 𝓕 m _ (X k) (below-rooted 𝓕 m X) c)

    pub below-part : (k : ℕ) → Below 𝓕 m (part 𝓕 m X k)
    below-part k = rw part-is (below-quo 𝓕 m _ (X k))

    interpolated-none : (W : Series 𝓕) → interpolated 𝓕 m X 0 W ≡ none
    interpolated-none W = fun_ext (λ c. interpolated-at m X 0 W c ∙ total-zero _ ∙ sym (none-at 𝓕 c))

    interpolated-suc : (n : ℕ) (W : Series 𝓕) → interpolated 𝓕 m X (suc n) W ≡ interpolated 𝓕 m X n W ⊞ W n ⊡ part 𝓕 m X n
    interpolated-suc n W = fun_ext (λ c. rw (interpolated-at m X (suc n) W c, total-suc, ⊞-at, ⊡-at, interpolated-at m X n W c))

    below-interpolated : (n : ℕ) (W : Series 𝓕) → Below 𝓕 m (interpolated 𝓕 m X n W)
    below-interpolated zero W c l = rw interpolated-none (none-at 𝓕 c)
    below-interpolated (suc n) W c l = rw (interpolated-suc, ⊞-at, ⊡-at, below-interpolated n W c l, below-part n c l) (simp ring)

    module _ (D : Distinct 𝓕 m X) where
      apart : (j k : ℕ) → j < m → k < m → j ≢ k → X j ≢ X k
      apart j k l o n e = elim (dec_le j k) [ yes p ↦ D j k (omega arith) o e | no p ↦ D k j (omega arith) l (sym e) ]

      part_other : (j k : ℕ) → j < m → k < m → j ≢ k → ev 𝓕 m (part 𝓕 m X k) (X j) ≡ 𝟘
      part_other j k l o n = rw part-is (factor 𝓕 (X j ⊕ X k) _ (sum-ne 𝓕 _ _ (apart j k l o n))
          (sym (factor_theorem 𝓕 m (rooted 𝓕 m X) (X k) (X j)) ∙ (rw (rooted-root 𝓕 m X j l, rooted-root 𝓕 m X k o) (⊕_self 𝓕 𝟘))))

      pub part-ne : (k : ℕ) → k < m → ev 𝓕 m (part 𝓕 m X k) (X k) ≢ 𝟘
      part-ne k l e = 𝓕.one_ne_nil (top m l refl)
        where
          zero-at : (j : ℕ) → j < m → ev 𝓕 m (part 𝓕 m X k) (X j) ≡ 𝟘
          zero-at j o = elim (ℕ_discrete j k) [ yes p ↦ rw p e | no n ↦ part_other j k o l n ]

          top : (d : ℕ) → k < d → d ≡ m → 𝟙 ≡ 𝟘
          top zero o z = absurd (omega arith)
          top (suc d) o z =
              let g : ℕ → F = rooted 𝓕 m X in
              sym (ap g z ∙ rooted-top 𝓕 m X)
              ∙ sym (sym (roots 𝓕 m (part 𝓕 m X k) X D zero-at d (omega arith)) ∙ part-next k d ∙ (rw (below-part k (suc d) (omega arith)) (simp ring)))

      -- parts from m on are not taken
      taken : (n : ℕ) (W : Series 𝓕) → ((k : ℕ) → m ≤ k → W k ≡ 𝟘) → (j : ℕ) → j < m → j ≢ n
          → W n ⊙ ev 𝓕 m (part 𝓕 m X n) (X j) ≡ 𝟘
      taken n W z j l d = elim (dec_le m n) [ yes p ↦ rw (z n p) (𝟘-⊙ 𝓕 _) | no p ↦ rw (part_other j n l (omega arith) d) (simp ring) ]

      interpolated-before : (n : ℕ) (W : Series 𝓕) → ((k : ℕ) → m ≤ k → W k ≡ 𝟘) → (j : ℕ) → j < m → n ≤ j
          → ev 𝓕 m (interpolated 𝓕 m X n W) (X j) ≡ 𝟘
      interpolated-before zero W z j l o = rw interpolated-none (ev-none 𝓕 m (X j))
      interpolated-before (suc n) W z j l o =
          rw (interpolated-suc, ev-⊞, ev-⊡, interpolated-before n W z j l (omega arith), taken n W z j l (omega arith)) (⊕-𝟘 𝓕 𝟘)

      interpolated_value : (n : ℕ) (W : Series 𝓕) → ((k : ℕ) → m ≤ k → W k ≡ 𝟘) → (j : ℕ) → j < m → j < n
          → ev 𝓕 m (interpolated 𝓕 m X n W) (X j) ≡ W j ⊙ ev 𝓕 m (part 𝓕 m X j) (X j)
      interpolated_value zero W z j l o = absurd (omega arith)
      interpolated_value (suc n) W z j l o =
          ap (λ (f : Series 𝓕). ev 𝓕 m f (X j)) (interpolated-suc n W) ∙ ev-⊞ 𝓕 m _ _ (X j)
          ∙ ap (λ (y : F). ev 𝓕 m (interpolated 𝓕 m X n W) (X j) ⊕ y) (ev-⊡ 𝓕 m (W n) _ (X j)) ∙ go (ℕ_discrete j n) (interpolated_value n W z j l)
        where
          go : Dec (j ≡ n) → (j < n → ev 𝓕 m (interpolated 𝓕 m X n W) (X j) ≡ W j ⊙ ev 𝓕 m (part 𝓕 m X j) (X j))
              → ev 𝓕 m (interpolated 𝓕 m X n W) (X j) ⊕ W n ⊙ ev 𝓕 m (part 𝓕 m X n) (X j) ≡ W j ⊙ ev 𝓕 m (part 𝓕 m X j) (X j)
          go (yes p) ih = rw (interpolated-before n W z j l (omega arith), ← p) (simp ring)
          go (no p) ih = rw (ih (omega arith), taken n W z j l p) (⊕-𝟘 𝓕 _)

      pub interpolated-remainder : (n N : ℕ) (f W : Series 𝓕) → m ≤ n → Below 𝓕 N f → ((k : ℕ) → m ≤ k → W k ≡ 𝟘)
          → ((k : ℕ) → k < m → W k ⊙ ev 𝓕 m (part 𝓕 m X k) (X k) ≡ ev 𝓕 N f (X k)) → Remainder 𝓕 (rooted 𝓕 m X) m f (interpolated 𝓕 m X n W)
      interpolated-remainder n N f W o h z v = record {
        small = below-interpolated n W;
        divides = roots_divide 𝓕 m (N + m) X _ (below-⊞ 𝓕 (N + m) f _ (below_more 𝓕 N (N + m) f (omega arith) h)
            (below_more 𝓕 m (N + m) _ (omega arith) (below-interpolated n W))) D at;
      }
        where
          at : (k : ℕ) → k < m → ev 𝓕 (N + m) (f ⊞ interpolated 𝓕 m X n W) (X k) ≡ 𝟘
          at k l =
              rw (
                ev-⊞,
                ev_more 𝓕 N (N + m) f (X k) h (omega arith),
                ev_more 𝓕 m (N + m) _ (X k) (below-interpolated n W) (omega arith),
                interpolated_value n W z k l (omega arith),
                v k l,
              ) (⊕_self 𝓕 _)

  pub part_value : (e : ℕ) (X : Series 𝓕) (k : ℕ) → k < 2 * e
      → ev 𝓕 (2 * e) (part 𝓕 (2 * e) X k) (X k) ≡ ev 𝓕 e (odds 𝓕 (rooted 𝓕 (2 * e) X)) (X k ⊙ X k)
  part_value e X k l =
      let h : (2 * e + 1) / 2 ≡ e = omega arith in
      rw (part-is, deriv-quo 𝓕 (2 * e) _ (X k) (below-rooted 𝓕 (2 * e) X) (rooted-root 𝓕 (2 * e) X k l), deriv-odds, h)
