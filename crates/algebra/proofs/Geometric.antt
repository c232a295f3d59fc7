-- The coefficients of G = (x - a) (x - a²) .. (x - aᵐ), each from the one above it, and the lower half of them from the upper.
--
--   geometric_ratio      since (x - aᵐ) G(a x) = aᵐ (x - 1) G(x), Gₖ (aᵏ - aᵐ) = aᵐ (aᵏ⁺¹ - 1) Gₖ₊₁
--   geometric_down       .. which for a other than 0 is Gₖ (1 - aʲ) = (aᵐ⁺¹ - aʲ) Gₖ₊₁, where k + j = m
--   geometric_symmetric  for m = 2e and a of an order over m, Gₑ₋ₖ = a^((m+1) k) Gₑ₊ₖ
--
-- Assumes nothing.
use mathlib.Core.Path.{◌≡◌, refl, sym, ◌∙◌, ap, fun_ext}
use mathlib.Core.Logic.{◌≢◌}
use Prim.Native.Nat.{ℕ, zero, suc, ◌+◌, ◌-◌, ◌*◌, ◌≤◌, ◌<◌}
use native.Mathlib.Nat.{add-zero, add-suc, sub-zero}
use native.Mathlib.Omega.{arith}
use Rattle.algebra.specs.Field.{Field}
use Rattle.algebra.specs.Series.{Series, operations}
use Rattle.algebra.specs.Polynomial.{root, rooted}
use Rattle.algebra.specs.Power.{pow, rising}
use Rattle.algebra.proofs.Ring.{ring, ⊙-comm, eq_of-sum, sum_of-eq, ⊙-cancel}
use Rattle.algebra.proofs.Product.{⊞-at, ⊡-at, unit-zero, unit-suc, sh-⊞, sh-⊡}
use Rattle.algebra.proofs.Roots.{root_is, root-at, root-first, rooted-zero, rooted-suc}
use Rattle.algebra.proofs.Powers.{pow-zero, pow-suc, pow-ne, pow-add, rising-at}

module _ (𝓕 : Field) where
  infixl 60 ◌⊕◌
  infixl 70 ◌⊙◌
  infixr 80 ◌⊡◌
  open 𝓕 use {Carrier as F, add as ◌⊕◌, mul as ◌⊙◌, nil as 𝟘, one as 𝟙}
  open operations 𝓕 use {◌⊡◌, unit}

  -- f(a x)
  scaled : F → Series 𝓕 → Series 𝓕
  scaled a f k = pow 𝓕 a k ⊙ f k

  scaled_at : (a : F) (f : Series 𝓕) (k : ℕ) → scaled a f k ≡ pow 𝓕 a k ⊙ f k
  unfolding scaled
  scaled_at a f k = refl

  scaled-unit : (a : F) → scaled a unit ≡ unit
  scaled-unit a = fun_ext at
    where
      at : (k : ℕ) → scaled a unit k ≡ unit k
      at zero = rw (scaled_at, pow-zero, unit-zero) (simp ring)
      at (suc k) = rw (scaled_at, unit-suc) (simp ring)

  -- (a x - a r) f(a x) = a (x - r) f(a x)
  scaled-root : (a r : F) (f : Series 𝓕) → scaled a (root 𝓕 (a ⊙ r) f) ≡ a ⊡ root 𝓕 r (scaled a f)
  scaled-root a r f = fun_ext at
    where
      at : (k : ℕ) → scaled a (root 𝓕 (a ⊙ r) f) k ≡ (a ⊡ root 𝓕 r (scaled a f)) k
      at zero = rw (scaled_at a (root 𝓕 (a ⊙ r) f), ⊡-at, root-first 𝓕 (a ⊙ r) f, root-first 𝓕 r (scaled a f), scaled_at, pow-zero) (simp ring)
      at (suc k) =
          rw (scaled_at a (root 𝓕 (a ⊙ r) f), ⊡-at, root-at 𝓕 (a ⊙ r) f, root-at 𝓕 r (scaled a f), scaled_at a f k, scaled_at a f (suc k), pow-suc 𝓕 a k)
          (simp ring)

  root-⊡ : (r c : F) (f : Series 𝓕) → root 𝓕 r (c ⊡ f) ≡ c ⊡ root 𝓕 r f
  root-⊡ r c f = simp (root_is, sh-⊡) (fun_ext (λ k. simp (⊞-at, ⊡-at, ring)))

  root-root : (r s : F) (f : Series 𝓕) → root 𝓕 r (root 𝓕 s f) ≡ root 𝓕 s (root 𝓕 r f)
  root-root r s f = simp (root_is, sh-⊞, sh-⊡) (fun_ext (λ k. simp (⊞-at, ⊡-at, ring)))

  geometric : (a : F) (m : ℕ) → root 𝓕 (pow 𝓕 a m) (scaled a (rooted 𝓕 m (rising 𝓕 a))) ≡ pow 𝓕 a m ⊡ root 𝓕 𝟙 (rooted 𝓕 m (rising 𝓕 a))
  geometric a zero = rw (rooted-zero, pow-zero, scaled-unit) (fun_ext (λ k. rw ⊡-at (simp ring)))
  geometric a (suc m) =
      rw (rooted-suc, rising-at, pow-suc 𝓕 a m, scaled-root a (pow 𝓕 a m), geometric a m, root-⊡, root-⊡, root-root (a ⊙ pow 𝓕 a m) 𝟙)
      (fun_ext (λ k. simp (⊡-at, ring)))

  pub geometric_ratio : (a : F) (m k : ℕ) → let G = rooted 𝓕 m (rising 𝓕 a) in
      G k ⊙ (pow 𝓕 a k ⊕ pow 𝓕 a m) ≡ pow 𝓕 a m ⊙ (pow 𝓕 a (suc k) ⊕ 𝟙) ⊙ G (suc k)
  geometric_ratio a m k =
      let G = rooted 𝓕 m (rising 𝓕 a) in
      eq_of-sum 𝓕 _ _ (sym (simp ring) ∙ sum_of-eq 𝓕 _ _ (same G (ap (λ (f : Series 𝓕). f (suc k)) (geometric a m))))
    where
      same : (G : Series 𝓕) → root 𝓕 (pow 𝓕 a m) (scaled a G) (suc k) ≡ (pow 𝓕 a m ⊡ root 𝓕 𝟙 G) (suc k)
          → pow 𝓕 a k ⊙ G k ⊕ pow 𝓕 a m ⊙ (pow 𝓕 a (suc k) ⊙ G (suc k)) ≡ pow 𝓕 a m ⊙ (G k ⊕ G (suc k))
      same G e = sym (rw (root-at, scaled_at, scaled_at)) ∙ e ∙ (rw (⊡-at, root-at) (simp ring))

  module _ (a : F) (a-ne : a ≢ 𝟘) where
    pub geometric_down : (m k j : ℕ) → k + j ≡ m → let G = rooted 𝓕 m (rising 𝓕 a) in
        G k ⊙ (𝟙 ⊕ pow 𝓕 a j) ≡ (pow 𝓕 a (suc m) ⊕ pow 𝓕 a j) ⊙ G (suc k)
    geometric_down m k j s =
        let G = rooted 𝓕 m (rising 𝓕 a) in
        let p : pow 𝓕 a m ≡ pow 𝓕 a k ⊙ pow 𝓕 a j = ap (pow 𝓕 a) (sym s) ∙ pow-add 𝓕 a k j in
        ⊙-cancel 𝓕 (pow 𝓕 a k) _ _ (pow-ne 𝓕 a k a-ne)
        (sym (rw p (simp ring)) ∙ geometric_ratio a m k ∙ (rw (pow-suc 𝓕 a m, pow-suc 𝓕 a k, p) (simp ring)))

    module _ (e : ℕ) (order : (k : ℕ) → 0 < k → k ≤ 2 * e → 𝟙 ⊕ pow 𝓕 a k ≢ 𝟘) where
      abbrev G : Series 𝓕
      G = rooted 𝓕 (2 * e) (rising 𝓕 a)

      abbrev c : F
      c = pow 𝓕 a (suc (2 * e))

      -- Gᵤ from Gᵥ₊₁, where Gᵤ₊₁ is known from Gᵥ
      inward : (u v : ℕ) (x : F) → u + suc v ≡ 2 * e → G (suc u) ≡ x ⊙ G v → G u ≡ c ⊙ x ⊙ G (suc v)
      inward u v x s h =
          ⊙-cancel 𝓕 (𝟙 ⊕ pow 𝓕 a (suc v)) _ _ (order (suc v) (omega arith) (omega arith))
          (⊙-comm 𝓕 _ _ ∙ geometric_down (2 * e) u (suc v) s
          ∙ (rw (h, split) (sym (simp ring) ∙ ap (λ (y : F). pow 𝓕 a (suc v) ⊙ x ⊙ y) (geometric_down (2 * e) v (suc u) (omega arith)) ∙ (rw split (simp ring)))))
        where
          split : c ≡ pow 𝓕 a (suc v) ⊙ pow 𝓕 a (suc u)
          split = ap (pow 𝓕 a) (omega (arith, s)) ∙ pow-add 𝓕 a (suc v) (suc u)

      pub geometric_symmetric : (d : ℕ) → d ≤ e → G (e - d) ≡ pow 𝓕 c d ⊙ G (e + d)
      geometric_symmetric zero l = rw (pow-zero, sub-zero, add-zero) (simp ring)
      geometric_symmetric (suc d) l =
          let z : e - d ≡ suc (e - suc d) = omega arith in
          rw (pow-suc 𝓕 c d, add-suc) (inward (e - suc d) (e + d) (pow 𝓕 c d) (omega arith) (rw z at (geometric_symmetric d (omega arith))))
