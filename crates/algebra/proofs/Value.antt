-- The value of a polynomial at a point.
--
--   ev_zero, ev-suc, ev_one                              the clauses of the definition
--   ev-⊞, ev-⊡, ev-none, ev-sh, ev-unit, ev-⊛          it goes through the operations
--   ev-monomial   the value of a x^n
--   ev_more       coefficients that are zero may be read too
--   ev_local      only the first d coefficients are read
--
-- Assumes nothing.
use mathlib.Core.Path.{◌≡◌, refl, sym, ◌∙◌, ap, ◌≡⟨◌⟩◌, ◌∎}
use Prim.Native.Nat.{ℕ, zero, suc, ◌+◌, ◌≤◌, ◌<◌}
use native.Mathlib.Omega.{arith}
use Rattle.algebra.specs.Field.{Field}
use Rattle.algebra.specs.Series.{Series, Below, operations}
use Rattle.algebra.specs.Polynomial.{monomial}
use Rattle.algebra.specs.Power.{pow}
use Rattle.algebra.specs.Value.{ev}
use Rattle.algebra.proofs.Ring.{ring}
use Rattle.algebra.proofs.Powers.{pow-zero, pow-suc}
use Rattle.algebra.proofs.Product.{below_none, below-tl, none-at, tl-at, tl-⊞, tl-⊡, tl-⊛, tl-none, tl-unit, tl-sh, ⊞-at, ⊡-at}
use Rattle.algebra.proofs.Product.{⊛-zero, none-⊛, unit-zero, sh-zero}

module _ (𝓕 : Field) where
  infixl 60 ◌⊕◌ ◌⊞◌
  infixl 70 ◌⊙◌ ◌⊛◌
  infixr 80 ◌⊡◌
  open 𝓕 use {Carrier as F, add as ◌⊕◌, mul as ◌⊙◌, nil as 𝟘, one as 𝟙}
  open operations 𝓕 use {◌⊞◌, ◌⊡◌, ◌⊛◌, none, unit, sh, tl}

  pub ev_zero : (f : Series 𝓕) (x : F) → ev 𝓕 0 f x ≡ 𝟘
  unfolding ev
  ev_zero f x = refl

  pub ev-suc : (d : ℕ) (f : Series 𝓕) (x : F) → ev 𝓕 (suc d) f x ≡ f 0 ⊕ x ⊙ ev 𝓕 d (tl f) x
  unfolding ev
  ev-suc d f x = refl

  pub ev_one : (f : Series 𝓕) (x : F) → ev 𝓕 1 f x ≡ f 0
  ev_one f x = rw (ev-suc, ev_zero) (simp ring)

  pub ev-⊞ : (d : ℕ) (f g : Series 𝓕) (x : F) → ev 𝓕 d (f ⊞ g) x ≡ ev 𝓕 d f x ⊕ ev 𝓕 d g x
  ev-⊞ zero f g x = simp (ev_zero, ring)
  ev-⊞ (suc d) f g x = simp (ev-suc, tl-⊞, ⊞-at, ev-⊞ d (tl f) (tl g) x, ring)

  pub ev-⊡ : (d : ℕ) (c : F) (f : Series 𝓕) (x : F) → ev 𝓕 d (c ⊡ f) x ≡ c ⊙ ev 𝓕 d f x
  ev-⊡ zero c f x = simp (ev_zero, ring)
  ev-⊡ (suc d) c f x = simp (ev-suc, tl-⊡, ⊡-at, ev-⊡ d c (tl f) x, ring)

  pub ev-none : (d : ℕ) (x : F) → ev 𝓕 d none x ≡ 𝟘
  ev-none zero x = ev_zero none x
  ev-none (suc d) x = simp (ev-suc, tl-none, none-at, ev-none d x, ring)

  pub ev-sh : (d : ℕ) (f : Series 𝓕) (x : F) → ev 𝓕 (suc d) (sh f) x ≡ x ⊙ ev 𝓕 d f x
  ev-sh d f x = simp (ev-suc, tl-sh, sh-zero, ring)

  pub ev-unit : (d : ℕ) (x : F) → ev 𝓕 (suc d) unit x ≡ 𝟙
  ev-unit d x = simp (ev-suc, tl-unit, unit-zero, ev-none, ring)

  -- coefficients that are zero may be read too
  pub ev_more : (d e : ℕ) (f : Series 𝓕) (x : F) → Below 𝓕 d f → d ≤ e → ev 𝓕 e f x ≡ ev 𝓕 d f x
  ev_more zero e f x h l = rw (below_none 𝓕 f h) (ev-none e x ∙ sym (ev_zero none x))
  ev_more (suc d) zero f x h l = absurd (omega arith)
  ev_more (suc d) (suc e) f x h l = simp (ev-suc, ev_more d e (tl f) x (below-tl 𝓕 d f h) (omega arith))

  -- only the first d coefficients are read
  pub ev_local : (d : ℕ) (f g : Series 𝓕) (x : F) → ((k : ℕ) → k < d → f k ≡ g k) → ev 𝓕 d f x ≡ ev 𝓕 d g x
  ev_local zero f g x h = rw (ev_zero f x, ev_zero g x)
  ev_local (suc d) f g x h = rw (
    ev-suc d f x,
    ev-suc d g x,
    h 0 (omega arith),
    ev_local d (tl f) (tl g) x (λ k l. tl-at 𝓕 f k ∙ h (suc k) (omega arith) ∙ sym (tl-at 𝓕 g k)),
  )

  pub ev-⊛ : (a b n : ℕ) (f g : Series 𝓕) (x : F) → Below 𝓕 a f → Below 𝓕 b g → a + b ≤ n
      → ev 𝓕 n (f ⊛ g) x ≡ ev 𝓕 a f x ⊙ ev 𝓕 b g x
  ev-⊛ zero b n f g x h k l = rw (below_none 𝓕 f h, none-⊛) (simp (ev-none, ring))
  ev-⊛ (suc a) b zero f g x h k l = absurd (omega arith)
  ev-⊛ (suc a) b (suc n) f g x h k l =
      ev 𝓕 (suc n) (f ⊛ g) x
      ≡⟨ (simp (ev-suc, tl-⊛, ev-⊞, ev-⊡, ⊛-zero, ev-⊛ a b n (tl f) g x (below-tl 𝓕 a f h) k (omega arith))) ⟩
      f 0 ⊙ g 0 ⊕ x ⊙ (f 0 ⊙ ev 𝓕 n (tl g) x ⊕ ev 𝓕 a (tl f) x ⊙ ev 𝓕 b g x)
      ≡⟨ (simp ring) ⟩
      f 0 ⊙ (g 0 ⊕ x ⊙ ev 𝓕 n (tl g) x) ⊕ x ⊙ (ev 𝓕 a (tl f) x ⊙ ev 𝓕 b g x)
      ≡⟨ ap (λ e. f 0 ⊙ e ⊕ x ⊙ (ev 𝓕 a (tl f) x ⊙ ev 𝓕 b g x)) (sym (ev-suc n g x) ∙ ev_more b (suc n) g x k (omega arith)) ⟩
      f 0 ⊙ ev 𝓕 b g x ⊕ x ⊙ (ev 𝓕 a (tl f) x ⊙ ev 𝓕 b g x)
      ≡⟨ (simp (ev-suc, ring)) ⟩
      ev 𝓕 (suc a) f x ⊙ ev 𝓕 b g x ∎

  pub ev-monomial : (n : ℕ) (a x : F) → ev 𝓕 (suc n) (monomial 𝓕 n a) x ≡ a ⊙ pow 𝓕 x n
  unfolding monomial
  ev-monomial zero a x = rw (ev-⊡, ev-unit, pow-zero)
  ev-monomial (suc n) a x = ev-sh (suc n) (monomial 𝓕 n a) x ∙ (rw (ev-monomial n a x, pow-suc) (simp ring))
