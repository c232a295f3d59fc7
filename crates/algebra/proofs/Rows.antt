-- A polynomial's coefficients in rows, and rows added to others.
--
--   ev-split      the value of the first m coefficients, and xᵐ times that of the n behind them
--   ev-snoc       .. of one behind them
--   ev_rows       c r coefficients in r rows of c: the columns' values at xᶜ are the coefficients of a polynomial whose value at x is the whole's
--   ev_added      a added to the coefficient at b adds a xᵇ to the value
--   terms-zero, terms-suc    the clauses of `terms`
--
-- Assumes nothing.
use mathlib.Core.Path.{◌≡◌, refl, sym, ◌∙◌, ap, ap₂}
use mathlib.Core.Logic.{◌≢◌}
use Prim.Native.Nat.{ℕ, zero, suc, ◌+◌, ◌*◌, ◌<◌}
use native.Mathlib.Omega.{arith}
use native.Mathlib.Nat.{mul-suc, mul-zero, zero-add}
use Rattle.algebra.specs.Field.{Field}
use Rattle.algebra.specs.Series.{Series, operations}
use Rattle.algebra.specs.Power.{pow}
use Rattle.algebra.specs.Value.{ev, terms}
use Rattle.algebra.proofs.Ring.{ring}
use Rattle.algebra.proofs.Powers.{pow-zero, pow-suc}
use Rattle.algebra.proofs.Product.{tl-at, none-at, ⊞-at, ⊡-at}
use Rattle.algebra.proofs.Value.{ev_zero, ev-suc, ev_one, ev-none, ev_local, ev-⊞, ev-⊡}

module _ (𝓕 : Field) where
  infixl 60 ◌⊕◌ ◌⊞◌
  infixl 70 ◌⊙◌
  infixr 80 ◌⊡◌
  open 𝓕 use {Carrier as F, add as ◌⊕◌, mul as ◌⊙◌, nil as 𝟘, one as 𝟙}
  open operations 𝓕 use {◌⊞◌, ◌⊡◌, none, tl}

  pub ev-split : (m n : ℕ) (f : Series 𝓕) (x : F) → ev 𝓕 (m + n) f x ≡ ev 𝓕 m f x ⊕ pow 𝓕 x m ⊙ ev 𝓕 n (λ k. f (m + k)) x
  ev-split zero n f x =
      rw (zero-add n, ev_zero 𝓕 f x, pow-zero)
      (ev_local 𝓕 n f (λ k. f (0 + k)) x (λ k l. ap f (sym (zero-add k))) ∙ simp ring)
  ev-split (suc m) n f x =
      let e : suc m + n ≡ suc (m + n) = omega arith in
      let t : ev 𝓕 n (λ k. tl f (m + k)) x ≡ ev 𝓕 n (λ k. f (suc m + k)) x =
      ev_local 𝓕 n _ _ x (λ k l. tl-at 𝓕 f (m + k) ∙ ap f (omega arith)) in
      rw (e, ev-suc 𝓕 (m + n) f x, ev-suc 𝓕 m f x, ev-split m n (tl f) x, t, pow-suc 𝓕 x m) (simp ring)

  pub ev-snoc : (n : ℕ) (f : Series 𝓕) (x : F) → ev 𝓕 (suc n) f x ≡ ev 𝓕 n f x ⊕ f n ⊙ pow 𝓕 x n
  ev-snoc n f x =
      let e : suc n ≡ n + 1 = omega arith in
      let z : n + 0 ≡ n = omega arith in
      rw (e, ev-split n 1 f x, ev_one 𝓕 (λ k. f (n + k)) x, z) (simp ring)

  pub ev_rows : (c r : ℕ) (f : Series 𝓕) (x : F) → ev 𝓕 (c * r) f x ≡ ev 𝓕 c (λ q. ev 𝓕 r (λ d. f (c * d + q)) (pow 𝓕 x c)) x
  ev_rows c zero f x =
      rw (mul-zero c, ev_zero 𝓕 f x)
      (sym (ev-none 𝓕 c x) ∙ ev_local 𝓕 c none _ x (λ q l. none-at 𝓕 q ∙ sym (ev_zero 𝓕 _ (pow 𝓕 x c))))
  ev_rows c (suc r) f x =
      let y = pow 𝓕 x c in
      let later : Series 𝓕 = λ k. f (c + k) in
      let rest : Series 𝓕 = λ q. ev 𝓕 r (λ d. later (c * d + q)) y in
      let e : c * suc r ≡ c + c * r = omega (arith, mul-suc c r) in
      let column : (q : ℕ) → q < c → (f ⊞ y ⊡ rest) q ≡ ev 𝓕 (suc r) (λ d. f (c * d + q)) y = λ q l.
      ⊞-at 𝓕 f (y ⊡ rest) q
      ∙ ap₂ (λ (a b : F). a ⊕ b) (ap f (rw (mul-zero c) (sym (zero-add q))))
      (⊡-at 𝓕 y rest q ∙ ap (λ (a : F). y ⊙ a)
      (ev_local 𝓕 r _ _ y (λ d m. ap f (omega (arith, mul-suc c d)) ∙ sym (tl-at 𝓕 _ d))))
      ∙ sym (ev-suc 𝓕 r (λ d. f (c * d + q)) y) in
      rw (e, ev-split c (c * r) f x, ev_rows c r later x)
      (sym (ev-⊞ 𝓕 c f (y ⊡ rest) x ∙ ap (λ (a : F). ev 𝓕 c f x ⊕ a) (ev-⊡ 𝓕 c y rest x)) ∙ ev_local 𝓕 c _ _ x column)

  pub ev_added : (n b : ℕ) (a : F) (f g : Series 𝓕) (x : F) → b < n → g b ≡ f b ⊕ a → ((k : ℕ) → k ≢ b → g k ≡ f k)
      → ev 𝓕 n g x ≡ ev 𝓕 n f x ⊕ a ⊙ pow 𝓕 x b
  ev_added zero b a f g x l e s = absurd (omega arith)
  ev_added (suc n) zero a f g x l e s =
      rw (
        ev-suc 𝓕 n g x,
        ev-suc 𝓕 n f x,
        e,
        pow-zero,
        ev_local 𝓕 n (tl g) (tl f) x (λ k m. tl-at 𝓕 g k ∙ s (suc k) (omega arith) ∙ sym (tl-at 𝓕 f k)),
      ) (simp ring)
  ev_added (suc n) (suc b) a f g x l e s =
      let t = ev_added n b a (tl f) (tl g) x (omega arith) (tl-at 𝓕 g b ∙ e ∙ ap (λ (y : F). y ⊕ a) (sym (tl-at 𝓕 f b)))
      (λ k m. tl-at 𝓕 g k ∙ s (suc k) (λ j. m (omega arith)) ∙ sym (tl-at 𝓕 f k)) in
      rw (ev-suc 𝓕 n g x, ev-suc 𝓕 n f x, s 0 (omega arith), t, pow-suc 𝓕 x b) (simp ring)

  pub terms-zero : (t : ℕ → ℕ) (x : F) → terms 𝓕 0 t x ≡ 𝟘
  unfolding terms
  terms-zero t x = refl

  pub terms-suc : (n : ℕ) (t : ℕ → ℕ) (x : F) → terms 𝓕 (suc n) t x ≡ terms 𝓕 n t x ⊕ pow 𝓕 x (t n)
  unfolding terms
  terms-suc n t x = refl
