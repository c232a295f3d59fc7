-- The laws of series and of their product.
--
--   tl-at, ⊞-at, ⊡-at, none-at, unit-zero, unit-suc,     the clauses of the definitions
--   sh-zero, sh-suc, ⊛-zero, ⊛-suc
--   tl-⊞, tl-⊡, tl-none, tl-unit, tl-sh, tl-⊛            what is left without the first coefficient
--   ⊛-comm, ⊛-assoc, ⊛_left, ⊞-⊛, ⊛-⊞, ⊡-⊛, ⊛-⊡,     a commutative ring, in which sh f is x f
--   none-⊛, unit-⊛, sh-⊛, mixed-⊛
--   sh-⊞, sh-⊡, sh-none                                  x (f + g), x (c f) and x 0
--   below_none, below-tl, below-⊞, below-⊡, below-sh,    the degree of what the operations make
--   below_more
--   window        (f g) at r sees g from r - d to r only, if f has degree at most d
--   ⊛_local       .. and g up to r only
--
-- Assumes nothing.
use mathlib.Core.Path.{◌≡◌, refl, sym, ◌∙◌, ap, fun_ext}
use Prim.Native.Nat.{ℕ, zero, suc, ◌+◌, ◌≤◌, ◌<◌}
use native.Mathlib.Omega.{arith}
use Rattle.algebra.specs.Field.{Field}
use Rattle.algebra.specs.Series as Ser
use Rattle.algebra.specs.Series.{Series, Below, operations}
use Rattle.algebra.proofs.Ring.{ring, ⊕-𝟘}

module _ (𝓕 : Field) where
  infixl 60 ◌⊕◌ ◌⊞◌
  infixl 70 ◌⊙◌ ◌⊛◌
  infixr 80 ◌⊡◌
  open 𝓕 use {Carrier as F, add as ◌⊕◌, mul as ◌⊙◌, nil as 𝟘, one as 𝟙}
  open operations 𝓕 use {◌⊞◌, ◌⊡◌, ◌⊛◌, none, unit, sh, tl}

  -- ---- the clauses

  pub tl-at : (f : Series 𝓕) (n : ℕ) → tl f n ≡ f (suc n)
  unfolding Ser.tl
  tl-at f n = refl

  pub ⊞-at : (f g : Series 𝓕) (n : ℕ) → (f ⊞ g) n ≡ f n ⊕ g n
  unfolding Ser.◌⊞◌
  ⊞-at f g n = refl

  pub ⊡-at : (c : F) (f : Series 𝓕) (n : ℕ) → (c ⊡ f) n ≡ c ⊙ f n
  unfolding Ser.◌⊡◌
  ⊡-at c f n = refl

  pub none-at : (n : ℕ) → none n ≡ 𝟘
  unfolding Ser.none
  none-at n = refl

  pub unit-zero : unit 0 ≡ 𝟙
  unfolding Ser.unit
  unit-zero = refl

  pub unit-suc : (n : ℕ) → unit (suc n) ≡ 𝟘
  unfolding Ser.unit
  unit-suc n = refl

  pub sh-zero : (f : Series 𝓕) → sh f 0 ≡ 𝟘
  unfolding Ser.sh
  sh-zero f = refl

  pub sh-suc : (f : Series 𝓕) (n : ℕ) → sh f (suc n) ≡ f n
  unfolding Ser.sh
  sh-suc f n = refl

  pub ⊛-zero : (f g : Series 𝓕) → (f ⊛ g) 0 ≡ f 0 ⊙ g 0
  unfolding Ser.◌⊛◌
  ⊛-zero f g = refl

  pub ⊛-suc : (f g : Series 𝓕) (n : ℕ) → (f ⊛ g) (suc n) ≡ f 0 ⊙ g (suc n) ⊕ (tl f ⊛ g) n
  unfolding Ser.◌⊛◌
  ⊛-suc f g n = refl

  -- ---- tl goes inside

  pub tl-⊞ : (f g : Series 𝓕) → tl (f ⊞ g) ≡ tl f ⊞ tl g
  unfolding Ser.tl Ser.◌⊞◌
  tl-⊞ f g = refl

  pub tl-⊡ : (c : F) (f : Series 𝓕) → tl (c ⊡ f) ≡ c ⊡ tl f
  unfolding Ser.tl Ser.◌⊡◌
  tl-⊡ c f = refl

  pub tl-none : tl none ≡ none
  unfolding Ser.tl Ser.none
  tl-none = refl

  pub tl-unit : tl unit ≡ none
  unfolding Ser.tl Ser.none Ser.unit
  tl-unit = refl

  pub tl-sh : (f : Series 𝓕) → tl (sh f) ≡ f
  unfolding Ser.tl Ser.sh
  tl-sh f = refl

  pub tl-⊛ : (f g : Series 𝓕) → tl (f ⊛ g) ≡ f 0 ⊡ tl g ⊞ tl f ⊛ g
  unfolding Ser.tl Ser.◌⊞◌ Ser.◌⊡◌ Ser.◌⊛◌
  tl-⊛ f g = refl

  -- ---- the product is distributive, associative, commutative

  ⊛-⊞ₗ-at : (f g h : Series 𝓕) (n : ℕ) → ((f ⊞ g) ⊛ h) n ≡ (f ⊛ h) n ⊕ (g ⊛ h) n
  ⊛-⊞ₗ-at f g h zero = simp (⊛-zero, ⊞-at, ring)
  ⊛-⊞ₗ-at f g h (suc n) = simp (⊛-suc, ⊞-at, tl-⊞, ⊛-⊞ₗ-at (tl f) (tl g) h n, ring)

  ⊛-⊡ₗ-at : (c : F) (f g : Series 𝓕) (n : ℕ) → ((c ⊡ f) ⊛ g) n ≡ c ⊙ (f ⊛ g) n
  ⊛-⊡ₗ-at c f g zero = simp (⊛-zero, ⊡-at, ring)
  ⊛-⊡ₗ-at c f g (suc n) = simp (⊛-suc, ⊡-at, tl-⊡, ⊛-⊡ₗ-at c (tl f) g n, ring)

  ⊛-assoc-at : (f g h : Series 𝓕) (n : ℕ) → (f ⊛ g ⊛ h) n ≡ (f ⊛ (g ⊛ h)) n
  ⊛-assoc-at f g h zero = simp (⊛-zero, ring)
  ⊛-assoc-at f g h (suc n) = simp (⊛-suc, ⊛-zero, tl-⊛, ⊛-⊞ₗ-at, ⊛-⊡ₗ-at, ⊛-assoc-at (tl f) g h n, ring)

  ⊛-suc_right : (f g : Series 𝓕) (n : ℕ) → (f ⊛ g) (suc n) ≡ (f ⊛ tl g) n ⊕ f (suc n) ⊙ g 0
  ⊛-suc_right f g zero = rw ⊛-suc (simp (⊛-zero, tl-at, ring))
  ⊛-suc_right f g (suc n) = rw (⊛-suc f g (suc n)) (simp (⊛-suc f (tl g) n, ⊛-suc_right (tl f) g n, tl-at, ring))

  ⊛-comm-at : (f g : Series 𝓕) (n : ℕ) → (f ⊛ g) n ≡ (g ⊛ f) n
  ⊛-comm-at f g zero = simp (⊛-zero, ring)
  ⊛-comm-at f g (suc n) = rw (⊛-suc f g n, ⊛-suc_right g f n, ⊛-comm-at (tl f) g n) (simp ring)

  pub ⊛-comm : (f g : Series 𝓕) → f ⊛ g ≡ g ⊛ f
  ⊛-comm f g = fun_ext (⊛-comm-at f g)

  pub ⊛-assoc : (f g h : Series 𝓕) → f ⊛ g ⊛ h ≡ f ⊛ (g ⊛ h)
  ⊛-assoc f g h = fun_ext (⊛-assoc-at f g h)

  pub ⊛_left : (f g h : Series 𝓕) → f ⊛ (g ⊛ h) ≡ g ⊛ (f ⊛ h)
  ⊛_left f g h = sym (⊛-assoc f g h) ∙ ap (λ x. x ⊛ h) (⊛-comm f g) ∙ ⊛-assoc g f h

  pub ⊞-⊛ : (f g h : Series 𝓕) → (f ⊞ g) ⊛ h ≡ f ⊛ h ⊞ g ⊛ h
  unfolding Ser.◌⊞◌
  ⊞-⊛ f g h = fun_ext (⊛-⊞ₗ-at f g h)

  pub ⊛-⊞ : (f g h : Series 𝓕) → f ⊛ (g ⊞ h) ≡ f ⊛ g ⊞ f ⊛ h
  ⊛-⊞ f g h = rw (⊛-comm f (g ⊞ h), ⊞-⊛, ⊛-comm g f, ⊛-comm h f)

  pub ⊡-⊛ : (c : F) (f g : Series 𝓕) → (c ⊡ f) ⊛ g ≡ c ⊡ (f ⊛ g)
  unfolding Ser.◌⊡◌
  ⊡-⊛ c f g = fun_ext (⊛-⊡ₗ-at c f g)

  pub ⊛-⊡ : (c : F) (f g : Series 𝓕) → f ⊛ (c ⊡ g) ≡ c ⊡ (f ⊛ g)
  ⊛-⊡ c f g = rw (⊛-comm f (c ⊡ g), ⊡-⊛, ⊛-comm g f)

  none-⊛-at : (g : Series 𝓕) (n : ℕ) → (none ⊛ g) n ≡ 𝟘
  none-⊛-at g zero = simp (⊛-zero, none-at, ring)
  none-⊛-at g (suc n) = simp (⊛-suc, none-at, tl-none, none-⊛-at g n, ring)

  pub none-⊛ : (g : Series 𝓕) → none ⊛ g ≡ none
  unfolding Ser.none
  none-⊛ g = fun_ext (none-⊛-at g)

  unit-⊛-at : (g : Series 𝓕) (n : ℕ) → (unit ⊛ g) n ≡ g n
  unit-⊛-at g zero = simp (⊛-zero, unit-zero, ring)
  unit-⊛-at g (suc n) = simp (⊛-suc, unit-zero, tl-unit, none-⊛-at g n, ring)

  pub unit-⊛ : (g : Series 𝓕) → unit ⊛ g ≡ g
  unit-⊛ g = fun_ext (unit-⊛-at g)

  sh-⊛-at : (f g : Series 𝓕) (n : ℕ) → (sh f ⊛ g) n ≡ sh (f ⊛ g) n
  sh-⊛-at f g zero = simp (⊛-zero, sh-zero, ring)
  sh-⊛-at f g (suc n) = simp (⊛-suc, sh-zero, sh-suc, tl-sh, ring)

  pub sh-⊛ : (f g : Series 𝓕) → sh f ⊛ g ≡ sh (f ⊛ g)
  sh-⊛ f g = fun_ext (sh-⊛-at f g)

  -- a coefficient of (a f + q g) h
  pub mixed-⊛ : (a q : F) (f g h : Series 𝓕) (k : ℕ) → ((a ⊡ f ⊞ q ⊡ g) ⊛ h) k ≡ a ⊙ (f ⊛ h) k ⊕ q ⊙ (g ⊛ h) k
  mixed-⊛ a q f g h k = rw (⊞-⊛, ⊡-⊛ a, ⊡-⊛ q, ⊞-at, ⊡-at a, ⊡-at q)

  pub sh-⊞ : (f g : Series 𝓕) → sh (f ⊞ g) ≡ sh f ⊞ sh g
  sh-⊞ f g = fun_ext at
    where
      at : (k : ℕ) → sh (f ⊞ g) k ≡ (sh f ⊞ sh g) k
      at zero = rw (⊞-at (sh f), sh-zero (f ⊞ g), sh-zero f, sh-zero g) (sym (⊕-𝟘 𝓕 𝟘))
      at (suc k) = rw (⊞-at (sh f), sh-suc (f ⊞ g), sh-suc f, sh-suc g, ⊞-at)

  pub sh-⊡ : (c : F) (f : Series 𝓕) → sh (c ⊡ f) ≡ c ⊡ sh f
  sh-⊡ c f = fun_ext at
    where
      at : (k : ℕ) → sh (c ⊡ f) k ≡ (c ⊡ sh f) k
      at zero = rw (⊡-at c (sh f), sh-zero (c ⊡ f), sh-zero f) (simp ring)
      at (suc k) = rw (⊡-at c (sh f), sh-suc (c ⊡ f), sh-suc f, ⊡-at)

  pub sh-none : sh none ≡ none
  sh-none = fun_ext at
    where
      at : (k : ℕ) → sh none k ≡ none k
      at zero = sh-zero none ∙ sym (none-at 0)
      at (suc k) = sh-suc none k ∙ none-at k ∙ sym (none-at (suc k))

  -- ---- polynomials

  pub below_none : (f : Series 𝓕) → Below 𝓕 0 f → f ≡ none
  unfolding Ser.none
  below_none f h = fun_ext (λ k. h k (omega arith))

  pub below-tl : (d : ℕ) (f : Series 𝓕) → Below 𝓕 (suc d) f → Below 𝓕 d (tl f)
  below-tl d f h k l = tl-at f k ∙ h (suc k) (omega arith)

  pub below-⊞ : (d : ℕ) (f g : Series 𝓕) → Below 𝓕 d f → Below 𝓕 d g → Below 𝓕 d (f ⊞ g)
  below-⊞ d f g h k i l = simp (⊞-at, h i l, k i l, ring)

  pub below-⊡ : (d : ℕ) (c : F) (f : Series 𝓕) → Below 𝓕 d f → Below 𝓕 d (c ⊡ f)
  below-⊡ d c f h i l = simp (⊡-at, h i l, ring)

  pub below-sh : (d : ℕ) (f : Series 𝓕) → Below 𝓕 d f → Below 𝓕 (suc d) (sh f)
  below-sh d f h zero l = sh-zero f
  below-sh d f h (suc i) l = sh-suc f i ∙ h i (omega arith)

  pub below_more : (d e : ℕ) (f : Series 𝓕) → d ≤ e → Below 𝓕 d f → Below 𝓕 e f
  below_more d e f m h i l = h i (omega arith)

  -- (f ⊛ g) r meets only g over the window r - d .. r, if f has degree ≤ d
  pub window : (d r : ℕ) (f g : Series 𝓕) → Below 𝓕 (suc d) f → ((k : ℕ) → r ≤ k + d → k < r → g k ≡ 𝟘) → (f ⊛ g) r ≡ f 0 ⊙ g r
  window d zero f g h w = ⊛-zero f g
  window zero (suc r) f g h w =
      rw (⊛-suc, below_none (tl f) (below-tl 0 f h), none-⊛-at) (⊕-𝟘 𝓕 _)
  window (suc d) (suc r) f g h w =
      rw (⊛-suc, window d r (tl f) g (below-tl (suc d) f h) (λ k l m. w k (omega arith) (omega arith)), w r (omega arith) (omega arith)) (simp ring)

  -- a coefficient of the product sees only the coefficients up to it
  pub ⊛_local : (f g h : Series 𝓕) (n : ℕ) → ((k : ℕ) → k ≤ n → g k ≡ h k) → (f ⊛ g) n ≡ (f ⊛ h) n
  ⊛_local f g h zero e = rw (⊛-zero f g, ⊛-zero f h, e 0 (omega arith))
  ⊛_local f g h (suc n) e = rw (⊛-suc f g n, ⊛-suc f h n, e (suc n) (omega arith), ⊛_local (tl f) g h n (λ k l. e k (omega arith)))
