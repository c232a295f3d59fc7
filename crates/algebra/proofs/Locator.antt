-- The syndromes of v errors Yₖ at Xₖ, and their locator. Z are the inverses of X.
--
--   inverses-tl, inverses_distinct    inverses, without the first; they are distinct as X are
--   left-ne, link-ne                  a factor of 1 is not zero, nor is 1 - x z where z is the inverse of another
--   synd-at, synd-suc                 the syndromes, by power sums and by one error more
--   vanishes                          a recurrence for the syndromes, of length L with L + v ≤ n, is zero at every Zₖ
--   lin-is, lin-zero, lin-⊛, ev-lin   the factor 1 - a x
--   loc-suc, prod-zero, prod-suc      the clauses of the locator and of its value
--   loc_one, below-loc, ev-loc        its constant coefficient, degree and value
--   prod-root                         it is zero at the inverse of each Xₖ
--   loc-annihilates                   it is a recurrence of length v
--   locator_unique                    degree at most v, constant coefficient 1 and the roots Zₖ: it is the locator
--
-- Assumes nothing.
use mathlib.Core.Path.{◌≡◌, refl, sym, ◌∙◌, ap, fun_ext, ◌≡⟨◌⟩◌, ◌∎}
use mathlib.Core.Logic.{◌≢◌}
use Prim.Native.Nat.{ℕ, zero, suc, ◌+◌, ◌≤◌, ◌<◌}
use native.Mathlib.Omega.{arith}
use native.Mathlib.Decide.{dec_le}
use Rattle.algebra.specs.Field.{Field}
use Rattle.algebra.specs.Series as Ser
use Rattle.algebra.specs.Series.{Series, Below, operations}
use Rattle.algebra.specs.Power.{pow, rising}
use Rattle.algebra.specs.Value.{ev}
use Rattle.algebra.specs.Points.{Distinct, Inverses}
use Rattle.algebra.specs.Massey.{Annihilates}
use Rattle.algebra.specs.PowerSum.{psum, synd}
use Rattle.algebra.specs.Locator.{lin, loc, prod}
use Rattle.algebra.proofs.Ring.{ring, ⊙-comm, ⊙-assoc, 𝟘-⊙, ⊙-𝟘, ⊕-𝟘, 𝟘-⊕, ⊕_self, eq_of-sum, factor}
use Rattle.algebra.proofs.Product.{below-tl, below-⊞, below-⊡, below-sh, below_more, tl-at, ⊞-at, ⊡-at, sh-zero, unit-zero, ⊛-zero}
use Rattle.algebra.proofs.Product.{⊛-suc, ⊛-⊞, ⊛-⊡, ⊞-⊛, ⊡-⊛, sh-⊛, none-at, none-⊛, ⊛-comm}
use Rattle.algebra.proofs.Value.{ev-suc, ev_one, ev-⊞, ev-⊡, ev-sh, ev_more}
use Rattle.algebra.proofs.Roots.{roots, below-unit}
use Rattle.algebra.proofs.PowerSum.{psum-zero, psum-suc, psum-none, vandermonde}
use Rattle.algebra.proofs.Powers.{pow-suc, rising-at}

module _ (𝓕 : Field) where
  infixl 60 ◌⊕◌ ◌⊞◌
  infixl 70 ◌⊙◌ ◌⊛◌
  infixr 80 ◌⊡◌
  open 𝓕 use {Carrier as F, add as ◌⊕◌, mul as ◌⊙◌, nil as 𝟘, one as 𝟙}
  open operations 𝓕 use {◌⊞◌, ◌⊡◌, ◌⊛◌, none, unit, sh, tl}

  pub inverses-tl : (v : ℕ) (X Z : Series 𝓕) → Inverses 𝓕 (suc v) X Z → Inverses 𝓕 v (tl X) (tl Z)
  unfolding Ser.tl
  inverses-tl v X Z h k l = h (suc k) (omega arith)

  pub left-ne : (x z : F) → x ⊙ z ≡ 𝟙 → x ≢ 𝟘
  left-ne x z h e = 𝓕.one_ne_nil (sym h ∙ (rw e (𝟘-⊙ 𝓕 z)))

  right-ne : (x z : F) → x ⊙ z ≡ 𝟙 → z ≢ 𝟘
  right-ne x z h = left-ne z x (⊙-comm 𝓕 z x ∙ h)

  -- 1 ⊕ x z ≢ 0 where z is the inverse of another
  pub link-ne : (x y z : F) → y ⊙ z ≡ 𝟙 → x ≢ y → 𝟙 ⊕ x ⊙ z ≢ 𝟘
  link-ne x y z h n e = n (eq_of-sum 𝓕 x y (factor 𝓕 z (x ⊕ y) (right-ne y z h)
      (sym (rw (← h) (simp ring)) ∙ e)))

  ⊛-rising : (x z : F) (f : Series 𝓕) (k : ℕ) → x ⊙ z ≡ 𝟙 → (f ⊛ rising 𝓕 x) k ≡ pow 𝓕 x (suc k) ⊙ ev 𝓕 (suc k) f z
  ⊛-rising x z f zero h = simp (⊛-zero, rising-at, ev_one, ring)
  ⊛-rising x z f (suc k) h =
      (f ⊛ rising 𝓕 x) (suc k)
      ≡⟨ (rw (⊛-suc, ⊛-rising x z (tl f) k h, rising-at)) ⟩
      f 0 ⊙ pow 𝓕 x (suc (suc k)) ⊕ pow 𝓕 x (suc k) ⊙ ev 𝓕 (suc k) (tl f) z
      ≡⟨ ap (λ p. f 0 ⊙ pow 𝓕 x (suc (suc k)) ⊕ p ⊙ ev 𝓕 (suc k) (tl f) z)
      (sym (rw (pow-suc 𝓕 x (suc k), ⊙-assoc, ⊙-comm 𝓕 _ z, ← ⊙-assoc 𝓕 x z _, h) (simp ring))) ⟩
      f 0 ⊙ pow 𝓕 x (suc (suc k)) ⊕ pow 𝓕 x (suc (suc k)) ⊙ z ⊙ ev 𝓕 (suc k) (tl f) z
      ≡⟨ (rw (ev-suc 𝓕 (suc k) f z) (simp ring)) ⟩
      pow 𝓕 x (suc (suc k)) ⊙ ev 𝓕 (suc (suc k)) f z ∎

  pub synd-at : (v : ℕ) (Y X : Series 𝓕) (i : ℕ) → synd 𝓕 v Y X i ≡ psum 𝓕 v Y X (suc i)
  unfolding synd
  synd-at v Y X i = refl

  synd-zero : (Y X : Series 𝓕) → synd 𝓕 0 Y X ≡ none
  unfolding Ser.none
  synd-zero Y X = fun_ext (λ i. synd-at 0 Y X i ∙ psum-zero 𝓕 Y X (suc i))

  pub synd-suc : (v : ℕ) (Y X : Series 𝓕) → synd 𝓕 (suc v) Y X ≡ Y 0 ⊡ rising 𝓕 (X 0) ⊞ synd 𝓕 v (tl Y) (tl X)
  synd-suc v Y X = fun_ext (λ i. simp (synd-at, ⊞-at, ⊡-at, rising-at, psum-suc))

  -- Yₖ f(Zₖ)
  weigh : ℕ → Series 𝓕 → Series 𝓕 → Series 𝓕 → Series 𝓕
  weigh n f Z Y k = Y k ⊙ ev 𝓕 n f (Z k)

  weigh-at : (n : ℕ) (f Z Y : Series 𝓕) (k : ℕ) → weigh n f Z Y k ≡ Y k ⊙ ev 𝓕 n f (Z k)
  unfolding weigh
  weigh-at n f Z Y k = refl

  tl-weigh : (n : ℕ) (f Z Y : Series 𝓕) → tl (weigh n f Z Y) ≡ weigh n f (tl Z) (tl Y)
  unfolding weigh Ser.tl
  tl-weigh n f Z Y = refl

  ⊛-synd : (v : ℕ) (f Y X Z : Series 𝓕) (k : ℕ) → Inverses 𝓕 v X Z
      → (f ⊛ synd 𝓕 v Y X) k ≡ psum 𝓕 v (weigh (suc k) f Z Y) X (suc k)
  ⊛-synd zero f Y X Z k h = rw (synd-zero, ⊛-comm 𝓕 f, none-⊛ 𝓕 f) (simp (psum-zero, none-at))
  ⊛-synd (suc v) f Y X Z k h =
      rw (synd-suc, ⊛-⊞, ⊛-⊡, ⊞-at, ⊡-at, ⊛-rising (X 0) (Z 0) f k (h 0 (omega arith)))
      (rw (⊛-synd v f (tl Y) (tl X) (tl Z) k (inverses-tl v X Z h), psum-suc, tl-weigh, weigh-at) (simp ring))

  weigh_more : (d e : ℕ) (f Z Y : Series 𝓕) → Below 𝓕 d f → d ≤ e → weigh e f Z Y ≡ weigh d f Z Y
  weigh_more d e f Z Y h l = fun_ext (λ k. rw (weigh-at e f Z Y k, weigh-at d f Z Y k, ev_more 𝓕 d e f (Z k) h l))

  -- a recurrence for the syndromes, of length L, vanishes at every Zₖ
  pub vanishes : (v L n : ℕ) (f Y X Z : Series 𝓕) → Distinct 𝓕 v X → Inverses 𝓕 v X Z → ((k : ℕ) → k < v → Y k ≢ 𝟘)
      → Below 𝓕 (suc L) f → Annihilates 𝓕 L n f (synd 𝓕 v Y X) → L + v ≤ n
      → (k : ℕ) → k < v → ev 𝓕 (suc L) f (Z k) ≡ 𝟘
  vanishes v L n f Y X Z D I ne d a b k l =
      factor 𝓕 (Y k) _ (ne k l) (sym (weigh-at (suc L) f Z Y k)
      ∙ vandermonde 𝓕 v (suc L) (weigh (suc L) f Z Y) X D (λ i m. left-ne (X i) (Z i) (I i m)) at k l)
    where
      at : (i : ℕ) → suc L ≤ i → i < suc L + v → psum 𝓕 v (weigh (suc L) f Z Y) X i ≡ 𝟘
      at zero m n = absurd (omega arith)
      at (suc i) m n = rw (← weigh_more (suc L) (suc i) f Z Y d m) (sym (⊛-synd v f Y X Z i I) ∙ a i (omega arith) (omega arith))

  -- and the other way round
  annihilates : (v L n : ℕ) (f Y X Z : Series 𝓕) → Inverses 𝓕 v X Z → Below 𝓕 (suc L) f
      → ((k : ℕ) → k < v → ev 𝓕 (suc L) f (Z k) ≡ 𝟘) → Annihilates 𝓕 L n f (synd 𝓕 v Y X)
  annihilates v L n f Y X Z I d e i l m = ⊛-synd v f Y X Z i I ∙ psum-none 𝓕 v _ X (suc i)
      (λ k o. rw (weigh-at, ev_more 𝓕 (suc L) (suc i) f (Z k) d (omega arith), e k o) (⊙-𝟘 𝓕 _))

  pub lin-is : (a : F) (f : Series 𝓕) → lin 𝓕 a f ≡ f ⊞ a ⊡ sh f
  unfolding lin
  lin-is a f = refl

  pub lin-zero : (a : F) (f : Series 𝓕) → lin 𝓕 a f 0 ≡ f 0
  lin-zero a f = rw lin-is (simp (⊞-at, ⊡-at, sh-zero, ring))

  pub lin-⊛ : (a : F) (f g : Series 𝓕) → lin 𝓕 a f ⊛ g ≡ lin 𝓕 a (f ⊛ g)
  lin-⊛ a f g = simp (lin-is, ⊞-⊛, ⊡-⊛, sh-⊛)

  below-lin : (d : ℕ) (a : F) (f : Series 𝓕) → Below 𝓕 d f → Below 𝓕 (suc d) (lin 𝓕 a f)
  below-lin d a f h = rw lin-is (below-⊞ 𝓕 (suc d) f _ (below_more 𝓕 d (suc d) f (omega arith) h) (below-⊡ 𝓕 (suc d) a _ (below-sh 𝓕 d f h)))

  pub ev-lin : (d : ℕ) (a : F) (f : Series 𝓕) (x : F) → Below 𝓕 d f → ev 𝓕 (suc d) (lin 𝓕 a f) x ≡ (𝟙 ⊕ a ⊙ x) ⊙ ev 𝓕 d f x
  ev-lin d a f x h = rw (lin-is, ev-⊞, ev-⊡, ev-sh, ev_more 𝓕 d (suc d) f x h (omega arith)) (simp ring)

  loc-zero : (X : Series 𝓕) → loc 𝓕 0 X ≡ unit
  unfolding loc
  loc-zero X = refl

  pub loc-suc : (v : ℕ) (X : Series 𝓕) → loc 𝓕 (suc v) X ≡ lin 𝓕 (X 0) (loc 𝓕 v (tl X))
  unfolding loc
  loc-suc v X = refl

  pub prod-zero : (X : Series 𝓕) (x : F) → prod 𝓕 0 X x ≡ 𝟙
  unfolding prod
  prod-zero X x = refl

  pub prod-suc : (v : ℕ) (X : Series 𝓕) (x : F) → prod 𝓕 (suc v) X x ≡ (𝟙 ⊕ X 0 ⊙ x) ⊙ prod 𝓕 v (tl X) x
  unfolding prod
  prod-suc v X x = refl

  pub loc_one : (v : ℕ) (X : Series 𝓕) → loc 𝓕 v X 0 ≡ 𝟙
  loc_one zero X = rw loc-zero (unit-zero 𝓕)
  loc_one (suc v) X = rw (loc-suc, lin-zero) (loc_one v (tl X))

  pub below-loc : (v : ℕ) (X : Series 𝓕) → Below 𝓕 (suc v) (loc 𝓕 v X)
  below-loc zero X = rw loc-zero (below-unit 𝓕)
  below-loc (suc v) X = rw loc-suc (below-lin (suc v) (X 0) _ (below-loc v (tl X)))

  pub ev-loc : (v : ℕ) (X : Series 𝓕) (x : F) → ev 𝓕 (suc v) (loc 𝓕 v X) x ≡ prod 𝓕 v X x
  ev-loc zero X x = rw (loc-zero, ev_one, prod-zero) (unit-zero 𝓕)
  ev-loc (suc v) X x = rw (loc-suc, ev-lin (suc v) (X 0) _ x (below-loc v (tl X)), ev-loc v (tl X) x, prod-suc)

  pub prod-root : (v : ℕ) (X : Series 𝓕) (x : F) (k : ℕ) → k < v → X k ⊙ x ≡ 𝟙 → prod 𝓕 v X x ≡ 𝟘
  prod-root zero X x k l h = absurd (omega arith)
  prod-root (suc v) X x zero l h = rw (prod-suc, h) (simp ring)
  prod-root (suc v) X x (suc k) l h = rw (prod-suc, prod-root v (tl X) x k (omega arith) (rw tl-at h)) (⊙-𝟘 𝓕 _)

  pub loc-annihilates : (v n : ℕ) (Y X Z : Series 𝓕) → Inverses 𝓕 v X Z → Annihilates 𝓕 v n (loc 𝓕 v X) (synd 𝓕 v Y X)
  loc-annihilates v n Y X Z I = annihilates v v n (loc 𝓕 v X) Y X Z I (below-loc v X) (λ k l. ev-loc v X (Z k) ∙ prod-root v X (Z k) k l (I k l))

  pub inverses_distinct : (v : ℕ) (X Z : Series 𝓕) → Inverses 𝓕 v X Z → Distinct 𝓕 v X → Distinct 𝓕 v Z
  inverses_distinct v X Z I D i j l m e = D i j l m
      (eq_of-sum 𝓕 _ _ (factor 𝓕 (Z i) _ (right-ne _ _ (I i (omega arith))) (simp ring (sum_of (I i (omega arith)) (I j m)))))
    where
      sum_of : X i ⊙ Z i ≡ 𝟙 → X j ⊙ Z j ≡ 𝟙 → X i ⊙ Z i ⊕ X j ⊙ Z i ≡ 𝟘
      sum_of p q = rw (p, e, q) (⊕_self 𝓕 𝟙)

  -- degree ≤ v, constant coefficient 1 and v distinct roots Zₖ: the locator
  pub locator_unique : (v : ℕ) (C X Z : Series 𝓕) → C 0 ≡ 𝟙 → Below 𝓕 (suc v) C → Inverses 𝓕 v X Z → Distinct 𝓕 v X
      → ((k : ℕ) → k < v → ev 𝓕 (suc v) C (Z k) ≡ 𝟘) → C ≡ loc 𝓕 v X
  locator_unique v C X Z c d I D e = fun_ext (λ k. eq_of-sum 𝓕 _ _ (sym (⊞-at 𝓕 C (loc 𝓕 v X) k) ∙ at k))
    where
      diff : Series 𝓕
      diff = C ⊞ loc 𝓕 v X

      head : diff 0 ≡ 𝟘
      head = simp (⊞-at, c, loc_one, ring)

      root : (k : ℕ) → k < v → ev 𝓕 v (tl diff) (Z k) ≡ 𝟘
      root k l = factor 𝓕 (Z k) _ (right-ne _ _ (I k l))
          (sym (rw (ev-suc 𝓕 v diff (Z k), head) (𝟘-⊕ 𝓕 _)) ∙ ev-⊞ 𝓕 (suc v) C (loc 𝓕 v X) (Z k)
          ∙ (rw (e k l, ev-loc, prod-root v X (Z k) k l (I k l)) (⊕-𝟘 𝓕 𝟘)))

      at : (k : ℕ) → diff k ≡ 𝟘
      at zero = head
      at (suc k) = sym (tl-at 𝓕 diff k) ∙ go (dec_le v k)
        where
          go : Dec (v ≤ k) → tl diff k ≡ 𝟘
          go (yes l) = below-tl 𝓕 v diff (below-⊞ 𝓕 (suc v) C _ d (below-loc v X)) k l
          go (no n) = roots 𝓕 v (tl diff) Z (inverses_distinct v X Z I D) root k (omega arith)
