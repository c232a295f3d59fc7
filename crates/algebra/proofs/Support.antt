-- The places at which a series is not zero.
--
--   pick_at                     the clause of `pick`
--   weight-zero, weight-suc     those of the weight
--   support                     there is a list of the places
--   support_of                  what a search shows of the places that it lists is enough: they are as many, and the sums are right
--   psum_cong                   power sums of equal values at equal points
--
-- Assumes nothing.
use mathlib.Core.Path.{◌≡◌, refl, sym, ◌∙◌, ap}
use mathlib.Core.Logic.{◌≢◌}
use Prim.Native.Nat.{ℕ, zero, suc, ◌+◌, ◌<◌}
use native.Mathlib.Omega.{arith}
use Rattle.algebra.specs.Field.{Field}
use Rattle.algebra.specs.Lists.{Lists}
use Rattle.algebra.specs.Series as Ser
use Rattle.algebra.specs.Series.{Series, operations}
use Rattle.algebra.specs.Power.{pow}
use Rattle.algebra.specs.PowerSum.{psum}
use Rattle.algebra.specs.Support.{one_if, weight, pick, Support}
use Rattle.algebra.proofs.Listing.{lists-none, up, front, lists-skip, lists-take, lists-same}
use Rattle.algebra.proofs.Ring.{ring}
use Rattle.algebra.proofs.Product.{tl-at}
use Rattle.algebra.proofs.PowerSum.{psum-zero, psum-suc}

module _ (𝓕 : Field) where
  infixl 60 ◌⊕◌
  infixl 70 ◌⊙◌
  open 𝓕 use {add as ◌⊕◌, mul as ◌⊙◌, nil as 𝟘}
  open operations 𝓕 use {tl}

  pub pick_at : (f : Series 𝓕) (at : ℕ → ℕ) (j : ℕ) → pick 𝓕 f at j ≡ f (at j)
  unfolding pick
  pick_at f at j = refl

  pub weight-zero : (E : Series 𝓕) → weight 𝓕 0 E ≡ 0
  unfolding weight
  weight-zero E = refl

  pub weight-suc : (n : ℕ) (E : Series 𝓕) → weight 𝓕 (suc n) E ≡ one_if 𝓕 (𝓕.decide (E 0) 𝟘) + weight 𝓕 n (tl E)
  unfolding weight
  weight-suc n E = refl

  module _ (n v : ℕ) (E : Series 𝓕) (at : ℕ → ℕ) (s : Support 𝓕 n v (tl E) at) where
    support-skip : E 0 ≡ 𝟘 → Support 𝓕 (suc n) v E (up at)
    unfolding Ser.tl pick
    support-skip e = record {
      lists = lists-skip n v (λ p. E p ≢ 𝟘) at s.lists (λ h. h e);
      sums = λ A i. psum-suc 𝓕 n E A i ∙ (rw (e, s.sums (tl A) i) (simp ring));
    }

    support-take : E 0 ≢ 𝟘 → Support 𝓕 (suc n) (suc v) E (front at)
    unfolding Ser.tl pick front
    support-take e = record {
      lists = lists-take n v (λ p. E p ≢ 𝟘) at s.lists e;
      sums = λ A i.
          psum-suc 𝓕 n E A i ∙ ap (λ x. E 0 ⊙ pow 𝓕 (A 0) i ⊕ x) (s.sums (tl A) i)
          ∙ sym (psum-suc 𝓕 v (pick 𝓕 E (front at)) (pick 𝓕 A (front at)) i);
    }

  pub support : (n : ℕ) (E : Series 𝓕) → (at : ℕ → ℕ) × Support 𝓕 n (weight 𝓕 n E) E at
  unfolding weight
  support zero E = (
    (λ j. j),
    record { lists = lists-none (λ p. E p ≢ 𝟘) (λ j. j); sums = λ A i. psum-zero 𝓕 E A i ∙ sym (psum-zero 𝓕 _ _ i) },
  )
  support (suc n) E = go (𝓕.decide (E 0) 𝟘) (support n (tl E))
    where
      go : (d : Dec (E 0 ≡ 𝟘)) → (at : ℕ → ℕ) × Support 𝓕 n (weight 𝓕 n (tl E)) (tl E) at
          → (at : ℕ → ℕ) × Support 𝓕 (suc n) (one_if 𝓕 d + weight 𝓕 n (tl E)) E at
      go (yes e) r = let z : 0 + weight 𝓕 n (tl E) ≡ weight 𝓕 n (tl E) = omega arith in (up r.0, rw z (support-skip n (weight 𝓕 n (tl E)) E r.0 r.1 e))
      go (no e) r =
          let z : 1 + weight 𝓕 n (tl E) ≡ suc (weight 𝓕 n (tl E)) = omega arith in (front r.0, rw z (support-take n (weight 𝓕 n (tl E)) E r.0 r.1 e))

  pub psum_cong : (v : ℕ) (Y W X U : Series 𝓕) (i : ℕ) → ((k : ℕ) → k < v → Y k ≡ W k) → ((k : ℕ) → k < v → X k ≡ U k)
      → psum 𝓕 v Y X i ≡ psum 𝓕 v W U i
  psum_cong zero Y W X U i h g = psum-zero 𝓕 Y X i ∙ sym (psum-zero 𝓕 W U i)
  psum_cong (suc v) Y W X U i h g =
      rw (
        psum-suc 𝓕 v Y X i,
        psum-suc 𝓕 v W U i,
        h 0 (omega arith),
        g 0 (omega arith),
        psum_cong v (tl Y) (tl W) (tl X) (tl U) i (λ k l. tl-at 𝓕 Y k ∙ h (suc k) (omega arith) ∙ sym (tl-at 𝓕 W k))
            (λ k l. tl-at 𝓕 X k ∙ g (suc k) (omega arith) ∙ sym (tl-at 𝓕 U k)),
      )

  pub support_of : (n v : ℕ) (E : Series 𝓕) (at : ℕ → ℕ) → Lists n v (λ p. E p ≢ 𝟘) at → (v ≡ weight 𝓕 n E) × Support 𝓕 n v E at
  support_of n v E at s = (
    both.0,
    record {
      lists = s;
      sums = λ A i. u.sums A i ∙ (rw (← both.0) (sym (psum_cong v (pick 𝓕 E at) (pick 𝓕 E bt) (pick 𝓕 A at) (pick 𝓕 A bt) i
          (λ k l. pick_at E at k ∙ ap E (both.1 k l) ∙ sym (pick_at E bt k)) (λ k l. pick_at A at k ∙ ap A (both.1 k l) ∙ sym (pick_at A bt k)))));
    },
  )
    where
      bt : ℕ → ℕ
      bt = (support n E).0

      u : Support 𝓕 n (weight 𝓕 n E) E bt
      u = (support n E).1

      both : (v ≡ weight 𝓕 n E) × ((k : ℕ) → k < v → at k ≡ bt k)
      both = lists-same n v (weight 𝓕 n E) (λ p. E p ≢ 𝟘) at bt s u.lists
