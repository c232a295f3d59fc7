-- The algorithm of Berlekamp and Massey keeps its state.
--
--   state_start    at r = 0
--   state-zero     no discrepancy
--   state_keep     a discrepancy that is mended at the same length
--   state_grow     a discrepancy that makes the recurrence longer
--   bm_finds       if the first n terms are the syndromes of v ≤ n / 2 errors, L is v and C their locator
--
-- Assumes nothing.
use mathlib.Core.Path.{◌≡◌, sym, ◌∙◌}
use mathlib.Core.Logic.{◌≢◌}
use Prim.Native.Nat.{ℕ, zero, suc, ◌+◌, ◌-◌, ◌≤◌, ◌<◌}
use native.Mathlib.Omega.{arith}
use native.Mathlib.Decide.{dec_le}
use Rattle.algebra.specs.Field.{Field}
use Rattle.algebra.specs.Series.{Series, Below, operations}
use Rattle.algebra.specs.Value.{ev}
use Rattle.algebra.specs.Points.{Distinct, Inverses}
use Rattle.algebra.specs.Massey.{Annihilates, MasseyState}
use Rattle.algebra.specs.PowerSum.{synd}
use Rattle.algebra.specs.Locator.{loc}
use Rattle.algebra.proofs.Ring.{ring, ⊕_self}
use Rattle.algebra.proofs.Product.{⊞-at, ⊡-at, sh-zero, sh-suc, unit-zero, ⊞-⊛, ⊡-⊛, sh-⊛, ⊛_local, below-sh}
use Rattle.algebra.proofs.Value.{ev_more}
use Rattle.algebra.proofs.Roots.{roots, below-unit}
use Rattle.algebra.proofs.Recurrence.{massey}
use Rattle.algebra.proofs.Locator.{loc_one, below-loc, loc-annihilates, vanishes, inverses_distinct, locator_unique}

module _ (𝓕 : Field) where
  infixl 60 ◌⊕◌ ◌⊞◌
  infixl 70 ◌⊙◌ ◌⊛◌
  infixr 80 ◌⊡◌
  open 𝓕 use {Carrier as F, add as ◌⊕◌, mul as ◌⊙◌, nil as 𝟘, one as 𝟙}
  open operations 𝓕 use {◌⊞◌, ◌⊡◌, ◌⊛◌, unit, sh}

  pub state_start : (S : Series 𝓕) → MasseyState 𝓕 S unit (sh unit) 0 0 𝟙
  state_start S = record {
    c_one = unit-zero 𝓕;
    c_below = below-unit 𝓕;
    c_ann = λ k l m. absurd (omega arith);
    short = omega arith;
    least = λ v Λ o d a. omega arith;
    b_zero = sh-zero 𝓕 unit;
    b_below = λ k l. below-sh 𝓕 1 unit (below-unit 𝓕) k (omega arith);
    b_ann = λ k l m. absurd (omega arith);
    b_ne = 𝓕.one_ne_nil;
    b_at = λ l. absurd (omega arith);
  }

  module _ {S C B : Series 𝓕} {r L : ℕ} {b : F} (st : MasseyState 𝓕 S C B r L b) where
    -- what sh B keeps
    sh_below : (k : ℕ) → suc (suc r) < k + L → sh B k ≡ 𝟘
    sh_below zero l = sh-zero 𝓕 B
    sh_below (suc k) l = sh-suc 𝓕 B k ∙ st.b_below k (omega arith)

    sh_ann : (k : ℕ) → suc r < k + L → k < suc r → (sh B ⊛ S) k ≡ 𝟘
    sh_ann zero l m = rw sh-⊛ (sh-zero 𝓕 _)
    sh_ann (suc k) l m = rw (sh-⊛, sh-suc) (st.b_ann k (omega arith) (omega arith))

    sh_last : 0 < L → (sh B ⊛ S) (suc r) ≡ b
    sh_last l = rw (sh-⊛, sh-suc) (st.b_at l)

    -- the new C, for q = d / b
    mix : (q : F) (k : ℕ) → ((C ⊞ q ⊡ B) ⊛ S) k ≡ (C ⊛ S) k ⊕ q ⊙ (B ⊛ S) k
    mix q k = rw (⊞-⊛, ⊡-⊛, ⊞-at, ⊡-at)

    mix_one : (q : F) → (C ⊞ q ⊡ B) 0 ≡ 𝟙
    mix_one q = rw (⊞-at, ⊡-at, st.c_one, st.b_zero) (simp ring)

    mix_below : (q : F) (N : ℕ) → L ≤ N → suc r ≤ N + L → Below 𝓕 (suc N) (C ⊞ q ⊡ B)
    mix_below q N l m k n = rw (⊞-at, ⊡-at, st.c_below k (omega arith), st.b_below k (omega arith)) (simp ring)

    mix_ann : (q : F) (N : ℕ) → L ≤ N → suc r ≤ N + L → (0 < L → q ⊙ b ≡ (C ⊛ S) r) → Annihilates 𝓕 N (suc r) (C ⊞ q ⊡ B) S
    mix_ann q N l m e k n o = mix q k ∙ go (dec_le r k)
      where
        go : Dec (r ≤ k) → (C ⊛ S) k ⊕ q ⊙ (B ⊛ S) k ≡ 𝟘
        go (yes p) = let i : k ≡ r = omega arith in let z : 0 < L = omega arith in
            rw (i, st.b_at z, e z) (⊕_self 𝓕 _)
        go (no p) = rw (st.c_ann k (omega arith) (omega arith), st.b_ann k (omega arith) (omega arith)) (simp ring)

    -- the length stays
    kept : (C' : Series 𝓕) → C' 0 ≡ 𝟙 → Below 𝓕 (suc L) C' → Annihilates 𝓕 L (suc r) C' S → MasseyState 𝓕 S C' (sh B) (suc r) L b
    kept C' one below ann = record {
      c_one = one;
      c_below = below;
      c_ann = ann;
      short = omega (arith, st.short);
      least = λ v Λ o d a. st.least v Λ o d (λ k l m. a k l (omega arith));
      b_zero = sh-zero 𝓕 B;
      b_below = sh_below;
      b_ann = sh_ann;
      b_ne = st.b_ne;
      b_at = sh_last;
    }

    pub state-zero : (C ⊛ S) r ≡ 𝟘 → MasseyState 𝓕 S C (sh B) (suc r) L b
    state-zero d = kept C st.c_one st.c_below
        (λ k l m. elim (dec_le r k) [ yes p ↦ (let i : k ≡ r = omega arith in rw i d) | no p ↦ st.c_ann k l (omega arith) ])

    -- also right for d ≡ 𝟘
    pub state_keep : (q : F) → q ⊙ b ≡ (C ⊛ S) r → r < L + L → MasseyState 𝓕 S (C ⊞ q ⊡ B) (sh B) (suc r) L b
    state_keep q e l = kept _ (mix_one q) (mix_below q L (omega arith) (omega arith)) (mix_ann q L (omega arith) (omega arith) (λ z. e))

    pub state_grow : (q : F) → q ⊙ b ≡ (C ⊛ S) r → (C ⊛ S) r ≢ 𝟘 → L + L ≤ r → MasseyState 𝓕 S (C ⊞ q ⊡ B) (sh C) (suc r) (suc r - L) ((C ⊛ S) r)
    state_grow q e n l = record {
      c_one = mix_one q;
      c_below = mix_below q (suc r - L) (omega arith) (omega arith);
      c_ann = mix_ann q (suc r - L) (omega arith) (omega arith) (λ z. e);
      short = omega arith;
      least = λ v Λ o d a. omega (arith, massey 𝓕 L v r C Λ S st.c_one st.c_below st.c_ann n o d a);
      b_zero = sh-zero 𝓕 C;
      b_below = λ k m. c_below' k (omega arith);
      b_ann = λ k m o. c_ann' k (omega arith) o;
      b_ne = n;
      b_at = λ m. rw (sh-⊛, sh-suc);
    }
      where
        c_below' : (k : ℕ) → suc L < k → sh C k ≡ 𝟘
        c_below' zero m = sh-zero 𝓕 C
        c_below' (suc k) m = sh-suc 𝓕 C k ∙ st.c_below k (omega arith)

        c_ann' : (k : ℕ) → L < k → k < suc r → (sh C ⊛ S) k ≡ 𝟘
        c_ann' zero m o = rw sh-⊛ (sh-zero 𝓕 _)
        c_ann' (suc k) m o = rw (sh-⊛, sh-suc) (st.c_ann k (omega arith) (omega arith))

  -- what the last C is, if the first n of S are the syndromes of v ≤ n / 2 errors
  pub bm_finds : (v n L : ℕ) (S C B Y X Z : Series 𝓕) (b : F) → Distinct 𝓕 v X → Inverses 𝓕 v X Z → ((k : ℕ) → k < v → Y k ≢ 𝟘)
      → ((i : ℕ) → i < n → S i ≡ synd 𝓕 v Y X i) → MasseyState 𝓕 S C B n L b → v + v ≤ n
      → (L ≡ v) × (C ≡ loc 𝓕 v X)
  bm_finds v n L S C B Y X Z b D I ne s st m = (
    same,
    locator_unique 𝓕 v C X Z st.c_one (λ k p. st.c_below k (omega (arith, at_most))) I D
        (λ k p. ev_more 𝓕 (suc L) (suc v) C (Z k) st.c_below (omega (arith, at_most)) ∙ root k p),
  )
    where
      at_most : L ≤ v
      at_most = st.least v (loc 𝓕 v X) (loc_one 𝓕 v X) (below-loc 𝓕 v X)
          (λ k l o. ⊛_local 𝓕 (loc 𝓕 v X) S (synd 𝓕 v Y X) k (λ i p. s i (omega arith)) ∙ loc-annihilates 𝓕 v n Y X Z I k l o)

      root : (k : ℕ) → k < v → ev 𝓕 (suc L) C (Z k) ≡ 𝟘
      root = vanishes 𝓕 v L n C Y X Z D I ne st.c_below
          (λ k l o. sym (⊛_local 𝓕 C S (synd 𝓕 v Y X) k (λ i p. s i (omega arith))) ∙ st.c_ann k l o) (omega (arith, at_most))

      long : L < v → ◌≡◌ {A = F} 𝟙 𝟘
      long p = sym st.c_one ∙ roots 𝓕 v C Z (inverses_distinct 𝓕 v X Z I D) (λ k q. ev_more 𝓕 (suc L) v C (Z k) st.c_below p ∙ root k q) 0 (omega arith)

      same : L ≡ v
      same = elim (dec_le v L) [ yes p ↦ omega (arith, at_most) | no p ↦ absurd (𝓕.one_ne_nil (long (omega arith))) ]
