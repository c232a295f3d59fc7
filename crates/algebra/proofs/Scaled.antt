-- Berlekamp and Massey's algorithm without division: the recurrence c and the discrepancy are those of the algorithm that divides, times a
-- constant that is not zero. Roots stay roots, and the constant cancels in Forney's quotient.
--
--   scaled_start      at r = 0
--   scaled_below      c has no more coefficients than its length says
--   scaled-zero       no discrepancy
--   scaled_keep       a discrepancy d that is mended at the same length: c becomes b c + d B
--   scaled_grow       .. or makes the recurrence longer
--   scaled_complete   search_complete of proofs/Repair.antt, for c in place of C; and so with the others:
--   scaled-divisor    divisor-ne
--   scaled_sound      search_sound
--   scaled_lists      search_lists
--
-- Assumes nothing.
use mathlib.Core.Path.{◌≡◌, refl, sym, ◌∙◌, ap, fun_ext}
use mathlib.Core.Logic.{◌≢◌}
use Prim.Native.Nat.{ℕ, suc, ◌+◌, ◌-◌, ◌≤◌, ◌<◌}
use Rattle.algebra.specs.Field.{Field}
use Rattle.algebra.specs.Series.{Series, Below, operations}
use Rattle.algebra.specs.Value.{ev}
use Rattle.algebra.specs.Points.{Distinct, Inverses}
use Rattle.algebra.specs.PowerSum.{psum}
use Rattle.algebra.specs.Massey.{MasseyState, ScaledState}
use Rattle.algebra.specs.Derivative.{deriv}
use Rattle.algebra.specs.Support.{weight}
use Rattle.algebra.specs.Lists.{Lists}
use Rattle.algebra.specs.Search.{Search}
use Rattle.algebra.proofs.Ring.{ring, factor, mul-ne, ⊙-cancel, ⊙-𝟘, ⊙-𝟙, ⊙-assoc, ⊙-comm, ⊙_left, ⊙_inv}
use Rattle.algebra.proofs.Product.{⊞-at, ⊡-at, ⊡-⊛, sh-⊡, below-⊡}
use Rattle.algebra.proofs.Value.{ev-⊡}
use Rattle.algebra.proofs.Derivative.{deriv-⊡}
use Rattle.algebra.proofs.Listing.{lists_as}
use Rattle.algebra.proofs.Berlekamp.{state_start, state-zero, state_keep, state_grow}
use Rattle.algebra.proofs.Repair.{search_complete, divisor-ne, search_sound, search_lists}

module _ (𝓕 : Field) where
  infixl 60 ◌⊕◌ ◌⊞◌
  infixl 70 ◌⊙◌ ◌⊛◌
  infixr 80 ◌⊡◌
  open 𝓕 use {Carrier as F, add as ◌⊕◌, mul as ◌⊙◌, nil as 𝟘, one as 𝟙, inv}
  open operations 𝓕 use {◌⊞◌, ◌⊡◌, ◌⊛◌, unit, sh}

  -- B may have a constant too
  state-scaled : {S C B : Series 𝓕} {r L : ℕ} {b : F} (k : F) → k ≢ 𝟘 → MasseyState 𝓕 S C B r L b → MasseyState 𝓕 S C (k ⊡ B) r L (k ⊙ b)
  state-scaled k n st = record {
    c_one = st.c_one;
    c_below = st.c_below;
    c_ann = st.c_ann;
    short = st.short;
    least = st.least;
    b_zero = rw (⊡-at, st.b_zero) (⊙-𝟘 𝓕 k);
    b_below = λ i l. rw (⊡-at, st.b_below i l) (⊙-𝟘 𝓕 k);
    b_ann = λ i l m. rw (⊡-⊛, ⊡-at, st.b_ann i l m) (⊙-𝟘 𝓕 k);
    b_ne = mul-ne 𝓕 k _ n st.b_ne;
    b_at = λ l. rw (⊡-⊛, ⊡-at, st.b_at l);
  }

  pub scaled_start : (S : Series 𝓕) → ScaledState 𝓕 S unit (sh unit) 0 0 𝟙
  scaled_start S = record {
    factor = 𝟙;
    factor_ne = 𝓕.one_ne_nil;
    C = unit;
    c_is = fun_ext (λ k. simp (⊡-at, ring));
    state = state_start 𝓕 S;
  }

  module _ {S c B : Series 𝓕} {r L : ℕ} {b : F} (st : ScaledState 𝓕 S c B r L b) where
    -- what the algorithm that divides would have in place of the discrepancy, and add B times
    d : F
    d = (st.C ⊛ S) r

    q : F
    q = d ⊙ inv b

    q_mends : q ⊙ b ≡ d
    unfolding q
    q_mends = ⊙-assoc 𝓕 _ _ _ ∙ ap (λ x. d ⊙ x) (⊙-comm 𝓕 _ _ ∙ ⊙_inv 𝓕 b st.state.b_ne) ∙ ⊙-𝟙 𝓕 d

    d-scaled : (c ⊛ S) r ≡ st.factor ⊙ d
    unfolding d
    d-scaled = ap (λ (f : Series 𝓕). (f ⊛ S) r) st.c_is ∙ (rw (⊡-⊛, ⊡-at))

    mixed : b ⊡ c ⊞ (c ⊛ S) r ⊡ B ≡ (b ⊙ st.factor) ⊡ (st.C ⊞ q ⊡ B)
    mixed = fun_ext (λ k. rw (d-scaled, ← q_mends) (
        simp (⊞-at, ⊡-at, ap (λ (f : Series 𝓕). f k) st.c_is, ring)))

    pub scaled_below : Below 𝓕 (suc L) c
    scaled_below = rw st.c_is (below-⊡ 𝓕 (suc L) _ _ st.state.c_below)

    pub scaled-zero : (c ⊛ S) r ≡ 𝟘 → ScaledState 𝓕 S c (sh B) (suc r) L b
    unfolding d
    scaled-zero z = record {
      factor = st.factor;
      factor_ne = st.factor_ne;
      C = st.C;
      c_is = st.c_is;
      state = state-zero 𝓕 st.state (factor 𝓕 _ _ st.factor_ne (sym d-scaled ∙ z));
    }

    -- the constant is now b times as much
    mended : {B' : Series 𝓕} {L' : ℕ} {b' : F} → MasseyState 𝓕 S (st.C ⊞ q ⊡ B) B' (suc r) L' b' → ScaledState 𝓕 S (b ⊡ c ⊞ (c ⊛ S) r ⊡ B) B' (suc r) L' b'
    mended s = record {
      factor = b ⊙ st.factor;
      factor_ne = mul-ne 𝓕 _ _ st.state.b_ne st.factor_ne;
      C = st.C ⊞ q ⊡ B;
      c_is = mixed;
      state = s;
    }

    pub scaled_keep : r < L + L → ScaledState 𝓕 S (b ⊡ c ⊞ (c ⊛ S) r ⊡ B) (sh B) (suc r) L b
    unfolding d
    scaled_keep l = mended (state_keep 𝓕 st.state q q_mends l)

    pub scaled_grow : (c ⊛ S) r ≢ 𝟘 → L + L ≤ r → ScaledState 𝓕 S (b ⊡ c ⊞ (c ⊛ S) r ⊡ B) (sh c) (suc r) (suc r - L) ((c ⊛ S) r)
    unfolding d
    scaled_grow n l = mended (rw (d-scaled, old) (state-scaled st.factor st.factor_ne
        (state_grow 𝓕 st.state q q_mends (λ z. n (d-scaled ∙ (rw z (⊙-𝟘 𝓕 _)))) l)))
      where
        old : sh c ≡ st.factor ⊡ sh st.C
        old = ap sh st.c_is ∙ sh-⊡ 𝓕 _ _

  -- ---- the search, and the values

  module _ {n t L : ℕ} {A Z S c B : Series 𝓕} {b : F} (D : Distinct 𝓕 n A) (I : Inverses 𝓕 n A Z) (st : ScaledState 𝓕 S c B t L b) where
    value-scaled : (x : F) → ev 𝓕 (suc L) c x ≡ st.factor ⊙ ev 𝓕 (suc L) st.C x
    value-scaled x = ap (λ (f : Series 𝓕). ev 𝓕 (suc L) f x) st.c_is ∙ ev-⊡ 𝓕 (suc L) _ _ x

    root : (x : F) → ev 𝓕 (suc L) c x ≡ 𝟘 → ev 𝓕 (suc L) st.C x ≡ 𝟘
    root x z = factor 𝓕 _ _ st.factor_ne (sym (value-scaled x) ∙ z)

    root_of : (x : F) → ev 𝓕 (suc L) st.C x ≡ 𝟘 → ev 𝓕 (suc L) c x ≡ 𝟘
    root_of x z = value-scaled x ∙ (rw z (⊙-𝟘 𝓕 _))

    search-scaled : (v : ℕ) (at : ℕ → ℕ) → Search 𝓕 n v L c Z at → Search 𝓕 n v L st.C Z at
    search-scaled v at = lists_as n v _ _ at at (λ p l. root (Z p)) (λ p l. root_of (Z p)) (λ j l. refl)

    pub scaled_complete : (E : Series 𝓕) → weight 𝓕 n E + weight 𝓕 n E ≤ t → ((i : ℕ) → i < t → S i ≡ psum 𝓕 n E A (suc i))
        → (v : ℕ) (at : ℕ → ℕ) → Search 𝓕 n v L c Z at → v ≡ L
    scaled_complete E few syn v at found = search_complete 𝓕 D I st.state E few syn v at (search-scaled v at found)

    module _ (at : ℕ → ℕ) (found : Search 𝓕 n L L c Z at) where
      divisor-scaled : (x : F) → ev 𝓕 L (deriv 𝓕 c) x ≡ st.factor ⊙ ev 𝓕 L (deriv 𝓕 st.C) x
      divisor-scaled x = ap (λ (f : Series 𝓕). ev 𝓕 L (deriv 𝓕 f) x) st.c_is ∙ (rw deriv-⊡ (ev-⊡ 𝓕 L _ _ x))

      pub scaled-divisor : (j : ℕ) → j < L → ev 𝓕 L (deriv 𝓕 c) (Z (at j)) ≢ 𝟘
      scaled-divisor j l = rw divisor-scaled (mul-ne 𝓕 _ _ st.factor_ne (divisor-ne 𝓕 D I st.state at (search-scaled L at found) j l))

      module _ (E : Series 𝓕) (short : L ≤ t) (elsewhere : (p : ℕ) → (ev 𝓕 (suc L) c (Z p) ≡ 𝟘 → ⊥) → E p ≡ 𝟘)
          (values : (j : ℕ) → j < L → E (at j) ⊙ ev 𝓕 L (deriv 𝓕 c) (Z (at j)) ≡ ev 𝓕 L (c ⊛ S) (Z (at j))) where
        elsewhere-scaled : (p : ℕ) → (ev 𝓕 (suc L) st.C (Z p) ≡ 𝟘 → ⊥) → E p ≡ 𝟘
        elsewhere-scaled p h = elsewhere p (λ z. h (root (Z p) z))

        -- the constant stands on both sides
        values-scaled : (j : ℕ) → j < L → E (at j) ⊙ ev 𝓕 L (deriv 𝓕 st.C) (Z (at j)) ≡ ev 𝓕 L (st.C ⊛ S) (Z (at j))
        values-scaled j l = ⊙-cancel 𝓕 st.factor _ _ st.factor_ne
            (⊙_left 𝓕 _ _ _ ∙ ap (λ x. E (at j) ⊙ x) (sym (divisor-scaled (Z (at j)))) ∙ values j l
            ∙ ap (λ (f : Series 𝓕). ev 𝓕 L (f ⊛ S) (Z (at j))) st.c_is ∙ (rw ⊡-⊛ (ev-⊡ 𝓕 L _ _ (Z (at j)))))

        pub scaled_sound : ((i : ℕ) → i < t → psum 𝓕 n E A (suc i) ≡ S i) × (weight 𝓕 n E ≡ L)
        scaled_sound = search_sound 𝓕 D I st.state at (search-scaled L at found) E short elsewhere-scaled values-scaled

        pub scaled_lists : Lists n L (λ p. E p ≢ 𝟘) at
        scaled_lists = search_lists 𝓕 D I st.state at (search-scaled L at found) E short elsewhere-scaled values-scaled
