-- What the search for the roots of the locator shows. The n places have distinct locators A, with inverses Z; S are the syndromes,
-- and (C, L) is what Berlekamp and Massey's algorithm made of the first t of them.
--
--   least-weight          no error with the syndromes S has a smaller weight than the shortest recurrence's length
--   search_complete       if S are the syndromes of an error of weight w with 2 w ≤ t, the search finds L places
--   divisor-ne            if it finds L places, Forney's divisor is not zero there
--   search_sound          .. and the error with Forney's values there has the syndromes S, and weight L
--   search_lists          .. and is not zero at just the places found
--
-- Assumes nothing.
use mathlib.Core.Path.{◌≡◌, refl, sym, ◌∙◌, ap, ap₂}
use mathlib.Core.Logic.{◌≢◌}
use Prim.Native.Nat.{ℕ, zero, suc, ◌+◌, ◌≤◌, ◌<◌}
use native.Mathlib.Omega.{arith}
use native.Mathlib.Decide.{dec_lt}
use Rattle.algebra.specs.Field.{Field}
use Rattle.algebra.specs.Series as Ser
use Rattle.algebra.specs.Series.{Series, operations}
use Rattle.algebra.specs.Power.{pow}
use Rattle.algebra.specs.Value.{ev}
use Rattle.algebra.specs.Points.{Distinct, Inverses}
use Rattle.algebra.specs.PowerSum.{psum, synd}
use Rattle.algebra.specs.Locator.{loc, prod, skip}
use Rattle.algebra.specs.Massey.{Least, MasseyState}
use Rattle.algebra.specs.Derivative.{deriv}
use Rattle.algebra.specs.Support.{Support, pick, weight, one_if}
use Rattle.algebra.specs.Lists.{Lists}
use Rattle.algebra.specs.Search.{Search}
use Rattle.algebra.proofs.Listing.{lists_as}
use Rattle.algebra.proofs.Ring.{ring, mul-ne, 𝟘-⊙, 𝟙-⊙}
use Rattle.algebra.proofs.Product.{⊛_local, tl-at}
use Rattle.algebra.proofs.PowerSum.{psum-zero, psum-suc}
use Rattle.algebra.proofs.Locator.{left-ne, synd-at, loc_one, below-loc, ev-loc, prod-root, loc-annihilates, link-ne, locator_unique}
use Rattle.algebra.proofs.Berlekamp.{bm_finds}
use Rattle.algebra.proofs.Forney.{skip-ne, prod-ne, forney_sound}
use Rattle.algebra.proofs.Derivative.{deriv-loc}
use Rattle.algebra.proofs.Support.{pick_at, weight-zero, weight-suc, support, support_of, psum_cong}
use Rattle.algebra.proofs.Powers.{pow-zero, pow-suc}

module _ (𝓕 : Field) where
  infixl 60 ◌⊕◌
  infixl 70 ◌⊙◌ ◌⊛◌
  open 𝓕 use {Carrier as F, add as ◌⊕◌, mul as ◌⊙◌, nil as 𝟘, one as 𝟙}
  open operations 𝓕 use {◌⊛◌, tl}

  distinct-any : (n : ℕ) (A : Series 𝓕) → Distinct 𝓕 n A → (i j : ℕ) → i < n → j < n → i ≢ j → A i ≢ A j
  distinct-any n A D i j l m h = elim (dec_lt i j) [ yes p ↦ D i j p m | no p ↦ (λ e. D j i (omega arith) l (sym e)) ]

  -- 1 where it holds, 0 where not
  mark : {P : Type 0} → Dec P → F
  mark (yes p) = 𝟙
  mark (no p) = 𝟘

  mark-ne : {P : Type 0} (d : Dec P) → P → mark d ≢ 𝟘
  unfolding mark
  mark-ne (yes p) h = 𝓕.one_ne_nil
  mark-ne (no p) h = absurd (p h)

  mark_of : {P : Type 0} (d : Dec P) → mark d ≢ 𝟘 → P
  unfolding mark
  mark_of (yes p) h = p
  mark_of (no p) h = absurd (h refl)

  mark_keeps : {P : Type 0} (d : Dec P) (y : F) → ((P → ⊥) → y ≡ 𝟘) → mark d ⊙ y ≡ y
  unfolding mark
  mark_keeps (yes p) y h = 𝟙-⊙ 𝓕 y
  mark_keeps (no p) y h = rw (h p) (𝟘-⊙ 𝓕 𝟘)

  -- a series that is zero where another is has at most its weight, and less, where it is zero at a place where the other is not
  one-le : (x y : F) (d : Dec (x ≡ 𝟘)) (u : Dec (y ≡ 𝟘)) → (y ≡ 𝟘 → x ≡ 𝟘) → one_if 𝓕 d ≤ one_if 𝓕 u
  unfolding one_if
  one-le x y (yes d) u h = omega arith
  one-le x y (no d) (no u) h = omega arith
  one-le x y (no d) (yes u) h = absurd (d (h u))

  one-lt : (x y : F) (d : Dec (x ≡ 𝟘)) (u : Dec (y ≡ 𝟘)) → x ≡ 𝟘 → y ≢ 𝟘 → one_if 𝓕 d < one_if 𝓕 u
  unfolding one_if
  one-lt x y (yes d) (no u) e h = omega arith
  one-lt x y (yes d) (yes u) e h = absurd (h u)
  one-lt x y (no d) u e h = absurd (d e)

  weight-le : (n : ℕ) (E U : Series 𝓕) → ((p : ℕ) → p < n → U p ≡ 𝟘 → E p ≡ 𝟘) → weight 𝓕 n E ≤ weight 𝓕 n U
  weight-le zero E U h = rw (weight-zero 𝓕 E) (omega arith)
  weight-le (suc n) E U h =
      rw (weight-suc 𝓕 n E, weight-suc 𝓕 n U)
      (omega (
        arith,
        weight-le n (tl E) (tl U) (λ p l. rw (tl-at 𝓕 E p, tl-at 𝓕 U p) (h (suc p) (omega arith))),
        one-le (E 0) (U 0) (𝓕.decide (E 0) 𝟘) (𝓕.decide (U 0) 𝟘) (h 0 (omega arith)),
      ))

  weight-lt : (n : ℕ) (E U : Series 𝓕) → ((p : ℕ) → p < n → U p ≡ 𝟘 → E p ≡ 𝟘) → (q : ℕ) → q < n → E q ≡ 𝟘 → U q ≢ 𝟘 → weight 𝓕 n E < weight 𝓕 n U
  weight-lt zero E U h q l e u = absurd (omega arith)
  weight-lt (suc n) E U h zero l e u =
      rw (weight-suc 𝓕 n E, weight-suc 𝓕 n U)
      (omega (
        arith,
        weight-le n (tl E) (tl U) (λ p l. rw (tl-at 𝓕 E p, tl-at 𝓕 U p) (h (suc p) (omega arith))),
        one-lt (E 0) (U 0) (𝓕.decide (E 0) 𝟘) (𝓕.decide (U 0) 𝟘) e u,
      ))
  weight-lt (suc n) E U h (suc q) l e u =
      rw (weight-suc 𝓕 n E, weight-suc 𝓕 n U)
      (omega (
        arith,
        weight-lt n (tl E) (tl U) (λ p l. rw (tl-at 𝓕 E p, tl-at 𝓕 U p) (h (suc p) (omega arith))) q (omega arith) (tl-at 𝓕 E q ∙ e)
            (λ z. u (sym (tl-at 𝓕 U q) ∙ z)),
        one-le (E 0) (U 0) (𝓕.decide (E 0) 𝟘) (𝓕.decide (U 0) 𝟘) (h 0 (omega arith)),
      ))

  -- a power sum whose values are products, as one whose points are
  psum_one : (v : ℕ) (U E A : Series 𝓕) (i : ℕ) → psum 𝓕 v U (λ p. E p ⊙ pow 𝓕 (A p) i) 1 ≡ psum 𝓕 v (λ p. U p ⊙ E p) A i
  unfolding Ser.tl
  psum_one zero U E A i = psum-zero 𝓕 _ _ 1 ∙ sym (psum-zero 𝓕 _ A i)
  psum_one (suc v) U E A i =
      psum-suc 𝓕 v U _ 1 ∙ ap (λ (s : F). U 0 ⊙ pow 𝓕 (E 0 ⊙ pow 𝓕 (A 0) i) 1 ⊕ s) (psum_one v (tl U) (tl E) (tl A) i)
      ∙ (rw (pow-suc 𝓕 _ 0, pow-zero) (simp ring)) ∙ sym (psum-suc 𝓕 v _ A i)

  -- E is zero but at the listed places, which are those where U is not: sums over all n places are sums over the list
  psum_listed : (n v : ℕ) (U E A : Series 𝓕) (at : ℕ → ℕ) (i : ℕ) → Support 𝓕 n v U at → ((p : ℕ) → U p ⊙ E p ≡ E p)
      → psum 𝓕 n E A i ≡ psum 𝓕 v (pick 𝓕 E at) (pick 𝓕 A at) i
  unfolding pick
  psum_listed n v U E A at i su keeps =
      sym (psum_cong 𝓕 n _ E A A i (λ k l. keeps k) (λ k l. refl)) ∙ sym (psum_one n U E A i) ∙ su.sums _ 1
      ∙ psum_one v (pick 𝓕 U at) (pick 𝓕 E at) (pick 𝓕 A at) i ∙ psum_cong 𝓕 v _ _ _ _ i (λ k l. keeps (at k)) (λ k l. refl)

  module _ {n : ℕ} {A Z : Series 𝓕} (D : Distinct 𝓕 n A) (I : Inverses 𝓕 n A Z) where
    -- the listed places' locators and their inverses
    module _ (v : ℕ) (at : ℕ → ℕ) (inside : (j : ℕ) → j < v → at j < n) (rises : (i j : ℕ) → i < j → j < v → at i < at j) where
      listed_distinct : Distinct 𝓕 v (pick 𝓕 A at)
      listed_distinct i j l m = rw (pick_at 𝓕 A at i, pick_at 𝓕 A at j) (D (at i) (at j) (rises i j l m) (inside j m))

      listed_inverses : Inverses 𝓕 v (pick 𝓕 A at) (pick 𝓕 Z at)
      listed_inverses j l = rw (pick_at 𝓕 A at j, pick_at 𝓕 Z at j) (I (at j) (inside j l))

    pub least-weight : {t L : ℕ} {S : Series 𝓕} → Least 𝓕 t L S → (E : Series 𝓕) → ((i : ℕ) → i < t → S i ≡ psum 𝓕 n E A (suc i)) → L ≤ weight 𝓕 n E
    least-weight {t} {L} {S} least E syn =
        least w (loc 𝓕 w X) (loc_one 𝓕 w X) (below-loc 𝓕 w X)
        (λ k l o. ⊛_local 𝓕 (loc 𝓕 w X) S (synd 𝓕 w Y X) k (λ i p. syn i (omega arith) ∙ su.sums A (suc i) ∙ sym (synd-at 𝓕 w Y X i))
        ∙ loc-annihilates 𝓕 w t Y X (pick 𝓕 Z at) (listed_inverses w at su.lists.inside su.lists.rises) k l o)
      where
        w : ℕ
        w = weight 𝓕 n E

        at : ℕ → ℕ
        at = (support 𝓕 n E).0

        su : Support 𝓕 n w E at
        su = (support 𝓕 n E).1

        X : Series 𝓕
        X = pick 𝓕 A at

        Y : Series 𝓕
        Y = pick 𝓕 E at

  module _ {n t L : ℕ} {A Z S C B : Series 𝓕} {b : F} (D : Distinct 𝓕 n A) (I : Inverses 𝓕 n A Z) (st : MasseyState 𝓕 S C B t L b) where
    -- ---- if S are the syndromes of an error of weight at most t / 2, C is its locator

    module _ (E : Series 𝓕) (few : weight 𝓕 n E + weight 𝓕 n E ≤ t) (syn : (i : ℕ) → i < t → S i ≡ psum 𝓕 n E A (suc i)) where
      at : ℕ → ℕ
      at = (support 𝓕 n E).0

      su : Support 𝓕 n (weight 𝓕 n E) E at
      unfolding at
      su = (support 𝓕 n E).1

      located : (L ≡ weight 𝓕 n E) × (C ≡ loc 𝓕 (weight 𝓕 n E) (pick 𝓕 A at))
      located =
          bm_finds 𝓕 (weight 𝓕 n E) t L S C B (pick 𝓕 E at) (pick 𝓕 A at) (pick 𝓕 Z at) b
          (listed_distinct D I (weight 𝓕 n E) at su.lists.inside su.lists.rises) (listed_inverses D I (weight 𝓕 n E) at su.lists.inside su.lists.rises)
          (λ k l. rw pick_at (su.lists.each k l))
          (λ i l. syn i l ∙ su.sums A (suc i) ∙ sym (synd-at 𝓕 (weight 𝓕 n E) (pick 𝓕 E at) (pick 𝓕 A at) i)) st few

      value-at : (p : ℕ) → ev 𝓕 (suc L) C (Z p) ≡ prod 𝓕 (weight 𝓕 n E) (pick 𝓕 A at) (Z p)
      value-at p = ap₂ (λ (l : ℕ) (c : Series 𝓕). ev 𝓕 (suc l) c (Z p)) located.0 located.1 ∙ ev-loc 𝓕 (weight 𝓕 n E) (pick 𝓕 A at) (Z p)

      error-root : (p : ℕ) → p < n → E p ≢ 𝟘 → ev 𝓕 (suc L) C (Z p) ≡ 𝟘
      error-root p l h =
          let r = su.lists.all p l h in
          value-at p ∙ prod-root 𝓕 (weight 𝓕 n E) (pick 𝓕 A at) (Z p) r.0 r.1 (rw (pick_at, r.2) (I p l))

      root_error : (p : ℕ) → p < n → ev 𝓕 (suc L) C (Z p) ≡ 𝟘 → E p ≢ 𝟘
      root_error p l h z =
          prod-ne 𝓕 (weight 𝓕 n E) (pick 𝓕 A at) (Z p)
          (λ j m. rw pick_at (link-ne 𝓕 (A (at j)) (A p) (Z p) (I p l)
          (distinct-any n A D (at j) p (su.lists.inside j m) l (λ e. su.lists.each j m (rw e z)))))
          (sym (value-at p) ∙ h)

      pub search_complete : (v : ℕ) (bt : ℕ → ℕ) → Search 𝓕 n v L C Z bt → v ≡ L
      search_complete v bt found =
          (support_of 𝓕 n v E bt (lists_as n v _ _ bt bt root_error error-root (λ j l. refl) found)).0 ∙ sym located.0

    -- ---- if L roots are found, C is their locator

    module _ (at : ℕ → ℕ) (found : Search 𝓕 n L L C Z at) where
      root_listed : (j : ℕ) → j < L → ev 𝓕 (suc L) C (pick 𝓕 Z at j) ≡ 𝟘
      root_listed j l = rw pick_at (found.each j l)

      C-is : C ≡ loc 𝓕 L (pick 𝓕 A at)
      C-is =
          locator_unique 𝓕 L C (pick 𝓕 A at) (pick 𝓕 Z at) st.c_one st.c_below
          (listed_inverses D I L at found.inside found.rises) (listed_distinct D I L at found.inside found.rises) root_listed

      divisor-is : (j : ℕ) → j < L → ev 𝓕 L (deriv 𝓕 C) (Z (at j)) ≡ pick 𝓕 A at j ⊙ skip 𝓕 L (pick 𝓕 A at) j (pick 𝓕 Z at j)
      divisor-is j l =
          (rw (C-is, ← pick_at 𝓕 Z at j) (deriv-loc 𝓕 L (pick 𝓕 A at) j (pick 𝓕 Z at j) l (listed_inverses D I L at found.inside found.rises j l)))

      pub divisor-ne : (j : ℕ) → j < L → ev 𝓕 L (deriv 𝓕 C) (Z (at j)) ≢ 𝟘
      divisor-ne j l =
          rw divisor-is (mul-ne 𝓕 _ _ (left-ne 𝓕 _ _ (listed_inverses D I L at found.inside found.rises j l))
          (skip-ne 𝓕 L (pick 𝓕 A at) j _ (listed_distinct D I L at found.inside found.rises) l (listed_inverses D I L at found.inside found.rises j l)))

      -- ---- and Forney's values there make an error with the syndromes S

      module _ (E : Series 𝓕) (short : L ≤ t) (elsewhere : (p : ℕ) → (ev 𝓕 (suc L) C (Z p) ≡ 𝟘 → ⊥) → E p ≡ 𝟘)
          (values : (j : ℕ) → j < L → E (at j) ⊙ ev 𝓕 L (deriv 𝓕 C) (Z (at j)) ≡ ev 𝓕 L (C ⊛ S) (Z (at j))) where
        root-mark : Series 𝓕
        root-mark p = mark (𝓕.decide (ev 𝓕 (suc L) C (Z p)) 𝟘)

        marks : Lists n L (λ p. root-mark p ≢ 𝟘) at
        unfolding root-mark
        marks = lists_as n L _ _ at at (λ p l. mark-ne (𝓕.decide (ev 𝓕 (suc L) C (Z p)) 𝟘)) (λ p l. mark_of (𝓕.decide (ev 𝓕 (suc L) C (Z p)) 𝟘)) (λ j l. refl) found

        kept : (p : ℕ) → root-mark p ⊙ E p ≡ E p
        unfolding root-mark
        kept p = mark_keeps (𝓕.decide (ev 𝓕 (suc L) C (Z p)) 𝟘) (E p) (elsewhere p)

        sums : (i : ℕ) → i < t → psum 𝓕 n E A (suc i) ≡ S i
        sums i l =
            psum_listed n L root-mark E A at (suc i) (support_of 𝓕 n L root-mark at marks).1 kept
            ∙ forney_sound 𝓕 L t C S (pick 𝓕 E at) (pick 𝓕 A at) (pick 𝓕 Z at) st.c_one st.c_below st.c_ann short
            (listed_distinct D I L at found.inside found.rises) (listed_inverses D I L at found.inside found.rises) root_listed
            (λ j m. rw (← divisor-is j m, pick_at 𝓕 E at j, values j m, pick_at 𝓕 Z at j)) i l

        marked : (p : ℕ) → p < n → root-mark p ≡ 𝟘 → E p ≡ 𝟘
        marked p l z = sym (kept p) ∙ (rw z (𝟘-⊙ 𝓕 _))

        least : L ≤ weight 𝓕 n E
        least = least-weight D I st.least E (λ i l. sym (sums i l))

        pub search_sound : ((i : ℕ) → i < t → psum 𝓕 n E A (suc i) ≡ S i) × (weight 𝓕 n E ≡ L)
        search_sound = (sums, omega (arith, least, (support_of 𝓕 n L root-mark at marks).0, weight-le n E root-mark marked))

        -- a listed place at which it were zero would leave a weight below the least
        pub search_lists : Lists n L (λ p. E p ≢ 𝟘) at
        search_lists = lists_as n L _ _ at at
            (λ p l h z. omega (arith, least, (support_of 𝓕 n L root-mark at marks).0, weight-lt n E root-mark marked p l z h))
            (λ p l h. elim (𝓕.decide (root-mark p) 𝟘) [ yes r ↦ absurd (h (marked p l r)) | no r ↦ r ]) (λ j l. refl) marks
