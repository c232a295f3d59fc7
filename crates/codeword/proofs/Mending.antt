-- a z + q x^n v, 16 coefficients at a time from the top down, and as series.
--
--   block-low, block-high           where a block stands
--   mended_start, mended-next       one block after another
--   kept_start, kept_next           .. of z into v
--   part_at, part-long, part-past   the octets of a part, how many they are, and zeros past them
--   Span low high o w hi            the first hi places of the part of w octets from o on, and they alone, are among the blocks
--   c_span, d_span                  so for c and d
--   behind-at                       the coefficients behind the zeros
--   mended-at, mended-whole         what such a part of z then is, as a series; the whole of it, where nothing lies beyond
--   kept_at, kept_whole, kept-margin    what that of v then is
--
-- Assumes nothing.
use mathlib.Core.Path.{◌≡◌, refl, sym, ap, ap₂, fun_ext, ◌∙◌}
use mathlib.Core.Logic.{◌⊎◌, inl, inr, ⊎_elim}
use mathlib.Core.Bool.{Bool, true, false, true≢false}
use mathlib.Core.List.{List}
use Prim.Native.Nat.{ℕ, ◌+◌, ◌*◌, ◌-◌, ◌≤◌, ◌<◌}
use native.Mathlib.Omega.{arith}
use native.Mathlib.Decide.{dec_le, dec_lt}
use borrow.Author.Tests.{lt-ltb, le-ltb}
use lib.ListN.{length, get_or, drop, length-take, length-drop, get_or-eq_default}
use lib.Seq.{get_or-take, get_or-drop, length-take-le}
use Rattle.algebra.specs.Series.{operations}
use Rattle.algebra.specs.Polynomial.{raised}
use Rattle.algebra.proofs.Laws.{raised-low, raised_high, ⊕-𝟘, ⊙-𝟘, ⊞-at, ⊡-at}
use Rattle.field.specs.Octet as Octet
use Rattle.codeword.specs.Element.{elements, element}
use Rattle.codeword.specs.Element.Laws.{element-sum, element-product, element-zero}
use Rattle.codeword.specs.Lanes.{lanes, Lanes, Stored}
use Rattle.codeword.specs.Places.{places}
use Rattle.codeword.specs.Locator.{margin, HasMargin, behind, second, part, block_at, Among, Saved, Mended, Kept}
use Rattle.codeword.proofs.Word.{places-at}

infixl 60 ◌⊕◌ ◌⊞◌
infixl 70 ◌⊙◌
infixr 80 ◌⊡◌
open elements use {Carrier as F, add as ◌⊕◌, mul as ◌⊙◌, nil as 𝟘}
open operations elements use {◌⊞◌, ◌⊡◌}

-- a x + q y, on octets
abbrev mix : ℕ → ℕ → ℕ → ℕ → ℕ
mix a q x y = Octet.sum (Octet.product a x) (Octet.product q y)

-- ---- where a block stands

pub block-low : (low i : ℕ) → i < low → block_at low i ≡ lanes * i
unfolding block_at
block-low low i l = rw (lt-ltb i low l)

pub block-high : (low i : ℕ) → low ≤ i → block_at low i ≡ second + lanes * (i - low)
unfolding block_at
block-high low i l = rw (le-ltb i low l)

-- ---- block after block

-- past the last block stands nothing
none : (low high k : ℕ) → low ≤ 8 → block_at low (low + high) ≤ k → Among low high k → ⊥
none low high k few l = ⊎_elim (λ p. omega (arith, end)) (λ p. omega (arith, p, end))
  where
    end : block_at low (low + high) ≡ second + lanes * (low + high - low)
    end = block-high low (low + high) (omega arith)

pub mended_start : {low high n a q : ℕ} {z v : List ℕ} → low ≤ 8 → Mended low high (block_at low (low + high)) n a q z v z
mended_start {low} {high} few = record { long = refl; done = λ k l m. absurd (none low high k few l m); left = λ k m. refl }

pub kept_start : {grows : Bool} {low high : ℕ} {z v : List ℕ} → low ≤ 8 → Kept grows low high (block_at low (low + high)) z v v
kept_start {grows} {low} {high} few = record { long = refl; done = λ g k l m. absurd (none low high k few l m); left = λ j m. refl; same = λ g. refl }

module _ (low high i : ℕ) {o next : ℕ} (few : low ≤ 8) (inside : i < low + high) (here : o ≡ block_at low i) (after : next ≡ i + 1) where
  -- the block above is the next, or the first of d
  above : (block_at low next ≡ o + lanes) ⊎ ((o + lanes ≡ lanes * low) × (block_at low next ≡ second))
  above = elim (dec_lt i low) [
    | yes p ↦ elim (dec_lt next low) [
      | yes q ↦ inl (omega (arith, block-low low i p, block-low low next q))
      | no q ↦ inr (omega (arith, block-low low i p), omega (arith, block-high low next (omega arith)))
    ]
    | no p ↦ inl (omega (arith, block-high low i (omega arith), block-high low next (omega arith)))
  ]

  rises : o + lanes ≤ block_at low next
  rises = ⊎_elim (λ p. omega arith) (λ p. omega (arith, p)) above

  among : (k : ℕ) → o ≤ k → k < o + lanes → Among low high k
  among k l m = elim (dec_lt i low) [
    | yes p ↦ inl (omega (arith, block-low low i p))
    | no p ↦ inr (omega (arith, block-high low i (omega arith)), omega (arith, block-high low i (omega arith)))
  ]

  -- between them stands nothing
  beyond : (k : ℕ) → Among low high k → o + lanes ≤ k → block_at low next ≤ k
  beyond k m l = ⊎_elim (λ p. omega arith) (λ p. ⊎_elim (λ c. absurd (omega (arith, p))) (λ d. omega (arith, p, d)) m) above

  past : (k : ℕ) → o ≤ k → (k < block_at low i) ⊎ (Among low high k → ⊥) → o + lanes ≤ k
  past k l m = elim (dec_lt k (o + lanes)) [
    | yes p ↦ absurd (⊎_elim (λ b. omega arith) (λ f. f (among k l p)) m)
    | no p ↦ omega arith
  ]

  -- v is maybe changed from this block on
  pub mended-next : (v' : List ℕ) {n a q : ℕ} {z v w w' x y u : List ℕ} → n ≤ margin → Mended low high (block_at low next) n a q z v w
      → ((j : ℕ) → j < margin + block_at low next → get_or v' j 0 ≡ get_or v j 0)
      → Lanes (λ k. get_or w (o + k) 0) x → Lanes (λ k. get_or v' (margin + o - n + k) 0) y → Lanes (λ k. mix a q (get_or x k 0) (get_or y k 0)) u
      → Stored lanes o u w w'
      → Mended low high (block_at low i) n a q z v w'
  mended-next v' {n} {a} {q} {z} {v} {w} {w'} {x} {y} {u} small h same lx ly mu st = record {
    long = st.long ∙ h.long;
    done = λ k l m. elim (dec_lt k (o + lanes)) [
      | yes p ↦ mixed k (omega arith) p
      | no p ↦ st.behind k (omega arith) ∙ h.done k (beyond k m (omega arith)) m
    ];
    left = λ k m. elim (dec_lt k o) [ yes p ↦ st.before k p | no p ↦ st.behind k (past k (omega arith) m) ]
        ∙ h.left k (⊎_elim (λ p. inl (omega (arith, rises))) (λ f. inr f) m);
  }
    where
      mixed : (k : ℕ) → o ≤ k → k < o + lanes → get_or w' k 0 ≡ mix a q (get_or z k 0) (get_or v (margin + k - n) 0)
      mixed k l m =
          let j : ℕ = k - o in
          let e : o + j ≡ k = omega arith in
          let f : margin + o - n + j ≡ margin + k - n = omega arith in
          ap (λ (t : ℕ). get_or w' t 0) (sym e) ∙ st.written j (omega arith) ∙ mu.entry j (omega arith)
          ∙ ap₂ (mix a q) (lx.entry j (omega arith) ∙ ap (λ (t : ℕ). get_or w t 0) e ∙ h.left k (inl (omega (arith, rises))))
          (ly.entry j (omega arith) ∙ ap (λ (t : ℕ). get_or v' t 0) f ∙ same (margin + k - n) (omega (arith, rises)))

  pub kept_next : (grows : Bool) (w : List ℕ) {z v v' v'' x : List ℕ} → Kept grows low high (block_at low next) z v v'
      → ((k : ℕ) → k < block_at low next → get_or w k 0 ≡ get_or z k 0) → Lanes (λ k. get_or w (o + k) 0) x → Saved grows (margin + o) x v' v''
      → Kept grows low high (block_at low i) z v v''
  kept_next true w {z} {v} {v'} {v''} {x} h same lx saved = record {
    long = st.long ∙ h.long;
    done = λ g k l m. elim (dec_lt k (o + lanes)) [
      | yes p ↦ copied k (omega arith) p
      | no p ↦ st.behind (margin + k) (omega arith) ∙ h.done refl k (beyond k m (omega arith)) m
    ];
    left = λ j m. elim (dec_lt j (margin + o)) [
      | yes p ↦ st.before j p
      | no p ↦ st.behind j (omega (arith, past (j - margin) (omega arith) (⊎_elim (λ b. inl (omega arith)) (λ f. inr f) m)))
    ] ∙ h.left j (⊎_elim (λ p. inl (omega (arith, rises))) (λ f. inr f) m);
    same = λ g. absurd (true≢false g);
  }
    where
      st : Stored lanes (margin + o) x v' v''
      st = saved.stored refl

      copied : (k : ℕ) → o ≤ k → k < o + lanes → get_or v'' (margin + k) 0 ≡ get_or z k 0
      copied k l m =
          let j : ℕ = k - o in
          let e : o + j ≡ k = omega arith in
          let f : margin + o + j ≡ margin + k = omega arith in
          ap (λ (t : ℕ). get_or v'' t 0) (sym f) ∙ st.written j (omega arith) ∙ lx.entry j (omega arith) ∙ ap (λ (t : ℕ). get_or w t 0) e
          ∙ same k (omega (arith, rises))
  kept_next false w {z} {v} {v'} {v''} {x} h same lx saved = record {
    long = ap length (saved.same refl) ∙ h.long;
    done = λ g. absurd (true≢false (sym g));
    left = λ j m. ap (λ (l : List ℕ). get_or l j 0) (saved.same refl ∙ h.same refl);
    same = λ g. saved.same refl ∙ h.same refl;
  }

-- ---- the parts of the arrays

pub part_at : (o n k : ℕ) (z : List ℕ) → k < n → get_or (part o n z) k 0 ≡ get_or z (o + k) 0
unfolding part
part_at o n k z l = get_or-take n (drop o z) k 0 l ∙ get_or-drop o z k 0

pub part-long : (o n : ℕ) (z : List ℕ) → o + n ≤ length z → length (part o n z) ≡ n
unfolding part
part-long o n z l = length-take-le n (drop o z) (omega (arith, length-drop o z))

pub part-past : (o n k : ℕ) (z : List ℕ) → n ≤ k → get_or (part o n z) k 0 ≡ 0
unfolding part
part-past o n k z l = get_or-eq_default (part o n z) 0 (omega (arith, length-take n (drop o z)))

-- what is the same from o on is so in the part
part_same : (o n k : ℕ) (z w : List ℕ) → (k < n → get_or z (o + k) 0 ≡ get_or w (o + k) 0) → get_or (part o n z) k 0 ≡ get_or (part o n w) k 0
part_same o n k z w e = elim (dec_lt k n) [
  | yes p ↦ part_at o n k z p ∙ e p ∙ sym (part_at o n k w p)
  | no p ↦ part-past o n k z (omega arith) ∙ sym (part-past o n k w (omega arith))
]

pub record Span (low high o w hi : ℕ) : Type 0 where
  pub fits : hi ≤ w
  pub inside : (k : ℕ) → k < hi → Among low high (o + k)
  pub outside : (k : ℕ) → hi ≤ k → k < w → Among low high (o + k) → ⊥
  pub apart : (k : ℕ) → k < margin → (o + k < margin) ⊎ (Among low high (o + k - margin) → ⊥)

pub c_span : {low high : ℕ} → low ≤ 8 → Span low high 0 128 (lanes * low)
c_span few = record {
  fits = omega arith;
  inside = λ k l. inl (omega arith);
  outside = λ k l m. ⊎_elim (λ p. omega arith) (λ p. omega (arith, p));
  apart = λ k l. inl (omega arith);
}

pub d_span : {low high : ℕ} → low ≤ 8 → high ≤ 16 → Span low high second 256 (lanes * high)
d_span few many = record {
  fits = omega arith;
  inside = λ k l. inr (omega arith, omega arith);
  outside = λ k l m. ⊎_elim (λ p. omega arith) (λ p. omega (arith, p));
  apart = λ k l. inr (⊎_elim (λ p. omega arith) (λ p. omega (arith, p)));
}

-- ---- as series

pub behind-at : (b : List ℕ) (k : ℕ) → behind b k ≡ element (get_or b (margin + k) 0)
unfolding behind
behind-at b k = places-at b (margin + k)

-- what is read below b's first coefficient is zero
shifted_at : (n : ℕ) (b : List ℕ) (k : ℕ) → HasMargin b → n ≤ margin → element (get_or b (margin + k - n) 0) ≡ raised elements n (behind b) k
shifted_at n b k h l = elim (dec_lt k n) [
  | yes p ↦ ap element (h (margin + k - n) (omega arith)) ∙ element-zero ∙ sym (raised-low elements n (behind b) k p)
  | no p ↦ (let e : margin + k - n ≡ margin + (k - n) = omega arith in
      ap (λ (i : ℕ). element (get_or b i 0)) e ∙ sym (raised_high elements n (behind b) k (omega arith) ∙ behind-at b (k - n)))
]

module _ {low high o w hi n a q : ℕ} {z v z' : List ℕ} (span : Span low high o w hi) (h : Mended low high 0 n a q z v z')
    (margins : HasMargin (part o (margin + w) v)) (small : n ≤ margin) where
  pub mended-at : (k : ℕ) → k < hi
      → places (part o w z') k ≡ element a ⊙ places (part o w z) k ⊕ element q ⊙ raised elements n (behind (part o (margin + w) v)) k
  mended-at k m =
      let f : margin + (o + k) - n ≡ o + (margin + k - n) = omega arith in
      places-at (part o w z') k ∙ ap element (part_at o w k z' (omega (arith, span.fits)) ∙ h.done (o + k) (omega arith) (span.inside k m)) ∙ element-sum _ _
      ∙ ap₂ (λ (x y : F). x ⊕ y)
      (element-product a _ ∙ ap (λ (x : F). element a ⊙ x) (ap element (sym (part_at o w k z (omega (arith, span.fits)))) ∙ sym (places-at (part o w z) k)))
      (element-product q _ ∙ ap (λ (x : F). element q ⊙ x)
      (ap element (ap (λ (t : ℕ). get_or v t 0) f ∙ sym (part_at o (margin + w) (margin + k - n) v (omega (arith, span.fits)))) ∙ shifted_at n (part o (margin + w) v) k margins small))

  pub mended-whole : ((k : ℕ) → hi ≤ k → places (part o w z) k ≡ 𝟘) → ((k : ℕ) → hi ≤ k → raised elements n (behind (part o (margin + w) v)) k ≡ 𝟘)
      → places (part o w z') ≡ element a ⊡ places (part o w z) ⊞ element q ⊡ raised elements n (behind (part o (margin + w) v))
  mended-whole cz bz = fun_ext (λ k. go k (dec_le hi k) ∙ sym (⊞-at elements _ _ k ∙ ap₂ (λ (x y : F). x ⊕ y) (⊡-at elements _ _ k) (⊡-at elements _ _ k)))
    where
      go : (k : ℕ) → Dec (hi ≤ k)
          → places (part o w z') k ≡ element a ⊙ places (part o w z) k ⊕ element q ⊙ raised elements n (behind (part o (margin + w) v)) k
      go k (no m) = mended-at k (omega arith)
      go k (yes m) =
          places-at (part o w z') k ∙ ap element (part_same o w k z' z (λ l. h.left (o + k) (inr (span.outside k m l)))) ∙ sym (places-at (part o w z) k) ∙ cz k m
          ∙ sym (rw (cz k m, bz k m, ⊙-𝟘 elements (element a), ⊙-𝟘 elements (element q)) (⊕-𝟘 elements 𝟘))

module _ {low high o w hi : ℕ} {z v v' : List ℕ} (span : Span low high o w hi) (h : Kept true low high 0 z v v') where
  pub kept_at : (k : ℕ) → k < hi → behind (part o (margin + w) v') k ≡ places (part o w z) k
  kept_at k m =
      let f : o + (margin + k) ≡ margin + (o + k) = omega arith in
      behind-at (part o (margin + w) v') k
      ∙ ap element (part_at o (margin + w) (margin + k) v' (omega (arith, span.fits)) ∙ ap (λ (t : ℕ). get_or v' t 0) f
      ∙ h.done refl (o + k) (omega arith) (span.inside k m) ∙ sym (part_at o w k z (omega (arith, span.fits)))) ∙ sym (places-at (part o w z) k)

  pub kept_whole : ((k : ℕ) → hi ≤ k → places (part o w z) k ≡ 𝟘) → ((k : ℕ) → hi ≤ k → behind (part o (margin + w) v) k ≡ 𝟘)
      → behind (part o (margin + w) v') ≡ places (part o w z)
  kept_whole cz bz = fun_ext (λ k. elim (dec_le hi k) [
    | yes m ↦ behind-at (part o (margin + w) v') k ∙ ap element (part_same o (margin + w) (margin + k) v' v (λ l. stays k m (omega arith)))
        ∙ sym (behind-at (part o (margin + w) v) k) ∙ bz k m ∙ sym (cz k m)
    | no m ↦ kept_at k (omega arith)
  ])
    where
      stays : (k : ℕ) → hi ≤ k → k < w → get_or v' (o + (margin + k)) 0 ≡ get_or v (o + (margin + k)) 0
      stays k m l = let f : o + (margin + k) - margin ≡ o + k = omega arith in h.left (o + (margin + k)) (inr (rw f (span.outside k m l)))

  pub kept-margin : HasMargin (part o (margin + w) v) → HasMargin (part o (margin + w) v')
  kept-margin margins k l = part_same o (margin + w) k v' v (λ m. h.left (o + k) (span.apart k l)) ∙ margins k l
