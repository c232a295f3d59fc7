-- The steps of Berlekamp and Massey's algorithm, on octets.
--
--   massey_start      before the first syndrome
--   massey-zero       no discrepancy
--   massey_keep       mended at the same length
--   massey_grow       mended, and longer
--   massey-far        how long it would be
--   stepped, stepped-far   a step to a state, and to a length alone
--   located_near, located-far   what is known after the last
--   located-copied    .. of what is handed over
--
-- Assumes nothing.
use mathlib.Core.Path.{◌≡◌, refl, sym, ap, ap₂, fun_ext, ◌∙◌}
use mathlib.Core.Logic.{◌≢◌, inl}
use mathlib.Core.Bool.{true}
use mathlib.Core.List.{List}
use Prim.Native.Nat.{ℕ, zero, suc, ◌+◌, ◌*◌, ◌-◌, ◌≤◌, ◌<◌}
use native.Mathlib.Numerals.{add-one}
use native.Mathlib.Omega.{arith}
use native.Mathlib.Decide.{dec_lt}
use lib.ListN.{length, get_or, set, replicate, length-replicate}
use lib.Seq.{get_or-set_same, get_or-set_other}
use Rattle.octets.specs.Written.{written, written-length, written_inside, written_outside, written_all}
use Rattle.algebra.specs.Series.{Series, operations}
use Rattle.algebra.specs.Polynomial.{raised}
use Rattle.algebra.specs.Massey.{Least, ScaledState}
use Rattle.algebra.proofs.Laws.{unit-zero, unit-suc, unit-⊛, mixed-⊛, raised-zero, raised-suc, raised_high, raised-⊛, raised_local}
use Rattle.algebra.proofs.Laws.{scaled_start, scaled_below, scaled-zero, scaled_keep, scaled_grow}
use Rattle.field.specs.Octet as Octet
use Rattle.codeword.specs.Element.{elements, element}
use Rattle.codeword.specs.Element.Laws.{element-zero, element_one, element-ne}
use Rattle.codeword.specs.CodeWord.{longest_word}
use Rattle.codeword.specs.Places.{places}
use Rattle.codeword.specs.Lanes.{lanes}
use Rattle.codeword.specs.Locator.{margin, behind, ProductTo, second, room, part, of_c, of_d, of_b, MasseyStateIs, Mended, Kept, Stepped, LocatorIs, EvaluatorIs}
use Rattle.codeword.specs.Register.{Padded}
use Rattle.codeword.proofs.Arrays.{replicate-at}
use Rattle.codeword.proofs.Word.{places-at}
use Rattle.codeword.proofs.Mending.{part_at, part-long, part-past, behind-at, c_span, d_span, mended-at, mended-whole, kept_at, kept_whole, kept-margin}

infixl 60 ◌⊕◌ ◌⊞◌
infixl 70 ◌⊙◌ ◌⊛◌
infixr 80 ◌⊡◌
open elements use {Carrier as F, add as ◌⊕◌, mul as ◌⊙◌, nil as 𝟘}
open operations elements use {◌⊞◌, ◌⊡◌, ◌⊛◌, unit, sh}

-- ---- before the first syndrome

-- an array of zeros, with the syndromes from o on and 1 at place i below
module _ (s : List ℕ) (u o i : ℕ) (fits : o + length s ≤ u) (below : i < o) {x : List ℕ} (x-is : x ≡ written (replicate u 0) o s) where
  room-u : o + length s ≤ length (replicate {A = ℕ} u 0)
  room-u = rw length-replicate fits

  x-long : length x ≡ u
  x-long = ap length x-is ∙ written-length (replicate u 0) o s room-u ∙ length-replicate u 0

  first-zero : (k : ℕ) → k < o → k ≢ i → get_or (set x i 1) k 0 ≡ 0
  first-zero k l ne =
      get_or-set_other x i k 1 0 ne ∙ ap (λ (y : List ℕ). get_or y k 0) x-is ∙ written_outside (replicate u 0) o s room-u k 0 (inl l) ∙ replicate-at u k

  -- the polynomial 1
  first-unit : (n : ℕ) → i < n → n ≤ o → (k : ℕ) → element (get_or (part 0 n (set x i 1)) (i + k) 0) ≡ unit k
  first-unit n l m zero =
      let e : 0 + (i + 0) ≡ i = omega arith in
      ap element (part_at 0 n (i + 0) (set x i 1) (omega arith) ∙ (rw e (get_or-set_same x i 1 0 (omega (arith, x-long))))) ∙ element_one ∙ sym (unit-zero elements)
  first-unit n l m (suc k) = ap element (elim (dec_lt (i + suc k) n) [
    | yes p ↦ part_at 0 n (i + suc k) (set x i 1) p ∙ first-zero (0 + (i + suc k)) (omega arith) (omega arith)
    | no p ↦ part-past 0 n (i + suc k) (set x i 1) (omega arith)
  ]) ∙ element-zero ∙ sym (unit-suc elements k)

  first-syndrome : (f n g k : ℕ) → f + g ≡ o → g + k < n → k < length s → element (get_or (part f n (set x i 1)) (g + k) 0) ≡ places s k
  first-syndrome f n g k e l m =
      let j : f + (g + k) ≡ o + k = omega arith in
      ap element (part_at f n (g + k) (set x i 1) l ∙ (rw j (get_or-set_other x i (o + k) 1 0 (omega arith)
      ∙ ap (λ (y : List ℕ). get_or y (o + k) 0) x-is ∙ written_inside (replicate u 0) o s room-u k 0 m))) ∙ sym (places-at s k)

module _ {m : ℕ} (s : List ℕ) {z v : List ℕ} (long : length s ≡ longest_word) (few : m < longest_word) (z-is : z ≡ written (replicate room 0) second s)
    (v-is : v ≡ written (replicate (margin + room) 0) (margin + second) s) where
  fits_z : second + length s ≤ room
  fits_z = omega arith

  fits_v : margin + second + length s ≤ margin + room
  fits_v = omega arith

  one-places : places (of_c (set z 0 1)) ≡ unit
  one-places = fun_ext (λ k. let e : k ≡ 0 + k = omega arith in places-at _ k ∙ ap (λ (i : ℕ). element (get_or (of_c (set z 0 1)) i 0)) e
      ∙ first-unit s room second 0 fits_z (omega arith) z-is 128 (omega arith) (omega arith) k)

  one-behind : behind (of_b (set v margin 1)) ≡ unit
  one-behind = fun_ext (λ k. behind-at _ k ∙ first-unit s _ _ margin fits_v (omega arith) v-is _ (omega arith) (omega arith) k)

  v-zero : (k : ℕ) → k < margin + second → k ≢ margin → get_or (set v margin 1) k 0 ≡ 0
  v-zero = first-zero s (margin + room) (margin + second) margin fits_v (omega arith) v-is

  product_one : {f : Series elements} → f ≡ unit → (k : ℕ) → places s k ≡ (f ⊛ places s) k
  product_one e k = ap (λ (g : Series elements). g k) (sym (ap (λ (f : Series elements). f ⊛ places s) e ∙ unit-⊛ elements (places s)))

  pub massey_start : MasseyStateIs m s (set z 0 1) (set v margin 1) 0 0 1 1
  massey_start = record {
    shift_small = omega arith;
    product = λ k l. let e : k ≡ 0 + k = omega arith in places-at _ k ∙ ap (λ (i : ℕ). element (get_or (of_d (set z 0 1)) i 0)) e
        ∙ first-syndrome s room second 0 fits_z (omega arith) z-is second 256 0 k (omega arith) (omega arith) (omega arith) ∙ product_one one-places k;
    b_margin = λ k l. part_at 0 (margin + 128) k (set v margin 1) (omega arith) ∙ v-zero (0 + k) (omega arith) (omega arith);
    t_margin = λ k l. part_at second (margin + 256) k (set v margin 1) (omega arith) ∙ v-zero (second + k) (omega arith) (omega arith);
    earlier = λ k l. behind-at _ k
        ∙ first-syndrome s _ _ margin fits_v (omega arith) v-is second (margin + 256) margin k (omega arith) (omega arith) (omega arith)
        ∙ product_one one-behind k;
    state = rw (one-places, one-behind, raised-suc elements 0 unit, raised-zero elements unit, element_one) (scaled_start elements (places s));
  }

-- ---- one step

module _ {m r l shift q x : ℕ} {s z v : List ℕ} (h : MasseyStateIs m s z v r l shift q) (x-is : x ≡ get_or z (second + r) 0) (now : r < m) (small : m ≤ margin) where
  x-element : element x ≡ (places (of_c z) ⊛ places s) r
  x-element = ap element (x-is ∙ sym (part_at second 256 r z (omega arith))) ∙ sym (places-at (of_d z) r) ∙ h.product r now

  -- the length stays
  kept : {z' : List ℕ} → ProductTo m s (places (of_c z')) (places (of_d z'))
      → ScaledState elements (places s) (places (of_c z')) (sh (raised elements shift (behind (of_b v)))) (suc r) l (element q)
      → MasseyStateIs m s z' v (r + 1) l (shift + 1) q
  kept p st = rw (add-one r, add-one shift) (record {
    shift_small = omega (arith, h.shift_small);
    product = p;
    b_margin = h.b_margin;
    t_margin = h.t_margin;
    earlier = h.earlier;
    state = rw raised-suc st;
  })

  pub massey-zero : x ≡ 0 → MasseyStateIs m s z v (r + 1) l (shift + 1) q
  massey-zero e = kept h.product (scaled-zero elements h.state (sym x-element ∙ ap element e ∙ element-zero))

  shift_fits : shift ≤ margin
  shift_fits = omega (arith, h.shift_small)

  -- b, not yet shifted, is as short
  b_short : (k : ℕ) → suc r < k + l → behind (of_b v) k ≡ 𝟘
  b_short k o =
      let e : k + shift - shift ≡ k = omega arith in
      ap (behind (of_b v)) (sym e) ∙ sym (raised_high elements shift (behind (of_b v)) (k + shift) (omega arith)) ∙ h.state.state.b_below (k + shift) (omega arith)

  -- mended, as far as the blocks go: nothing of c and b lies beyond
  module _ {low high : ℕ} {z' : List ℕ} (low-few : low ≤ 8) (high-few : high ≤ 16) (mended : Mended low high 0 shift q x z v z') (all : m ≤ lanes * high)
      (long : l < lanes * low) (far : suc r < lanes * low + l) where
    c-beyond : (k : ℕ) → lanes * low ≤ k → places (of_c z) k ≡ 𝟘
    c-beyond k o = scaled_below elements h.state k (omega arith)

    c_is : places (of_c z') ≡ element q ⊡ places (of_c z) ⊞ element x ⊡ raised elements shift (behind (of_b v))
    c_is = mended-whole (c_span low-few) mended h.b_margin shift_fits c-beyond (λ k o. h.state.state.b_below k (omega arith))

    d-is : ProductTo m s (places (of_c z')) (places (of_d z'))
    d-is k o =
        mended-at (d_span low-few high-few) mended h.t_margin shift_fits k (omega arith)
        ∙ ap₂ (λ (y z : F). element q ⊙ y ⊕ element x ⊙ z) (h.product k o)
        (raised_local elements shift m _ _ h.earlier k o ∙ ap (λ (f : Series elements). f k) (sym (raised-⊛ elements shift (behind (of_b v)) (places s))))
        ∙ sym (ap (λ (f : Series elements). (f ⊛ places s) k) c_is ∙ mixed-⊛ elements _ _ _ _ _ k)

    pub massey_keep : r < l + l → {v' : List ℕ} → v' ≡ v → MasseyStateIs m s z' v' (r + 1) l (shift + 1) q
    massey_keep e same = rw same (kept d-is (rw (c_is, x-element) (scaled_keep elements h.state e)))

    module _ (octet : x < Octet.size) (ne : x ≢ 0) (e : l + l ≤ r) {v' : List ℕ} (saved : Kept true low high 0 z v v') where
      b-is : behind (of_b v') ≡ places (of_c z)
      b-is = kept_whole (c_span low-few) saved c-beyond (λ k o. b_short k (omega arith))

      pub massey_grow : MasseyStateIs m s z' v' (r + 1) (r + 1 - l) 1 x
      massey_grow = rw (add-one r) (record {
        shift_small = omega arith;
        product = d-is;
        b_margin = kept-margin (c_span low-few) saved h.b_margin;
        t_margin = kept-margin (d_span low-few high-few) saved h.t_margin;
        earlier = λ k o. kept_at (d_span low-few high-few) saved k (omega arith) ∙ h.product k o ∙ ap (λ (f : Series elements). (f ⊛ places s) k) (sym b-is);
        state = rw (raised-suc elements 0 (behind (of_b v')), raised-zero elements (behind (of_b v')), b-is, c_is, x-element)
            (scaled_grow elements h.state (λ z. element-ne x octet ne (x-element ∙ z)) e);
      })

  pub massey-far : x < Octet.size → x ≢ 0 → l + l ≤ r → Least elements (r + 1) (r + 1 - l) (places s)
  massey-far octet ne e = rw (add-one r) (scaled_grow elements h.state (λ z. element-ne x octet ne (x-element ∙ z)) e).state.least

module _ {e r : ℕ} {z v : List ℕ} {l shift q : ℕ} {z' v' : List ℕ} {l' shift' q' : ℕ} where
  pub stepped : length z' ≡ length z → ((s : List ℕ) → MasseyStateIs (2 * e) s z v r l shift q → MasseyStateIs (2 * e) s z' v' (r + 1) l' shift' q')
      → Stepped e r z v l shift q z' v' l' shift' q'
  stepped e f = record {
    long = e;
    least = λ s h. (f s h).state.state.least;
    below = λ s h. scaled_below elements (f s h).state;
    next = λ s h o. f s h;
  }

pub stepped-far : {e r x : ℕ} {z v : List ℕ} {l shift q : ℕ} → x ≡ get_or z (second + r) 0 → r < 2 * e → 2 * e ≤ margin → x < Octet.size → x ≢ 0 → l + l ≤ r
    → e < r + 1 - l → Stepped e r z v l shift q z v (r + 1 - l) shift q
stepped-far x-is now small octet ne few far = record {
  long = refl;
  least = λ s h. massey-far h x-is now small octet ne few;
  below = λ s h k o. scaled_below elements h.state k (omega arith);
  next = λ s h o. absurd (omega arith);
}

-- ---- after the last

pub located_near : {m r l shift q : ℕ} {s z v : List ℕ} → r ≡ m → MasseyStateIs m s z v r l shift q → LocatorIs m s (of_c z) l × EvaluatorIs m s (of_c z) (of_d z) l
located_near {m} {r} {l} {shift} {q} {s} {z} {v} e h = (
  record {
    least = rw e at h.state.state.least;
    below = scaled_below elements h.state;
    located = λ o. record { B = raised elements shift (behind (of_b v)); q = element q; state = rw e at h.state };
  },
  record { product = λ o. h.product },
)

pub located-far : {e r l shift q l' shift' q' : ℕ} {z v z' v' : List ℕ} (s : List ℕ) → r < 2 * e → e < l'
    → MasseyStateIs (2 * e) s z v r l shift q → Stepped e r z v l shift q z' v' l' shift' q'
    → LocatorIs (2 * e) s (of_c z') l' × EvaluatorIs (2 * e) s (of_c z') (of_d z') l'
located-far s now far h st = (
  record {
    least = λ v Λ o d a. st.least s h v Λ o d (λ k p u. a k p (omega arith));
    below = st.below s h;
    located = λ o. absurd (omega arith);
  },
  record { product = λ o. absurd (omega arith) },
)

-- what was found, copied out of the array
pub located-copied : (z : List ℕ) {m l : ℕ} {s c d : List ℕ} → length z ≡ room → Padded longest_word (of_c z) c → d ≡ written (replicate 256 0) 0 (of_d z)
    → LocatorIs m s (of_c z) l × EvaluatorIs m s (of_c z) (of_d z) l → LocatorIs m s c l × EvaluatorIs m s c d l
located-copied z {m} {l} {s} {c} {d} long copied d-written h = (
  record {
    least = h.0.least;
    below = rw c-same h.0.below;
    located = λ o. let p = h.0.located o in record { B = p.B; q = p.q; state = rw c-same p.state };
  },
  record { product = λ o. rw (c-same, d-same) (h.1.product o) },
)
  where
    d-same : d ≡ of_d z
    d-same = d-written ∙ written_all (replicate 256 0) (of_d z) (length-replicate {A = ℕ} 256 0 ∙ sym (part-long second 256 z (omega arith)))

    c-same : places c ≡ places (of_c z)
    c-same = fun_ext (λ k. places-at c k ∙ ap element (copied.entry k) ∙ sym (places-at (of_c z) k))
