-- The remainder by interpolation at the generator's roots.
--
--   horned e h y                              Horner's rule for the generator's odd coefficients at y, after the h highest of them
--   values_start, values-next, values-end     the derivative's values, one coefficient after another
--   added_start, added_next                   one coefficient of 16 parts after another
--   Quotients m i x a                         a are coefficient m - i of the parts at x
--   quotients_start, quotients-next           .. which come by synthetic division
--   interpolates_start, interpolates-next     16 parts after 16 others
--   interpolates-end                          all of them: the remainder
--
-- Assumes nothing.
use mathlib.Core.Path.{◌≡◌, refl, sym, ap, ap₂, fun_ext, ◌∙◌, subst}
use mathlib.Core.List.{List}
use Prim.Native.Nat.{ℕ, suc, ◌+◌, ◌-◌, ◌*◌, ◌≤◌, ◌<◌}
use native.Mathlib.Omega.{arith}
use native.Mathlib.Decide.{dec_lt}
use lib.Dec.{lit<}
use lib.ListN.{length, get_or, set, take, replicate, length-set}
use lib.Seq.{get_or-set_other}
use Rattle.algebra.specs.Series.{Series}
use Rattle.algebra.specs.Points.{Distinct}
use Rattle.algebra.specs.Polynomial.{polynomial, Remainder}
use Rattle.algebra.specs.Value.{ev, from}
use Rattle.algebra.specs.Derivative.{odds}
use Rattle.algebra.specs.Interpolation.{quo, total, part, interpolated}
use Rattle.algebra.proofs.Laws.{⊕-comm, ⊙-comm, ⊙-assoc, ⊙_inv, ⊙-𝟙, ⊙-𝟘, ev_zero, from_zero, horner, below-rooted, quo-next, below-quo, odds-at, rising-at}
use Rattle.algebra.proofs.Laws.{total-zero, total-same, total_more, part-is, part_value, part-ne, interpolated-at, interpolated-remainder}
use Rattle.field.specs.Octet as Octet
use Rattle.field.specs.Octet.Laws.{sum_octet, product_octet}
use Rattle.codeword.specs.Element.{elements, element, α}
use Rattle.codeword.specs.Element.Laws.{element-sum, element-product, element-inverse, element-zero}
use Rattle.codeword.proofs.Element.Laws.{element-power}
use Rattle.codeword.specs.CodeWord.{longest_word, word}
use Rattle.codeword.specs.Places.{value}
use Rattle.codeword.specs.Syndromes.{SyndromesAre}
use Rattle.codeword.specs.Lanes.{lanes, Lanes, along, Summed}
use Rattle.codeword.specs.Register.{Padded, G, ones, GeneratorIs, RemainderIs}
use Rattle.codeword.specs.Interpolation.{points, ElementLanes, divisor, share, PartsAdded, Interpolates}
use Rattle.codeword.proofs.Arrays.{replicate-at, zeros, zeros-at, zeros_octets, octets-set, set_below}
use Rattle.codeword.proofs.Word.{below_word}
use Rattle.codeword.proofs.Criterion.{rising-distinct}
use Rattle.codeword.proofs.Parity.{padded-word, stretch-at, below_stretch}

infixl 60 ◌⊕◌
infixl 70 ◌⊙◌
open elements use {Carrier as F, add as ◌⊕◌, mul as ◌⊙◌, inv, nil as 𝟘, one as 𝟙}

-- ---- the derivative's values

-- Horner's rule on its way down, at y
abbrev pub horned : ℕ → ℕ → F → F
horned e h y = ev elements h (from elements (e - h) (odds elements (G (2 * e)))) y

pub values_start : (e : ℕ) (y : List ℕ) → ElementLanes (λ k. horned e 0 (element (get_or y k 0))) (replicate lanes 0)
values_start e y = record {
  octet = λ k l. rw (replicate-at lanes k) (lit< tt);
  is = λ k l. ap element (replicate-at lanes k) ∙ element-zero ∙ sym (ev_zero elements _ _);
}

pub values-next : (e h : ℕ) {c : ℕ} {g : List ℕ} (y : List ℕ) {d n : List ℕ} → h < e → GeneratorIs (2 * e) g → c ≡ get_or g (suc ones + 2 * h) 0
    → c < Octet.size → Lanes (λ k. Octet.sum (Octet.product (get_or y k 0) (get_or d k 0)) c) n
    → ElementLanes (λ k. horned e h (element (get_or y k 0))) d → ElementLanes (λ k. horned e (h + 1) (element (get_or y k 0))) n
values-next e h {c} {g} y {d} {n} l gi ec small ln v = record {
  octet = λ k b. rw (ln.entry k b) (sum_octet _ _ (product_octet _ _) small);
  is = λ k b.
      ap element (ln.entry k b) ∙ element-sum _ _
      ∙ ap₂ (λ (p q : F). p ⊕ q) (element-product _ _ ∙ ap (λ (q : F). element (get_or y k 0) ⊙ q) (v.is k b)) coefficient
      ∙ ⊕-comm elements _ _ ∙ sym (step (element (get_or y k 0)));
}
  where
    f : Series elements
    f = odds elements (G (2 * e))

    coefficient : element c ≡ f (e - suc h)
    coefficient =
        let p : suc ones + 2 * h ≡ ones + suc (2 * h) = omega arith in
        let q : 2 * e - suc (2 * h) ≡ 2 * (e - suc h) + 1 = omega arith in
        ap element (ec ∙ ap (λ (j : ℕ). get_or g j 0) p) ∙ gi.coefficients (suc (2 * h)) (omega arith) ∙ ap (G (2 * e)) q ∙ sym (odds-at elements _ _)

    step : (x : F) → horned e (h + 1) x ≡ f (e - suc h) ⊕ x ⊙ horned e h x
    step x =
        let p : e - (h + 1) ≡ e - suc h = omega arith in
        let q : h + 1 ≡ e - (e - suc h) = omega arith in
        let r : e - suc (e - suc h) ≡ h = omega arith in
        let t : suc (e - suc h) ≡ e - h = omega arith in
        ap₂ (λ (a b : ℕ). ev elements a (from elements b f) x) q p
        ∙ horner elements e (e - suc h) f x (omega arith)
        ∙ ap₂ (λ (a b : ℕ). f (e - suc h) ⊕ x ⊙ ev elements a (from elements b f) x) r t

pub values-end : (e : ℕ) (x y : List ℕ) {d : List ℕ} → Lanes (λ k. Octet.product (get_or x k 0) (get_or x k 0)) y
    → ElementLanes (λ k. horned e e (element (get_or y k 0))) d → ElementLanes (λ k. divisor e (element (get_or x k 0))) d
values-end e x y ly v = record {
  octet = v.octet;
  is = λ k b.
      let z : e - e ≡ 0 = omega arith in
      v.is k b ∙ ap (λ (j : ℕ). ev elements e (from elements j (odds elements (G (2 * e)))) (element (get_or y k 0))) z
      ∙ ap₂ (ev elements e) (from_zero elements _) (ap element (ly.entry k b) ∙ element-product _ _);
}

-- ---- 16 parts, a coefficient after another

abbrev pub Quotients : ℕ → ℕ → List ℕ → List ℕ → Type 0
Quotients m i x a = (k : ℕ) → k < lanes → element (get_or a k 0) ≡ quo elements m (G m) (element (get_or x k 0)) (m - i)

pub quotients_start : (m : ℕ) (x : List ℕ) → Quotients m 0 x (replicate lanes 0)
quotients_start m x k l =
    ap element (replicate-at lanes k) ∙ element-zero ∙ sym (below-quo elements m (G m) _ (m - 0) (omega arith))

pub quotients-next : (m i : ℕ) {c : ℕ} {g : List ℕ} (x a : List ℕ) {n : List ℕ} → i < m → GeneratorIs m g → c ≡ get_or g (ones + i) 0
    → Lanes (λ k. Octet.sum (Octet.product (get_or x k 0) (get_or a k 0)) c) n → Quotients m i x a → Quotients m (i + 1) x n
quotients-next m i {c} {g} x a {n} l gi ec ln v k o =
    let p : suc (m - (i + 1)) ≡ m - i = omega arith in
    ap element (ln.entry k o) ∙ element-sum _ _
    ∙ ap₂ (λ (y z : F). y ⊕ z) (element-product _ _ ∙ ap (λ (y : F). element (get_or x k 0) ⊙ y) (v k o))
    (ap element ec ∙ gi.coefficients i (omega arith))
    ∙ ⊕-comm elements _ _
    ∙ sym (quo-next elements m (G m) (element (get_or x k 0)) (below-rooted elements m _) (m - (i + 1))
    ∙ ap₂ (λ (r s : ℕ). G m r ⊕ element (get_or x k 0) ⊙ quo elements m (G m) (element (get_or x k 0)) s) p p)

pub added_start : {m : ℕ} {x w p : List ℕ} → PartsAdded 0 m x w p p
added_start = record { long = refl; octets = λ o. o; done = λ i l. absurd (omega arith); rest = λ i l. refl }

pub added_next : {i m t v : ℕ} {x w n p₀ p : List ℕ} → i < length p₀ → PartsAdded i m x w p₀ p → Quotients m (i + 1) x n → Summed lanes w n t
    → v ≡ Octet.sum (get_or p i 0) t → PartsAdded (i + 1) m x w p₀ (set p i v)
added_next {i} {m} {t} {v} {x} {w} {n} {p₀} {p} l h q st e = record {
  long = length-set p i v ∙ h.long;
  octets = λ o. octets-set p i v (rw e (sum_octet _ _ (h.octets o i) st.octet)) (h.octets o);
  done = set_below (λ j y. element y ≡ element (get_or p₀ j 0) ⊕ total elements lanes (λ k. term k (m - suc j))) p i v (omega (arith, h.long)) h.done new;
  rest = λ j o. get_or-set_other p i j v 0 (omega arith) ∙ h.rest j (omega arith);
}
  where
    term : ℕ → ℕ → F
    term k c = element (get_or w k 0) ⊙ quo elements m (G m) (element (get_or x k 0)) c

    new : element v ≡ element (get_or p₀ i 0) ⊕ total elements lanes (λ k. term k (m - suc i))
    new =
        let z : m - (i + 1) ≡ m - suc i = omega arith in
        ap element e ∙ element-sum _ _
        ∙ ap₂ (λ (y z : F). y ⊕ z) (ap element (h.rest i (omega arith)))
        (st.sum ∙ total-same elements lanes _ _ (λ k o. ap (λ (y : F). element (get_or w k 0) ⊙ y)
        (q k o ∙ ap (quo elements m (G m) (element (get_or x k 0))) z)))

-- ---- all parts

pub interpolates_start : {e : ℕ} {s : List ℕ} → Interpolates e 0 s zeros
interpolates_start = record {
  long = refl;
  octets = zeros_octets;
  used = λ i l. ap element (zeros-at i) ∙ element-zero ∙ sym (interpolated-at elements _ _ 0 _ _ ∙ total-zero elements _);
  unused = λ i l. zeros-at i;
}

point_at : (x : List ℕ) (o : ℕ) → Lanes (along (o + 1)) x → (k : ℕ) → k < lanes → element (get_or x k 0) ≡ points (o + k)
point_at x o lx k l =
    let z : o + 1 + k ≡ suc (o + k) = omega arith in
    ap element (lx.entry k l ∙ ap (Octet.power Octet.α) z) ∙ element-power (suc (o + k)) ∙ sym (rising-at elements α (o + k))

pub interpolates-next : (e o : ℕ) {x d v w s p q : List ℕ} → Lanes (along (o + 1)) x
    → ElementLanes (λ k. divisor e (element (get_or x k 0))) d → Lanes (λ k. get_or s (o + k) 0) v
    → Lanes (λ k. Octet.product (get_or v k 0) (Octet.inverse (get_or d k 0))) w → PartsAdded (2 * e) (2 * e) x w p q → Interpolates e o s p
    → Interpolates e (o + lanes) s q
interpolates-next e o {x} {d} {v} {w} {s} {p} {q} lx vd lv lw h t = record {
  long = h.long ∙ t.long;
  octets = h.octets t.octets;
  used = λ i l.
      h.done i l ∙ ap₂ (λ (y z : F). y ⊕ z) (t.used i l ∙ interpolated-at elements m points o (share e s) (m - suc i))
      (total-same elements lanes _ _ (term (m - suc i)))
      ∙ sym (interpolated-at elements m points (o + lanes) (share e s) (m - suc i) ∙ total_more elements o lanes _);
  unused = λ i l. h.rest i l ∙ t.unused i l;
}
  where
    m : ℕ
    m = 2 * e

    taken : (k : ℕ) → k < lanes → element (get_or w k 0) ≡ share e s (o + k)
    taken k l =
        ap element (lw.entry k l) ∙ element-product _ _
        ∙ ap₂ (λ (y z : F). y ⊙ z) (ap element (lv.entry k l))
        (element-inverse _ (vd.octet k l) ∙ ap inv (vd.is k l ∙ ap (divisor e) (point_at x o lx k l)))

    term : (c k : ℕ) → k < lanes → element (get_or w k 0) ⊙ quo elements m (G m) (element (get_or x k 0)) c ≡ share e s (o + k) ⊙ part elements m points (o + k) c
    term c k l =
        ap₂ (λ (y z : F). y ⊙ z) (taken k l)
        (ap (λ (y : F). quo elements m (G m) y c) (point_at x o lx k l) ∙ ap (λ (f : Series elements). f c) (sym (part-is elements m points (o + k))))

pub interpolates-end : (e o : ℕ) (u w s p : List ℕ) → length u + 2 * e ≤ longest_word → 2 * e < longest_word → 2 * e ≤ o → Padded longest_word u w
    → SyndromesAre (2 * e) (take (length u + 2 * e) w) s → Interpolates e o s p → RemainderIs (2 * e) u p
unfolding value
interpolates-end e o u w s p fits small all r sy t = record {
  long = t.long;
  octets = t.octets;
  unused = t.unused;
  remainder = subst (λ (f : Series elements). Remainder elements (G m) m f (polynomial elements (word (take m p)))) (padded-word longest_word m u w fits r)
      (subst (Remainder elements (G m) m (polynomial elements (word word_of))) (fun_ext same) is);
}
  where
    m : ℕ
    m = 2 * e

    word_of : List ℕ
    word_of = take (length u + 2 * e) w

    share-none : (k : ℕ) → m ≤ k → share e s k ≡ 𝟘
    share-none k l = ap (λ (y : F). y ⊙ inv (divisor e (points k))) (ap element (sy.unused k l) ∙ element-zero) ∙ ⊙-comm elements _ _ ∙ ⊙-𝟘 elements _

    distinct : Distinct elements m points
    distinct = rising-distinct m small

    weighed : (k : ℕ) → k < m → share e s k ⊙ ev elements m (part elements m points k) (points k) ≡ ev elements (length word_of) (polynomial elements (word word_of)) (points k)
    weighed k l =
        let D : F = divisor e (points k) in
        let z : ev elements m (part elements m points k) (points k) ≡ D = part_value elements e points k l in
        ap (λ (y : F). share e s k ⊙ y) z ∙ ⊙-assoc elements _ _ _
        ∙ ap (λ (y : F). element (get_or s k 0) ⊙ y) (⊙-comm elements _ _ ∙ ⊙_inv elements D (λ c. part-ne elements m points distinct k l (z ∙ c)))
        ∙ ⊙-𝟙 elements _ ∙ sy.used k l ∙ ap (ev elements (length word_of) (polynomial elements (word word_of))) (sym (rising-at elements α k))

    is : Remainder elements (G m) m (polynomial elements (word word_of)) (interpolated elements m points o (share e s))
    is = interpolated-remainder elements m points distinct o (length word_of) _ (share e s) all (below_word word_of) share-none weighed

    room : 0 + m ≤ length p
    room = omega (arith, t.long)

    same : (c : ℕ) → interpolated elements m points o (share e s) c ≡ polynomial elements (word (take m p)) c
    same c = elim (dec_lt c m) [
      | yes l ↦ (let z : m - suc (0 + (m - suc c)) ≡ c = omega arith in
          sym (stretch-at m 0 p room c l ∙ t.used (0 + (m - suc c)) (omega arith) ∙ ap (interpolated elements m points o (share e s)) z))
      | no l ↦ is.small c (omega arith) ∙ sym (below_stretch m 0 p room c (omega arith))
    ]
