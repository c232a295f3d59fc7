-- The shift register divides in place: what stands behind octet i is the message's remainder so far, with the octets to come.
--
--   padded-word                      the polynomial of the message with m zeros behind
--   lowered_start, lowered-next      one block of a turn after another
--   lowered-end                      .. which changes m octets
--   dividing_start, dividing-next    one turn after another
--   stretch-at, below_stretch        n octets of a list as a polynomial, and its degree
--   dividing-end                     at the end the remainder is left
--
-- Assumes nothing.
use mathlib.Core.Path.{◌≡◌, refl, sym, ap, ap₂, fun_ext, ◌∙◌, subst}
use mathlib.Core.List.{List, [], ◌∷◌, ◌++◌}
use Prim.Native.Nat.{ℕ, zero, suc, ◌+◌, ◌-◌, ◌≤◌, ◌<◌}
use native.Mathlib.Numerals.{add-one}
use native.Mathlib.Omega.{arith}
use native.Mathlib.Decide.{dec_le, dec_lt, ℕ_discrete}
use lib.Dec.{lit<}
use lib.ListN.{length, get_or, take, drop, replicate, length-append, length-replicate, length-drop}
use Rattle.std.proofs.lemmas.List.{get_or_past}
use lib.Seq.{ext_get_or, length-take-le, get_or-take, get_or-drop}
use Rattle.algebra.specs.Series.{Below, operations}
use Rattle.algebra.specs.Polynomial.{polynomial, raised}
use Rattle.algebra.proofs.Laws.{⊕-𝟘, ⊕_self, ⊕-comm, ⊙-𝟙, ⊙-𝟘, ⊞-at, ⊡-at, ⊞_self, divides_nothing, divides-lowered, below-rooted, rooted-top}
use Rattle.algebra.proofs.Laws.{polynomial-at, polynomial-raised, below-polynomial, raised-low, raised_high}
use Rattle.field.specs.Octet as Octet
use Rattle.field.specs.Octet.Laws.{sum_octet, sum_comm, sum-zero, product_octet, product-zero}
use Rattle.codeword.specs.Element.{elements, element}
use Rattle.codeword.specs.Element.Laws.{element-sum, element-product, element-zero}
use Rattle.codeword.specs.CodeWord.{longest_word, word}
use Rattle.codeword.specs.Lanes.{lanes, Lanes, Stored}
use Rattle.codeword.specs.Register.{G, ones, GeneratorIs, RemainderIs, width, Lowered, behind, Dividing, Padded}
use Rattle.codeword.proofs.Arrays.{replicate-at, padded-used, padded-unused}
use Rattle.codeword.proofs.Word.{word-length, word-append, word_at}

infixl 60 ◌⊕◌ ◌⊞◌
infixl 70 ◌⊙◌
infixr 80 ◌⊡◌
open elements use {Carrier as F, add as ◌⊕◌, mul as ◌⊙◌, nil as 𝟘, one as 𝟙}
open operations elements use {◌⊞◌, ◌⊡◌}

-- ---- the message with zeros behind

word-zeros : (m : ℕ) → word (replicate m 0) ≡ replicate m 𝟘
unfolding word
word-zeros zero = refl
word-zeros (suc m) = ap₂ (λ (a : F) (l : List F). a ∷ l) element-zero (word-zeros m)

append_at : (u : List ℕ) (m i : ℕ) → get_or (u ++ replicate m 0) i 0 ≡ get_or u i 0
append_at [] m i = replicate-at m i
append_at (a ∷ u) m zero = refl
append_at (a ∷ u) m (suc i) = append_at u m i

pub padded-word : (z m : ℕ) (u w : List ℕ) → length u + m ≤ z → Padded z u w
    → polynomial elements (word (take (length u + m) w)) ≡ raised elements m (polynomial elements (word u))
padded-word z m u w l r =
    ap (λ (v : List ℕ). polynomial elements (word v)) same ∙ ap (polynomial elements) (word-append u (replicate m 0) ∙ ap (λ (v : List F). word u ++ v) (word-zeros m))
    ∙ polynomial-raised elements (word u) m
  where
    long : length (take (length u + m) w) ≡ length u + m
    long = length-take-le (length u + m) w (omega (arith, r.long))

    same : take (length u + m) w ≡ u ++ replicate m 0
    same = ext_get_or 0 _ _ (long ∙ sym (length-append u (replicate m 0) ∙ ap (λ (n : ℕ). length u + n) (length-replicate {A = ℕ} m 0)))
        (λ i b. get_or-take (length u + m) w i 0 (omega (arith, long)) ∙ r.entry i ∙ sym (append_at u m i))

-- ---- one turn

pub lowered_start : {i : ℕ} {g w : List ℕ} → Lowered 0 i g w w
lowered_start = record { long = refl; done = λ j l. absurd (omega arith); front = λ j l. refl; rest = λ j l. refl }

pub lowered-next : {o i f : ℕ} {g x y a w₀ w v : List ℕ} → f ≡ get_or w₀ i 0 → Lowered o i g w₀ w
    → Lanes (λ k. get_or w (i + 1 + o + k) 0) x → Lanes (λ k. get_or g (suc ones + o + k) 0) y
    → Lanes (λ k. Octet.sum (Octet.product f (get_or y k 0)) (get_or x k 0)) a → Stored lanes (i + 1 + o) a w v → Lowered (o + 16) i g w₀ v
lowered-next {o} {i} {f} {g} {x} {y} {a} {w₀} {w} {v} e h lx ly la st = record {
  long = st.long ∙ h.long;
  done = λ j l. elim (dec_lt j o) [
    | yes p ↦ st.before (suc (i + j)) (omega arith) ∙ h.done j p
    | no p ↦ new j (j - o) (omega arith) (omega arith)
  ];
  front = λ j l. st.before j (omega arith) ∙ h.front j l;
  rest = λ j l. st.behind j (omega arith) ∙ h.rest j (omega arith);
}
  where
    new : (j k : ℕ) → j ≡ o + k → k < lanes
        → get_or v (suc (i + j)) 0 ≡ Octet.sum (Octet.product (get_or w₀ i 0) (get_or g (ones + suc j) 0)) (get_or w₀ (suc (i + j)) 0)
    new j k z l =
        let p : suc (i + j) ≡ i + 1 + o + k = omega arith in
        let q : suc ones + o + k ≡ ones + suc j = omega arith in
        ap (λ (n : ℕ). get_or v n 0) p ∙ st.written k l ∙ la.entry k l
        ∙ ap₂ Octet.sum (ap₂ Octet.product e (ly.entry k l ∙ ap (λ (n : ℕ). get_or g n 0) q))
        (lx.entry k l ∙ ap (λ (n : ℕ). get_or w n 0) (sym p) ∙ h.rest (suc (i + j)) (omega arith))

pub lowered-end : {m o i : ℕ} {g w v : List ℕ} → m ≤ o → o < m + 16 → GeneratorIs m g → Lowered o i g w v → Lowered m i g w v
lowered-end {m} {o} {i} {g} {w} {v} l b gi h = record {
  long = h.long;
  done = λ j c. h.done j (omega arith);
  front = h.front;
  rest = λ j c. elim (dec_le j (i + o)) [ yes p ↦ none j (j - suc (i + m)) (omega arith) (omega arith) | no p ↦ h.rest j (omega arith) ];
}
  where
    none : (j k : ℕ) → j ≡ suc (i + (m + k)) → m + k < o → get_or v j 0 ≡ get_or w j 0
    none j k z c =
        ap (λ (n : ℕ). get_or v n 0) z ∙ h.done (m + k) c
        ∙ ap₂ Octet.sum (ap (Octet.product (get_or w i 0)) (gi.zeros k (omega arith)) ∙ product-zero _) (ap (λ (n : ℕ). get_or w n 0) (sym z))
        ∙ sum_comm 0 _ ∙ sum-zero _

-- ---- one turn after another

module _ (n i : ℕ) (w : List ℕ) (fits : i + n ≤ length w) where
  stretch-long : length (word (take n (drop i w))) ≡ n
  stretch-long = word-length _ ∙ length-take-le n (drop i w) (omega (arith, length-drop i w))

  -- n octets from i on, as a polynomial
  pub stretch-at : (c : ℕ) → c < n → polynomial elements (word (take n (drop i w))) c ≡ element (get_or w (i + (n - suc c)) 0)
  stretch-at c l =
      polynomial-at elements (word (take n (drop i w))) c (rw stretch-long l)
      ∙ (rw (stretch-long, word_at) (ap element (get_or-take n (drop i w) (n - suc c) 0 (omega arith) ∙ get_or-drop i w (n - suc c) 0)))

  pub below_stretch : Below elements n (polynomial elements (word (take n (drop i w))))
  below_stretch = rw stretch-long at (below-polynomial elements (word (take n (drop i w))))

pub dividing_start : (m : ℕ) (u w : List ℕ) → length u + m ≤ longest_word → Padded width u w → Dividing m 0 u w
dividing_start m u w l r = record {
  long = r.long;
  octets = λ j b. rw (r.entry j ∙ get_or_past u j 0 b) (lit< tt);
  divides =
      let z : length u + m - 0 ≡ length u + m = omega arith in
      rw (z, padded-word width m u w (omega arith) r, ⊞_self) (divides_nothing elements (G m));
}

module _ (m i : ℕ) (u g w v : List ℕ) (gi : GeneratorIs m g) (l : i < length u) (all : length u + m ≤ longest_word) (h : Lowered m i g w v)
    (d : Dividing m i u w) where
  -- how many octets there are from i + 1 on, and how far the generator is raised
  abbrev left : ℕ
  left = length u + m - suc i

  abbrev far : ℕ
  far = length u - suc i

  abbrev feedback : F
  feedback = element (get_or w i 0)

  room : suc i + left ≤ length w
  room = omega (arith, d.long)

  room_v : suc i + left ≤ length v
  room_v = omega (arith, d.long, h.long)

  longer : length u + m - i ≡ suc left
  longer = omega arith

  before_at : (c : ℕ) → c ≤ left → behind m i u w c ≡ element (get_or w (i + (left - c)) 0)
  before_at c b =
      let z : suc left - suc c ≡ left - c = omega arith in
      rw longer (stretch-at (suc left) i w (omega (arith, room)) c (omega arith) ∙ ap (λ (n : ℕ). element (get_or w (i + n) 0)) z)

  -- place suc i + j, by the turn
  turned-at : (j : ℕ) → j < left → element (get_or v (suc (i + j)) 0)
      ≡ element (get_or w (suc (i + j)) 0) ⊕ raised elements far (feedback ⊡ G m) (left - suc j)
  turned-at j b = elim (dec_lt j m) [
    | yes p ↦ ap element (h.done j p) ∙ element-sum _ _ ∙ ⊕-comm elements _ _
        ∙ ap (λ (x : F). element (get_or w (suc (i + j)) 0) ⊕ x)
        (element-product _ _ ∙ ap (λ (x : F). feedback ⊙ x) (gi.coefficients (suc j) (omega arith) ∙ ap (G m) (omega arith)) ∙ sym (⊡-at elements feedback (G m) _)
        ∙ sym (raised_high elements far (feedback ⊡ G m) (left - suc j) (omega arith)))
    | no p ↦ ap element (h.rest (suc (i + j)) (omega arith)) ∙ sym (⊕-𝟘 elements _)
        ∙ ap (λ (x : F). element (get_or w (suc (i + j)) 0) ⊕ x) (sym (raised-low elements far (feedback ⊡ G m) (left - suc j) (omega arith)))
  ]

  lowered-at : (c : ℕ) → behind m (suc i) u v c ≡ (behind m i u w ⊞ raised elements far (feedback ⊡ G m)) c
  lowered-at c = sym (⊞-at elements _ _ c ∙ sym (go (dec_lt c left) (ℕ_discrete c left)))
    where
      go : Dec (c < left) → Dec (c ≡ left) → behind m (suc i) u v c ≡ behind m i u w c ⊕ raised elements far (feedback ⊡ G m) c
      go (yes p) e =
          let j : ℕ = left - suc c in
          let a : left - c ≡ suc j = omega arith in
          let b : left - suc j ≡ c = omega arith in
          let s : i + suc j ≡ suc (i + j) = omega arith in
          let t : suc i + j ≡ suc (i + j) = omega arith in
          stretch-at left (suc i) v room_v c p ∙ ap (λ (n : ℕ). element (get_or v n 0)) t ∙ turned-at j (omega arith)
          ∙ ap₂ (λ (x y : F). x ⊕ y) (sym (before_at c (omega arith) ∙ ap (λ (n : ℕ). element (get_or w n 0)) (ap (λ (n : ℕ). i + n) a ∙ s)))
          (ap (raised elements far (feedback ⊡ G m)) b)
      go (no p) (yes e) =
          let a : i + (left - c) ≡ i = omega arith in
          let b : c - far ≡ m = omega arith in
          below_stretch left (suc i) v room_v c (omega arith)
          ∙ sym (ap₂ (λ (x y : F). x ⊕ y) (before_at c (omega arith) ∙ ap (λ (n : ℕ). element (get_or w n 0)) a)
          (raised_high elements far (feedback ⊡ G m) c (omega arith) ∙ ⊡-at elements feedback (G m) _
          ∙ ap (λ (x : F). feedback ⊙ x) (ap (G m) b ∙ rooted-top elements m _) ∙ ⊙-𝟙 elements _)
          ∙ ⊕_self elements _)
      go (no p) (no n) =
          below_stretch left (suc i) v room_v c (omega arith)
          ∙ sym (ap₂ (λ (x y : F). x ⊕ y) (rw longer (below_stretch (suc left) i w (omega (arith, room)) c (omega arith)))
          (raised_high elements far (feedback ⊡ G m) c (omega arith) ∙ ⊡-at elements feedback (G m) _
          ∙ ap (λ (x : F). feedback ⊙ x) (below-rooted elements m _ (c - far) (omega arith)) ∙ ⊙-𝟘 elements _)
          ∙ ⊕-𝟘 elements _)

  dividing-suc : Dividing m (suc i) u v
  dividing-suc = record {
    long = h.long ∙ d.long;
    octets = λ j b. elim (dec_le j (i + m)) [
      | yes p ↦ (let z : j ≡ suc (i + (j - suc i)) = omega arith in
          rw (ap (λ (n : ℕ). get_or v n 0) z ∙ h.done (j - suc i) (omega arith)) (sum_octet _ _ (product_octet _ _) (rw (← z) (d.octets j b))))
      | no p ↦ rw (h.rest j (omega arith)) (d.octets j b)
    ];
    divides = rw (fun_ext lowered-at) (divides-lowered elements (G m) _ _ feedback far d.divides);
  }

pub dividing-next : {m i : ℕ} {u g w v : List ℕ} → GeneratorIs m g → i < length u → length u + m ≤ longest_word → Lowered m i g w v → Dividing m i u w
    → Dividing m (i + 1) u v
dividing-next {m} {i} {u} {g} {w} {v} gi l all h d =
    subst (λ (n : ℕ). Dividing m n u v) (sym (add-one i)) (dividing-suc m i u g w v gi l all h d)

-- ---- the remainder

pub dividing-end : {m k : ℕ} {u w p : List ℕ} → k ≡ length u → length u + m ≤ longest_word → Dividing m k u w → Padded longest_word (take m (drop k w)) p → RemainderIs m u p
dividing-end {m} {k} {u} {w} {p} e all d h = record {
  long = h.long;
  octets = λ j. elim (dec_lt j m) [
    | yes l ↦ rw (padded-used (drop k w) h j l, get_or-drop k w j 0) (d.octets (k + j) (omega arith))
    | no l ↦ rw (padded-unused (drop k w) h j (omega arith)) (lit< tt)
  ];
  unused = padded-unused (drop k w) h;
  remainder = record {
    small = λ c l. ap (λ (v : List ℕ). polynomial elements (word v) c) (sym same) ∙ below_stretch m k w (omega (arith, d.long)) c l;
    divides = rw (ap (λ (n : ℕ). polynomial elements (word (take n (drop k w)))) (sym rest) ∙ ap (λ (v : List ℕ). polynomial elements (word v)) same) at d.divides;
  };
}
  where
    rest : m ≡ length u + m - k
    rest = omega arith

    same : take m (drop k w) ≡ take m p
    same = ext_get_or 0 _ _ (length-take-le m (drop k w) (omega (arith, d.long, length-drop k w)) ∙ sym (length-take-le m p (omega (arith, h.long))))
        (λ j b. let l : j < m = omega (arith, length-take-le m (drop k w) (omega (arith, d.long, length-drop k w))) in
        sym (get_or-take m p j 0 l ∙ h.entry j))
