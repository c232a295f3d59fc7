-- The generator's coefficients: ratios, multiplied up, and the lower half from the upper.
--
--   multiple-is                      a power of α^c by its exponent
--   upper_start, upper-next          one block of ratios after another
--   upper-end                        .. which are all
--   doubled_start, doubled-next      one block of products after another, from the top
--   upper-doubled                    .. which doubles the distance
--   upper_half                       over the whole distance the coefficients are there
--   far-lanes                        the factor from one block of the lower half to the next
--   mirror_start, mirror-far         the factors of a block
--   mirror-next                      one block of the lower half after another
--   half_fewer                       fewer coefficients
--   generator-end                    all of them, and zeros behind
--
-- Assumes nothing.
use mathlib.Core.Path.{◌≡◌, refl, sym, ap, ap₂, ◌∙◌}
use mathlib.Core.Logic.{◌≢◌}
use mathlib.Core.List.{List}
use Prim.Native.Nat.{ℕ, zero, suc, ◌+◌, ◌-◌, ◌*◌, ◌%◌, ◌≤◌, ◌<◌}
use native.Mathlib.Nat.{mul_comm}
use native.Mathlib.Numerals.{add-one}
use native.Mathlib.Omega.{arith}
use native.Mathlib.Decide.{dec_lt, dec_le}
use lib.Dec.{lit<}
use lib.ListN.{get_or, replicate}
use Rattle.algebra.specs.Power.{pow, rising}
use Rattle.algebra.proofs.Laws.{⊕-comm, ⊙_inv, ⊙-𝟙, ⊙-assoc, ⊙-comm, eq_of-sum, rooted-top, pow-zero, pow-suc, geometric_down, geometric_symmetric}
use Rattle.field.specs.Octet as Octet
use Rattle.field.specs.Octet.Laws.{sum_octet, power_octet, power_zero, power-suc, power-add, power-mul}
use Rattle.field.proofs.Laws.{power_wrap, powers_distinct}
use Rattle.codeword.specs.Element.{elements, element, octet, α}
use Rattle.codeword.specs.Element.Laws.{element-sum, element-product, element-inverse, element_one, element-ne}
use Rattle.codeword.proofs.Element.Laws.{element-power, octet-pow}
use Rattle.codeword.specs.CodeWord.{longest_word}
use Rattle.codeword.specs.Lanes.{lanes, Lanes, along, Stored}
use Rattle.codeword.specs.Register.{G, ones, room, GeneratorIs}
use Rattle.codeword.specs.Generator.{coefficient, Upper, Doubled, Half, rise}
use Rattle.codeword.proofs.Arrays.{replicate-is}
use Rattle.codeword.proofs.Laning.{stored-below}

infixl 60 ◌⊕◌
infixl 70 ◌⊙◌
open elements use {Carrier as F, add as ◌⊕◌, mul as ◌⊙◌, inv, nil as 𝟘, one as 𝟙}

-- ---- powers

pub multiple-is : (c k : ℕ) → Octet.power Octet.α (c * (k + 1) % Octet.order) ≡ Octet.power (Octet.power Octet.α c) (suc k)
multiple-is c k = power_wrap (c * (k + 1)) ∙ ap (λ (n : ℕ). Octet.power Octet.α (c * n)) (add-one k) ∙ sym (power-mul Octet.α c (suc k))

element_powers : (a d : ℕ) → element (Octet.power a d) ≡ pow elements (element a) d
element_powers a zero = ap element (power_zero a) ∙ element_one ∙ sym (pow-zero elements _)
element_powers a (suc d) =
    ap element (power-suc a d) ∙ element-product _ _ ∙ ap (λ (x : F). element a ⊙ x) (element_powers a d) ∙ sym (pow-suc elements _ d)

α-ne : α ≢ 𝟘
α-ne = element-ne Octet.α (lit< tt) (λ e. omega arith)

one_plus-ne : (k : ℕ) → 0 < k → k < Octet.order → 𝟙 ⊕ pow elements α k ≢ 𝟘
one_plus-ne k some small e =
    let q : 0 ≡ k = powers_distinct 0 k (lit< tt) small (sym (octet-pow 0) ∙ ap octet (pow-zero elements α ∙ eq_of-sum elements _ _ e) ∙ octet-pow k) in
    omega arith

-- ---- the ratios

first : (m i : ℕ) → i ≤ ones → coefficient m i ≡ 𝟙
first m i l = let z : m - (i - ones) ≡ m = omega arith in rw z (rooted-top elements m (rising elements α))

pub upper_start : (e : ℕ) → Upper e 1 (suc ones) (replicate room 1)
upper_start e = record {
  long = refl;
  each = λ i l h.
      rw (replicate-is room 1 i (omega arith), first (2 * e) (i - 1) (omega arith), first (2 * e) i (omega arith), element_one) (⊙-𝟙 elements 𝟙);
}

abbrev ratio : ℕ → ℕ → ℕ
ratio m j =
    Octet.product (Octet.sum (Octet.power Octet.α j) (Octet.power Octet.α (suc m))) (Octet.inverse (Octet.sum (Octet.power Octet.α j) 1))

module _ (m k j : ℕ) (s : k + j ≡ m) (some : 0 < j) (small : j < Octet.order) where
  abbrev divisor : F
  divisor = 𝟙 ⊕ pow elements α j

  ratio-element : element (ratio m j) ≡ (pow elements α (suc m) ⊕ pow elements α j) ⊙ inv divisor
  ratio-element =
      element-product _ _
      ∙ ap₂ (λ (x y : F). x ⊙ y)
      (element-sum _ _ ∙ ap₂ (λ (x y : F). x ⊕ y) (element-power j) (element-power (suc m)) ∙ ⊕-comm elements _ _)
      (element-inverse _ (sum_octet _ _ (power_octet _ j) (lit< tt))
      ∙ ap inv (element-sum _ _ ∙ ap₂ (λ (x y : F). x ⊕ y) (element-power j) element_one ∙ ⊕-comm elements _ _))

  ratio-next : element (ratio m j) ⊙ G m (suc k) ≡ G m k
  ratio-next =
      rw ratio-element
      (ap (λ (x : F). x ⊙ G m (suc k)) (⊙-comm elements _ _) ∙ ⊙-assoc elements _ _ _ ∙ ap (λ (x : F). inv divisor ⊙ x) (sym (geometric_down elements α α-ne m k j s))
      ∙ ⊙-comm elements _ _ ∙ ⊙-assoc elements _ _ _
      ∙ ap (λ (x : F). G m k ⊙ x) (⊙_inv elements divisor (one_plus-ne j some small)) ∙ ⊙-𝟙 elements _)

pub upper-next : {e o last : ℕ} {x y z a p q : List ℕ} → 2 * e < longest_word → o < e → last ≡ rise e → Lanes (along (o + 1)) x
    → Lanes (λ k. Octet.sum (get_or x k 0) last) y → Lanes (λ k. Octet.sum (get_or x k 0) 1) z
    → Lanes (λ k. Octet.product (get_or y k 0) (Octet.inverse (get_or z k 0))) a
    → Stored lanes (suc ones + o) a p q → Upper e 1 (suc ones + o) p → Upper e 1 (suc ones + (o + 16)) q
upper-next {e} {o} {last} {x} {y} {z} {a} {p} {q} h l el lx ly lz la st u = record {
  long = st.long ∙ u.long;
  each = λ i b. stored-below (λ i v. i ≤ ones + e → element v ⊙ coefficient (2 * e) (i - 1) ≡ coefficient (2 * e) i) st u.each new i (omega arith);
}
  where
    new : (k : ℕ) → k < lanes → suc ones + o + k ≤ ones + e
        → element (get_or a k 0) ⊙ coefficient (2 * e) (suc ones + o + k - 1) ≡ coefficient (2 * e) (suc ones + o + k)
    new k b c =
        let j : ℕ = o + 1 + k in
        let above : 2 * e - (suc ones + o + k - 1 - ones) ≡ suc (2 * e - j) = omega arith in
        let there : 2 * e - (suc ones + o + k - ones) ≡ 2 * e - j = omega arith in
        rw (la.entry k b, ly.entry k b, lz.entry k b, lx.entry k b, el, above, there)
        (ratio-next (2 * e) (2 * e - j) j (omega arith) (omega arith) (omega arith))

pub upper-end : {e s n : ℕ} {p : List ℕ} → e ≤ n → Upper e s (suc ones + n) p → Upper e s (suc ones + e) p
upper-end l u = record { long = u.long; each = λ i b. u.each i (omega arith) }

-- ---- multiplied up

pub doubled_start : {s l h : ℕ} {p : List ℕ} → h ≤ l → Doubled s l h p p
doubled_start b = record { long = refl; done = λ i l m. absurd (omega arith); before = λ i l. refl }

pub doubled-next : {s o l h : ℕ} {x y a p₀ p q : List ℕ} → l ≡ o + lanes → s ≤ o → Doubled s l h p₀ p
    → Lanes (λ k. get_or p (o + k) 0) x → Lanes (λ k. get_or p (o - s + k) 0) y → Lanes (λ k. Octet.product (get_or x k 0) (get_or y k 0)) a
    → Stored lanes o a p q → Doubled s o h p₀ q
doubled-next {s} {o} {l} {h} {x} {y} {a} {p₀} {p} {q} e b d lx ly la st = record {
  long = st.long ∙ d.long;
  done = λ i m n. elim (dec_lt i (o + lanes)) [
    | yes c ↦ (let k : ℕ = i - o in
        let z : i ≡ o + k = omega arith in
        let w : o - s + k ≡ i - s = omega arith in
        ap (λ (j : ℕ). get_or q j 0) z ∙ st.written k (omega arith) ∙ la.entry k (omega arith)
        ∙ ap₂ Octet.product (lx.entry k (omega arith) ∙ ap (λ (j : ℕ). get_or p j 0) (sym z) ∙ d.before i (omega arith))
        (ly.entry k (omega arith) ∙ ap (λ (j : ℕ). get_or p j 0) w ∙ d.before (i - s) (omega arith)))
    | no c ↦ st.behind i (omega arith) ∙ d.done i (omega arith) n
  ];
  before = λ i m. st.before i m ∙ d.before i (omega arith);
}

pub upper-doubled : {e s : ℕ} {p q : List ℕ} → Upper e s (suc ones + e) p → Doubled s (suc ones) (suc ones + e) p q → Upper e (2 * s) (suc ones + e) q
upper-doubled {e} {s} {p} {q} u d = record { long = d.long ∙ u.long; each = each }
  where
    each : (i : ℕ) → i < suc ones + e → i ≤ ones + e → element (get_or q i 0) ⊙ coefficient (2 * e) (i - 2 * s) ≡ coefficient (2 * e) i
    each i l h = elim (dec_le i ones) [
      | yes b ↦ ap₂ (λ (x y : F). x ⊙ y) (ap element (d.before i (omega arith)))
          (first (2 * e) (i - 2 * s) (omega arith) ∙ sym (first (2 * e) (i - s) (omega arith)))
          ∙ u.each i l h
      | no b ↦ (let z : i - 2 * s ≡ i - s - s = omega arith in
          rw (d.done i (omega arith) l, element-product, z, ⊙-assoc, u.each (i - s) (omega arith) (omega arith)) (u.each i l h))
    ]

pub upper_half : {e s : ℕ} {p : List ℕ} → e ≤ s → Upper e s (suc ones + e) p → Half (2 * e) (suc ones + e) p
upper_half {e} {s} {p} b u = record {
  long = u.long;
  each = λ i l h. sym (⊙-𝟙 elements _) ∙ ap (λ (x : F). element (get_or p i 0) ⊙ x) (sym (first (2 * e) (i - s) (omega arith))) ∙ u.each i l (omega arith);
}

-- ---- the lower half

far-is : (e : ℕ) → Octet.power Octet.α (16 * (2 * e + 1) % Octet.order) ≡ Octet.power (rise e) 16
far-is e =
    power_wrap (16 * (2 * e + 1)) ∙ ap (Octet.power Octet.α) (mul_comm 16 (2 * e + 1) ∙ ap (λ (n : ℕ). n * 16) (add-one (2 * e)))
    ∙ sym (power-mul Octet.α (suc (2 * e)) 16)

pub far-lanes : (e : ℕ) {v : ℕ} {f : List ℕ} → v ≡ Octet.power Octet.α (16 * (2 * e + 1) % Octet.order) → Lanes (λ k. v) f → Lanes (λ k. Octet.power (rise e) 16) f
far-lanes e h lf = record { long = lf.long; entry = λ k l. lf.entry k l ∙ h ∙ far-is e }

pub mirror_start : (e : ℕ) {c : List ℕ} → Lanes (λ k. Octet.power (Octet.power Octet.α (2 * e + 1)) (suc k)) c → Lanes (λ k. Octet.power (rise e) (suc (0 + k))) c
mirror_start e lc = record {
  long = lc.long;
  entry = λ k l. lc.entry k l ∙ ap₂ (λ (c n : ℕ). Octet.power (Octet.power Octet.α c) (suc n)) (add-one (2 * e)) (omega arith);
}

pub half_fewer : {m k n : ℕ} {p : List ℕ} → k ≤ n → Half m n p → Half m k p
half_fewer l u = record { long = u.long; each = λ i b. u.each i (omega arith) }

pub mirror-far : (e o : ℕ) {f c d : List ℕ} → Lanes (λ k. Octet.power (rise e) 16) f → Lanes (λ k. Octet.power (rise e) (suc (o + k))) c
    → Lanes (λ k. Octet.product (get_or f k 0) (get_or c k 0)) d → Lanes (λ k. Octet.power (rise e) (suc (o + 16 + k))) d
mirror-far e o lf lc ld = record {
  long = ld.long;
  entry = λ k l.
      ld.entry k l ∙ ap₂ Octet.product (lf.entry k l) (lc.entry k l) ∙ sym (power-add (rise e) 16 (suc (o + k)))
      ∙ ap (Octet.power (rise e)) (omega arith);
}

-- the place from which place e + d is filled
place : (e o k : ℕ) → suc (o + k) ≤ e → ones - 1 + e - o - k ≡ ones + (e - suc (o + k))
place e o k l = omega arith

place_up : (e d : ℕ) → d ≤ e → 2 * e - (ones + (e - d) - ones) ≡ e + d
place_up e d l = omega arith

place-low : (e o k : ℕ) → 2 * e - (suc ones + e + o + k - ones) ≡ e - suc (o + k)
place-low e o k = omega arith

pub mirror-next : (e o : ℕ) {c y a p q : List ℕ} → 2 * e < longest_word → o < e → Lanes (λ k. Octet.power (rise e) (suc (o + k))) c
    → Lanes (λ k. get_or p (ones - 1 + e - o - k) 0) y → Lanes (λ k. Octet.product (get_or c k 0) (get_or y k 0)) a
    → Stored lanes (suc ones + e + o) a p q → Half (2 * e) (suc ones + e + o) p → Half (2 * e) (suc ones + e + (o + 16)) q
mirror-next e o {c} {y} {a} {p} {q} h l lc ly la st u = record {
  long = st.long ∙ u.long;
  each = λ i b. stored-below (λ i v. i ≤ ones + 2 * e → element v ≡ coefficient (2 * e) i) st u.each new i (omega arith);
}
  where
    new : (k : ℕ) → k < lanes → suc ones + e + o + k ≤ ones + 2 * e → element (get_or a k 0) ≡ coefficient (2 * e) (suc ones + e + o + k)
    new k b f =
        let d : ℕ = suc (o + k) in
        let fits : d ≤ e = omega arith in
        ap element (la.entry k b) ∙ element-product _ _
        ∙ ap₂ (λ (x z : F). x ⊙ z)
        (ap element (lc.entry k b) ∙ element_powers (rise e) d ∙ ap (λ (x : F). pow elements x d) (element-power (suc (2 * e))))
        (ap element (ly.entry k b ∙ ap (λ (i : ℕ). get_or p i 0) (place e o k fits)) ∙ u.each (ones + (e - d)) (omega arith) (omega arith)
        ∙ ap (G (2 * e)) (place_up e d fits))
        ∙ sym (ap (G (2 * e)) (place-low e o k) ∙ geometric_symmetric elements α α-ne e (λ j s t. one_plus-ne j s (omega arith)) d fits)

pub generator-end : {m : ℕ} {p q : List ℕ} → Half m (suc ones + m) p → Stored lanes (suc ones + m) (replicate lanes 0) p q → GeneratorIs m q
generator-end {m} {p} {q} u st = record {
  long = st.long ∙ u.long;
  coefficients = λ i l.
      let z : m - (ones + i - ones) ≡ m - i = omega arith in
      ap element (st.before (ones + i) (omega arith)) ∙ u.each (ones + i) (omega arith) (omega arith) ∙ ap (G m) z;
  zeros = λ k l.
      let z : ones + suc (m + k) ≡ suc ones + m + k = omega arith in
      ap (λ (i : ℕ). get_or q i 0) z ∙ st.written k l ∙ replicate-is lanes 0 k l;
}
