-- One turn of each loop: of the one that takes octets into a register, and of the one that folds octets where they lie; and the two generators,
-- which fold.
--
--   held-turned   the register takes an octet
--   turn          the octet at a place is added to those behind it where the generator has its terms: what is left of the octets from there on is
--                 what is left of those behind it
--   turn_octets   .. and octets they stay
--   rest          the last 16 octets, as they are cut out
--   folds8, folds16     the generators of the two checks: tested of every octet
--
-- Assumes nothing.
use mathlib.Core.Path.{◌≡◌, refl, sym, ap, ap₂, ◌∙◌}
use mathlib.Core.Bool.{Bool, true, false}
use mathlib.Core.List.{List, [], ◌∷◌}
use Prim.Native.Nat.{ℕ, suc, ◌+◌, ◌-◌, ◌≤◌, ◌<◌}
use native.Mathlib.Numerals.{add-one}
use native.Mathlib.Nat.{zero-add}
use native.Mathlib.Omega.{arith}
use lib.Bits.{bit_xor}
use lib.Dec.{T, lit<}
use lib.ListN.{length, get_or, set, take, drop, replicate, length-set, length-replicate, length-drop, get_or-replicate}
use lib.Seq.{drop-cons, get_or-take, get_or-set_other, length-take-le}
use Rattle.algebra.specs.Division.{sum, lowered, divided, remainder}
use Rattle.codeword.specs.CodeWord.{Octets}
use Rattle.octets.specs.Parts.{part-next}
use Rattle.octets.specs.Every.{every, every_at}
use Rattle.octets.specs.Same.{same, same-equal}
use Rattle.checks.specs.Bits.{is_odd, bits_of, bits, number, octets_of}
use Rattle.checks.specs.Check.{Kind, generator, plain, eight, sixteen}
use Rattle.checks.specs.Steps.{held, left, remainder_of, turned, added, Folds}
use Rattle.checks.proofs.Octets.{octets_of-length}
use Rattle.checks.proofs.Residue.{held-length, held-turn}
use Rattle.checks.proofs.Xors.{moved}
use Rattle.checks.proofs.Fold.{fold, flip, added_none, added-set, flip-part, flip_octets, part_octets}

abbrev none : ℕ → List Bool
none n = replicate n false

pub held-turned : (κ : Kind) (s content t : List ℕ) (i : ℕ) → length s ≡ κ.octets → 0 < κ.octets → i < length content → get_or content i 0 < 256
    → t ≡ held κ s (take i content) → turned κ t (get_or content i 0) ≡ held κ s (take (suc i) content)
unfolding remainder_of
held-turned κ s content [] i full some within octet e = absurd (omega (arith, held-length κ s (take i content), ap length e))
held-turned κ s content (h ∷ r) i full some within octet e =
    let o = get_or content i 0 in
    let l : κ.octets ≡ suc (length r) = sym (ap length e ∙ held-length κ s (take i content)) in
    sym (moved r (remainder_of κ (bit_xor h o)) (octets_of-length κ.octets _ ∙ l)) ∙ held-turn κ s full (length r) l content i h r within octet e

pub turn_octets : (a x y z : ℕ) (w : List ℕ) → a < 256 → Octets w → Octets (flip a z (flip a y (flip a x w)))
turn_octets a x y z w l o = flip_octets a z (flip a y (flip a x w)) l (flip_octets a y (flip a x w) l (flip_octets a x w l o))

module _ (κ : Kind) {i j k : ℕ} (rule : Folds κ i j k) where
  -- the generator's terms, one by one
  abbrev m₁ : List Bool
  m₁ = set (none k) (i - 1) true

  abbrev m₂ : List Bool
  m₂ = set m₁ (j - 1) true

  length₁ : length m₁ ≡ k
  length₁ = length-set (none k) (i - 1) true ∙ length-replicate k false

  length₂ : length m₂ ≡ k
  length₂ = length-set m₁ (j - 1) true ∙ length₁

  terms-length : length (generator κ) ≡ k
  terms-length = ap length rule.terms ∙ length-set m₂ (k - 1) true ∙ length₂

  -- no two of them stand at one place
  free₂ : get_or m₁ (j - 1) false ≡ false
  free₂ =
      get_or-set_other (none k) (i - 1) (j - 1) true false (λ e. omega (arith, rule.first, rule.second))
      ∙ get_or-replicate k (j - 1) false false (omega (arith, rule.first, rule.second, rule.third))

  free₃ : get_or m₂ (k - 1) false ≡ false
  free₃ =
      get_or-set_other m₁ (j - 1) (k - 1) true false (λ e. omega (arith, rule.first, rule.second, rule.third))
      ∙ get_or-set_other (none k) (i - 1) (k - 1) true false (λ e. omega (arith, rule.first, rule.second, rule.third))
      ∙ get_or-replicate k (k - 1) false false (omega (arith, rule.first, rule.second, rule.third))

  added-terms : (a : ℕ) (v : List ℕ) → k ≤ length v → added a (generator κ) v ≡ flip a (k - 1) (flip a (j - 1) (flip a (i - 1) v))
  added-terms a v l =
      ap (λ (x : List Bool). added a x v) rule.terms
      ∙ added-set a (k - 1) m₂ v (omega (arith, length₂, rule.third)) (omega (arith, length₂)) free₃
      ∙ ap (flip a (k - 1))
      (added-set a (j - 1) m₁ v (omega (arith, length₁, rule.second, rule.third)) (omega (arith, length₁)) free₂
      ∙ ap (flip a (j - 1))
      (added-set a (i - 1) (none k) v (omega (arith, length-replicate k false, rule.first, rule.second, rule.third))
      (omega (arith, length-replicate k false)) (get_or-replicate k (i - 1) false false (omega (arith, rule.first, rule.second, rule.third)))
      ∙ ap (flip a (i - 1)) (added_none a k v)))

  pub turn : (n at : ℕ) (w : List ℕ) → Octets w → at + k < n → n ≤ length w → let a = get_or w at 0 in
      left κ (drop (at + 1) (take n (flip a (at + k) (flip a (at + j) (flip a (at + i) w))))) ≡ left κ (drop at (take n w))
  turn n at w o h l =
      let a : ℕ = get_or w at 0 in
      let v : List ℕ = drop (suc at) (take n w) in
      let lt : length (take n w) ≡ n = length-take-le n w l in
      let lv : length v ≡ n - suc at = length-drop (suc at) (take n w) ∙ ap (λ (k : ℕ). k - suc at) lt in
      let ov : Octets v = (part_octets (suc at) (take n w) (part_octets n w o).0).1 in
      let ei : at + i ≡ suc at + (i - 1) = omega (arith, rule.first) in
      let ej : at + j ≡ suc at + (j - 1) = omega (arith, rule.second) in
      let ek : at + k ≡ suc at + (k - 1) = omega (arith, rule.third) in
      let w₁ : List ℕ = flip a (suc at + (i - 1)) w in
      let w₂ : List ℕ = flip a (suc at + (j - 1)) w₁ in
      sym
      (ap (left κ) (drop-cons (take n w) at 0 (omega (arith, lt)) ∙ ap (λ (b : ℕ). b ∷ v) (get_or-take n w at 0 (omega arith)))
      ∙ fold κ rule a (o at) v ov (omega (arith, terms-length, lv))
      ∙ ap (left κ)
      (added-terms a v (omega (arith, lv))
      ∙ sym
      (flip-part a (suc at) (k - 1) n w₂ (omega (arith, rule.third))
      ∙ ap (flip a (k - 1))
      (flip-part a (suc at) (j - 1) n w₁ (omega (arith, rule.second, rule.third))
      ∙ ap (flip a (j - 1)) (flip-part a (suc at) (i - 1) n w (omega (arith, rule.first, rule.second, rule.third))))))
      ∙ sym (rw (ei, ej, ek, add-one)))

pub rest : (n i : ℕ) (w : List ℕ) → i + 16 ≡ n → take 16 (drop i w) ≡ drop i (take n w)
rest n i w e =
    let k : 16 ≡ n - i = omega arith in
    ap₂ (λ (j m : ℕ). take j (drop m w)) k (sym (zero-add i)) ∙ part-next i n 0 w (omega arith)

-- ---- the two checks

unfoldable worked : Kind → List ℕ → List ℕ
unfolding is_odd bits_of bits number octets_of sum lowered divided remainder generator plain left eight sixteen
worked κ u = left κ u

worked-is : (κ : Kind) (u : List ℕ) → worked κ u ≡ left κ u
unfolding worked
worked-is κ u = refl

abbrev folds-octet : Kind → ℕ → Bool
folds-octet κ a = same (worked κ (a ∷ replicate (length (generator κ)) 0)) (worked κ (added a (generator κ) (replicate (length (generator κ)) 0)))

abbrev folds : Kind → Bool
folds κ = every (folds-octet κ) 256

folds-at : (κ : Kind) → T (folds κ) → (a : ℕ) → a < 256
    → left κ (a ∷ replicate (length (generator κ)) 0) ≡ left κ (added a (generator κ) (replicate (length (generator κ)) 0))
folds-at κ t a h = sym (worked-is κ _) ∙ same-equal _ _ (every_at (folds-octet κ) 256 t a h) ∙ worked-is κ _

folds_by : (κ : Kind) (i j k some : ℕ) → generator κ ≡ set (set (set (none k) (i - 1) true) (j - 1) true) (k - 1) true → 0 < i → i < j → j < k
    → T (folds κ) → left κ (0 ∷ []) ≡ left κ [] → κ.octets ≡ suc some → Folds κ i j k
folds_by κ i j k some is a b c t z o = record {
  terms = is;
  first = a;
  second = b;
  third = c;
  at = folds-at κ t;
  nothing = z;
  some = some;
  octets = o;
}

pub folds8 : Folds eight 6 7 8
unfolding is_odd bits_of bits number octets_of sum lowered divided remainder generator plain left eight sixteen worked
folds8 = folds_by eight 6 7 8 0 refl (lit< tt) (lit< tt) (lit< tt) tt refl refl

pub folds16 : Folds sixteen 4 11 16
unfolding is_odd bits_of bits number octets_of sum lowered divided remainder generator plain left eight sixteen worked
folds16 = folds_by sixteen 4 11 16 1 refl (lit< tt) (lit< tt) (lit< tt) tt refl refl
