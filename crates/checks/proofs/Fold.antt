-- Octets that are divided by the generator at x^8. In characteristic 2 that is the generator to the 8th, g(x^8) = g(x)^8, so that the
-- remainder by the generator stays: an octet goes, and is added to octets further on, as a coefficient is in long division. One proof
-- for every kind, but for a computed test of all octets.
--
--   xors-nothing     a sum with nothing
--   bits-xors        the bits of a sum of octets
--   left-xors        the remainder of a sum of octets
--   held-left        what a register holds is the remainder of the content with the start added to its first octets
--   left-held        .. and started with zeros, of the content
--   fold             what a generator that folds does with an octet before zeros it does before any octets
--   flip a k v       v, with a added to the octet at place k
--   added_none, added-set   added at no place, and at one place more
--   flip-part        .. within a part; flip_octets: octets they stay
--   zeros_octets, part_octets   what is octets: zeros, a part of octets
--
-- Assumes nothing.
use mathlib.Core.Path.{◌≡◌, refl, sym, ap, ap₂, ◌∙◌}
use mathlib.Core.Bool.{Bool, true, false, true≢false}
use mathlib.Core.List.{List, [], ◌∷◌, ◌++◌, append_assoc, append-nil}
use Prim.Native.Nat.{ℕ, zero, suc, ◌+◌, ◌-◌, ◌*◌, ◌≤◌, ◌<◌}
use native.Mathlib.Nat.{mul-suc}
use native.Mathlib.Omega.{arith}
use lib.Bits.{bit_xor, xor_zero_r, xor_lt}
use lib.Dec.{lit<}
use lib.ListN.{length, get_or, set, take, drop, replicate, length-append, length-replicate, take-append-drop, replicate-append-replicate}
use lib.Seq.{length-take-le, take-set-lt, drop-set-add, get_or-take, get_or-drop}
use Rattle.algebra.specs.Division.{sum, remainder}
use Rattle.algebra.specs.Register.{register}
use Rattle.algebra.proofs.Laws.{remainder-length, remainder-sum, register-zeros}
use Rattle.codeword.specs.CodeWord.{Octets}
use Rattle.checks.specs.Binary.{𝔹, plus, plus_comm}
use Rattle.checks.specs.Bits.{is_odd, bits_of, bits, octets_of}
use Rattle.checks.specs.Check.{Kind, width, generator, plain}
use Rattle.checks.specs.Steps.{held, left, xors, added, Folds}
use Rattle.checks.proofs.Remainders.{generator-length, plain-length}
use Rattle.checks.proofs.Octets.{bits_of-length, number_bits_of, sum_bits_of, bits-append, octets_of-sum, sum-nothing}
use Rattle.checks.proofs.Residue.{bits-length, held-length, held-step}

-- ---- sums

sum-append : (p q r s : List Bool) → length p ≡ length q → sum 𝔹 (p ++ r) (q ++ s) ≡ sum 𝔹 p q ++ sum 𝔹 r s
unfolding sum
sum-append [] [] r s e = refl
sum-append [] (b ∷ q) r s e = absurd (omega arith)
sum-append (a ∷ p) [] r s e = absurd (omega arith)
sum-append (a ∷ p) (b ∷ q) r s e = ap (λ (x : List Bool). plus a b ∷ x) (sum-append p q r s (omega arith))

sum_comm : (p q : List Bool) → length p ≡ length q → sum 𝔹 p q ≡ sum 𝔹 q p
unfolding sum
sum_comm [] [] e = refl
sum_comm [] (b ∷ q) e = absurd (omega arith)
sum_comm (a ∷ p) [] e = absurd (omega arith)
sum_comm (a ∷ p) (b ∷ q) e = ap₂ (λ (x : Bool) (r : List Bool). x ∷ r) (plus_comm a b) (sum_comm p q (omega arith))

pub xors-nothing : (u : List ℕ) → xors u [] ≡ u
xors-nothing [] = refl
xors-nothing (a ∷ u) = refl

pub bits-xors : (u v : List ℕ) → length v ≤ length u → Octets u → Octets v → bits (xors u v) ≡ sum 𝔹 (bits u) (bits v)
unfolding bits sum
bits-xors [] v l o q = refl
bits-xors (a ∷ u) [] l o q = sym (sum-nothing (bits (a ∷ u)))
bits-xors (a ∷ u) (b ∷ v) l o q =
    ap₂ (λ (x y : List Bool). x ++ y)
    (sym (sum_bits_of 8 (bits_of 8 a) b (bits_of-length 8 a) (q 0) ∙ ap (λ (n : ℕ). bits_of 8 (bit_xor n b)) (number_bits_of 8 a (o 0))))
    (bits-xors u v (omega arith) (λ i. o (suc i)) (λ i. q (suc i)))
    ∙ sym (sum-append (bits_of 8 a) (bits_of 8 b) (bits u) (bits v) (bits_of-length 8 a ∙ sym (bits_of-length 8 b)))

bits-zeros : (n : ℕ) → bits (replicate n 0) ≡ replicate (8 * n) false
unfolding is_odd bits_of bits
bits-zeros zero = refl
bits-zeros (suc n) =
    let e : 8 + 8 * n ≡ 8 * suc n = omega (arith, mul-suc 8 n) in
    ap (λ (q : List Bool). replicate 8 false ++ q) (bits-zeros n) ∙ replicate-append-replicate 8 (8 * n) false ∙ ap (λ (k : ℕ). replicate k false) e

-- ---- remainders

module _ (κ : Kind) where
  abbrev g : List Bool
  g = generator κ

  -- the remainder of a sum, in bits
  plain-sum : (c d : List Bool) (k : ℕ) → length d ≤ length c → length d + k ≡ length c + width κ
      → plain κ (sum 𝔹 c d) ≡ sum 𝔹 (plain κ c) (remainder 𝔹 g (d ++ replicate k false))
  unfolding plain
  plain-sum c d k l e = remainder-sum 𝔹 g c d (width κ) k l e (omega (arith, generator-length κ))

  pub left-xors : (u v : List ℕ) → length v ≤ length u → Octets u → Octets v
      → left κ (xors u v) ≡ xors (left κ u) (left κ (v ++ replicate (length u - length v) 0))
  unfolding left plain
  left-xors u v l o q =
      let d : ℕ = length u - length v in
      let padded : bits (v ++ replicate d 0) ++ replicate (width κ) false ≡ bits v ++ replicate (8 * d + width κ) false =
      ap (λ (x : List Bool). x ++ replicate (width κ) false) (bits-append v (replicate d 0) ∙ ap (λ (x : List Bool). bits v ++ x) (bits-zeros d))
      ∙ append_assoc (bits v) (replicate (8 * d) false) (replicate (width κ) false)
      ∙ ap (λ (x : List Bool). bits v ++ x) (replicate-append-replicate (8 * d) (width κ) false) in
      ap (λ (x : List Bool). octets_of κ.octets (plain κ x)) (bits-xors u v l o q)
      ∙ ap (octets_of κ.octets)
      (plain-sum (bits u) (bits v) (8 * d + width κ) (omega (arith, bits-length u, bits-length v)) (omega (arith, bits-length u, bits-length v))
      ∙ ap (λ (x : List Bool). sum 𝔹 (plain κ (bits u)) (remainder 𝔹 g x)) (sym padded))
      ∙ octets_of-sum κ.octets (plain κ (bits u)) (plain κ (bits (v ++ replicate d 0))) (plain-length κ (bits u) ∙ sym (plain-length κ (bits (v ++ replicate d 0))))

  pub held-left : (s u : List ℕ) → length s ≡ κ.octets → κ.octets ≤ length u → Octets s → Octets u → held κ s u ≡ left κ (xors u s)
  unfolding held left plain register
  held-left s u full l o q =
      let e : length (bits s) + length (bits u) ≡ length (bits u) + width κ = omega (arith, bits-length s, ap (λ (n : ℕ). 8 * n) full) in
      let b : List Bool = bits s ++ replicate (length (bits u)) false in
      let long : length b ≡ length (bits s) + length (bits u) =
      length-append (bits s) (replicate (length (bits u)) false) ∙ ap (λ (n : ℕ). length (bits s) + n) (length-replicate (length (bits u)) false) in
      let lb : length (remainder 𝔹 g b) ≡ width κ = remainder-length 𝔹 g b (omega (arith, generator-length κ, long, e)) ∙ generator-length κ in
      sym
      (ap (λ (x : List Bool). octets_of κ.octets (plain κ x)) (bits-xors u s (omega arith) q o)
      ∙ ap (octets_of κ.octets)
      (plain-sum (bits u) (bits s) (length (bits u)) (omega (arith, bits-length s, bits-length u)) e
      ∙ sum_comm (plain κ (bits u)) (remainder 𝔹 g b) (plain-length κ (bits u) ∙ sym lb)
      ∙ ap (λ (n : ℕ). sum 𝔹 (remainder 𝔹 g b) (remainder 𝔹 g (bits u ++ replicate n false))) (sym (generator-length κ))))

  -- ---- octets behind

  same_step : (s : List ℕ) (full : length s ≡ κ.octets) (l : ℕ) → κ.octets ≡ suc l → (u v : List ℕ) (o : ℕ) → o < 256
      → held κ s u ≡ held κ s v → held κ s (u ++ o ∷ []) ≡ held κ s (v ++ o ∷ [])
  same_step s full l some u v o octet e = by (held κ s v) refl
    where
      by : (x : List ℕ) → held κ s v ≡ x → held κ s (u ++ o ∷ []) ≡ held κ s (v ++ o ∷ [])
      by [] q = absurd (omega (arith, held-length κ s v, some, ap length q))
      by (h ∷ r) q = held-step κ s full l some u o octet h r (e ∙ q) ∙ sym (held-step κ s full l some v o octet h r q)

  same_more : (s : List ℕ) (full : length s ≡ κ.octets) (l : ℕ) → κ.octets ≡ suc l → (t u v : List ℕ) → Octets t
      → held κ s u ≡ held κ s v → held κ s (u ++ t) ≡ held κ s (v ++ t)
  same_more s full l some [] u v o e = ap (held κ s) (append-nil u) ∙ e ∙ sym (ap (held κ s) (append-nil v))
  same_more s full l some (a ∷ t) u v o e =
      sym (ap (held κ s) (append_assoc u (a ∷ []) t))
      ∙ same_more s full l some t (u ++ a ∷ []) (v ++ a ∷ []) (λ i. o (suc i)) (same_step s full l some u v a (o 0) e)
      ∙ ap (held κ s) (append_assoc v (a ∷ []) t)

  abbrev none : List ℕ
  none = replicate κ.octets 0

  pub left-held : (u : List ℕ) → left κ u ≡ held κ none u
  unfolding held left plain
  left-held u =
      ap (octets_of κ.octets)
      (sym
      (ap (λ (q : List Bool). register 𝔹 g q (bits u)) (bits-zeros κ.octets ∙ ap (λ (n : ℕ). replicate n false) (sym (generator-length κ)))
      ∙ register-zeros 𝔹 g (bits u) ∙ ap (λ (n : ℕ). remainder 𝔹 g (bits u ++ replicate n false)) (generator-length κ)))

  left_more : (l : ℕ) → κ.octets ≡ suc l → (t u v : List ℕ) → Octets t → left κ u ≡ left κ v → left κ (u ++ t) ≡ left κ (v ++ t)
  left_more l some t u v o e =
      left-held (u ++ t) ∙ same_more none (length-replicate κ.octets 0) l some t u v o (sym (left-held u) ∙ e ∙ left-held v) ∙ sym (left-held (v ++ t))

-- ---- one octet, added to octets further on

added-length : (a : ℕ) (m : List Bool) (v : List ℕ) → length (added a m v) ≡ length v
added-length a [] v = refl
added-length a (b ∷ m) [] = refl
added-length a (true ∷ m) (x ∷ v) = ap suc (added-length a m v)
added-length a (false ∷ m) (x ∷ v) = ap suc (added-length a m v)

added-append : (a : ℕ) (m : List Bool) (p t : List ℕ) → length m ≤ length p → added a m (p ++ t) ≡ added a m p ++ t
added-append a [] p t l = refl
added-append a (b ∷ m) [] t l = absurd (omega arith)
added-append a (true ∷ m) (x ∷ p) t l = ap (λ (v : List ℕ). bit_xor x a ∷ v) (added-append a m p t (omega arith))
added-append a (false ∷ m) (x ∷ p) t l = ap (λ (v : List ℕ). x ∷ v) (added-append a m p t (omega arith))

added-xors : (a : ℕ) (m : List Bool) (v : List ℕ) → length m ≤ length v → added a m v ≡ xors v (added a m (replicate (length m) 0))
added-xors a [] v l = sym (xors-nothing v)
added-xors a (b ∷ m) [] l = absurd (omega arith)
added-xors a (true ∷ m) (x ∷ v) l = ap (λ (w : List ℕ). bit_xor x a ∷ w) (added-xors a m v (omega arith))
added-xors a (false ∷ m) (x ∷ v) l = ap₂ (λ (y : ℕ) (w : List ℕ). y ∷ w) (sym (xor_zero_r x)) (added-xors a m v (omega arith))

added_octets : (a : ℕ) → a < 256 → (m : List Bool) (v : List ℕ) → Octets v → Octets (added a m v)
added_octets a l [] v o i = o i
added_octets a l (b ∷ m) [] o i = lit< tt
added_octets a l (true ∷ m) (x ∷ v) o zero = xor_lt 8 x a (o 0) l
added_octets a l (true ∷ m) (x ∷ v) o (suc i) = added_octets a l m v (λ j. o (suc j)) i
added_octets a l (false ∷ m) (x ∷ v) o zero = o 0
added_octets a l (false ∷ m) (x ∷ v) o (suc i) = added_octets a l m v (λ j. o (suc j)) i

pub zeros_octets : (n : ℕ) → Octets (replicate n 0)
zeros_octets zero i = lit< tt
zeros_octets (suc n) zero = lit< tt
zeros_octets (suc n) (suc i) = zeros_octets n i

one-octet : (a : ℕ) → a < 256 → Octets (a ∷ [])
one-octet a l zero = l
one-octet a l (suc i) = lit< tt

cons_octets : (a : ℕ) → a < 256 → (v : List ℕ) → Octets v → Octets (a ∷ v)
cons_octets a l v o zero = l
cons_octets a l v o (suc i) = o i

pub part_octets : (n : ℕ) (v : List ℕ) → Octets v → Octets (take n v) × Octets (drop n v)
part_octets zero v o = (λ i. lit< tt, o)
part_octets (suc n) [] o = (λ i. lit< tt, o)
part_octets (suc n) (a ∷ v) o =
    let p = part_octets n v (λ i. o (suc i)) in
    (cons_octets a (o 0) (take n v) p.0, p.1)

module _ (κ : Kind) {i j k : ℕ} (rule : Folds κ i j k) (a : ℕ) (octet : a < 256) where
  abbrev m : List Bool
  m = generator κ

  -- before as many octets as the generator has coefficients
  fold-front : (v : List ℕ) → Octets v → length v ≡ length m → left κ (a ∷ v) ≡ left κ (added a m v)
  fold-front v o e =
      let z : List ℕ = replicate (length m) 0 in
      let d : length v - length (added a m z) ≡ 0 = omega (arith, added-length a m z, length-replicate {A = ℕ} (length m) 0) in
      let n : suc (length v) - 1 ≡ length m = omega arith in
      let first : left κ (a ∷ v) ≡ xors (left κ v) (left κ (a ∷ z)) =
      ap (λ (x : List ℕ). left κ (a ∷ x)) (sym (xors-nothing v))
      ∙ left-xors κ (0 ∷ v) (a ∷ []) (omega arith) (cons_octets 0 (lit< tt) v o) (one-octet a octet)
      ∙ ap₂ xors (left_more κ rule.some rule.octets v (0 ∷ []) [] o rule.nothing) (ap (λ (k : ℕ). left κ (a ∷ replicate k 0)) n) in
      let second : left κ (added a m v) ≡ xors (left κ v) (left κ (added a m z)) =
      ap (left κ) (added-xors a m v (omega arith))
      ∙ left-xors κ v (added a m z) (omega (arith, added-length a m z, length-replicate {A = ℕ} (length m) 0)) o (added_octets a octet m z (zeros_octets (length m)))
      ∙ ap (λ (x : List ℕ). xors (left κ v) (left κ x)) (ap (λ (k : ℕ). added a m z ++ replicate k 0) d ∙ append-nil (added a m z)) in
      first ∙ ap (xors (left κ v)) (rule.at a octet) ∙ sym second

  pub fold : (v : List ℕ) → Octets v → length m ≤ length v → left κ (a ∷ v) ≡ left κ (added a m v)
  fold v o l =
      let w : ℕ = length m in
      let p = part_octets w v o in
      let e : length (take w v) ≡ w = length-take-le w v l in
      ap (λ (x : List ℕ). left κ (a ∷ x)) (sym (take-append-drop w v))
      ∙ left_more κ rule.some rule.octets (drop w v) (a ∷ take w v) (added a m (take w v)) p.1 (fold-front (take w v) p.0 e)
      ∙ ap (left κ) (sym (added-append a m (take w v) (drop w v) (omega arith)) ∙ ap (added a m) (take-append-drop w v))

-- ---- place by place

abbrev pub flip : ℕ → ℕ → List ℕ → List ℕ
flip a k v = set v k (bit_xor (get_or v k 0) a)

pub added_none : (a n : ℕ) (v : List ℕ) → added a (replicate n false) v ≡ v
added_none a zero v = refl
added_none a (suc n) [] = refl
added_none a (suc n) (x ∷ v) = ap (λ (w : List ℕ). x ∷ w) (added_none a n v)

pub added-set : (a k : ℕ) (m : List Bool) (v : List ℕ) → k < length m → length m ≤ length v → get_or m k false ≡ false
    → added a (set m k true) v ≡ flip a k (added a m v)
added-set a k [] v h l e = absurd (omega arith)
added-set a k (b ∷ m) [] h l e = absurd (omega arith)
added-set a zero (true ∷ m) (x ∷ v) h l e = absurd (true≢false e)
added-set a zero (false ∷ m) (x ∷ v) h l e = refl
added-set a (suc k) (true ∷ m) (x ∷ v) h l e = ap (λ (w : List ℕ). bit_xor x a ∷ w) (added-set a k m v (omega arith) (omega arith) e)
added-set a (suc k) (false ∷ m) (x ∷ v) h l e = ap (λ (w : List ℕ). x ∷ w) (added-set a k m v (omega arith) (omega arith) e)

pub flip-part : (a i k n : ℕ) (w : List ℕ) → i + k < n → drop i (take n (flip a (i + k) w)) ≡ flip a k (drop i (take n w))
flip-part a i k n w h =
    ap (drop i) (take-set-lt n w (i + k) _ h) ∙ drop-set-add i (take n w) k _
    ∙ ap (λ (x : ℕ). set (drop i (take n w)) k (bit_xor x a)) (sym (get_or-drop i (take n w) k 0 ∙ get_or-take n w (i + k) 0 h))

set_octets : (w : List ℕ) (k x : ℕ) → x < 256 → Octets w → Octets (set w k x)
set_octets [] k x l o i = lit< tt
set_octets (y ∷ w) zero x l o zero = l
set_octets (y ∷ w) zero x l o (suc i) = o (suc i)
set_octets (y ∷ w) (suc k) x l o zero = o 0
set_octets (y ∷ w) (suc k) x l o (suc i) = set_octets w k x l (λ j. o (suc j)) i

pub flip_octets : (a k : ℕ) (w : List ℕ) → a < 256 → Octets w → Octets (flip a k w)
flip_octets a k w l o = set_octets w k _ (xor_lt 8 (get_or w k 0) a (o k) l) o
