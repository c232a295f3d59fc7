-- Octets and their bits.
--
--   bits_of-length                   how many there are
--   bits-append, bits-snoc          of octets one behind the other
--   number_bits_of, bits_of-number    a number below 2^n is its n bits
--   number-sum, sum_bits_of          a sum of coefficients is exclusive or of numbers
--   octets_of-length, octets_of-lt    as many as asked for, each below 256
--   octets_of-cons, octets_of-snoc    eight bits in front are an octet in front; eight zeros behind are the octet 0
--   bits-octets_of, octets_of-bits    bits by octets are those bits, and octets by their bits those octets
--   octets_of-sum                    octet by octet
--   not-sum, sum_zeros, sum-nothing the sum with ones is the ones' complement, and with zeros, or nothing, it is nothing new
--
-- Assumes nothing.
use mathlib.Core.Path.{◌≡◌, refl, sym, ap, ap₂, ◌∙◌}
use mathlib.Core.Bool.{Bool, true, false, cond, not}
use mathlib.Core.List.{List, [], ◌∷◌, ◌++◌, map, append_assoc, append-nil}
use Prim.Native.Nat.{ℕ, zero, suc, ◌+◌, ◌-◌, ◌*◌, ◌/◌, ◌%◌, ◌^◌, ◌≤◌, ◌<◌, min}
use native.Mathlib.Nat.{le_trans, mul-suc, pow-suc, mod-lt}
use native.Mathlib.Omega.{arith}
use lib.Arith.{digits_div, digits_mod, digits_lt}
use lib.Pow.{pow_mono}
use lib.Bits.{bit_xor, xor_block}
use lib.Dec.{eqb, lit<}
use lib.ListN.{length, get_or, take, drop, replicate, length-take, length-drop, take-append-drop}
use lib.Seq.{take_at, drop_at, take-append-le, drop-append-le, length-take-le}
use Rattle.algebra.specs.Division.{sum}
use Rattle.algebra.proofs.Laws.{sum-length}
use Rattle.checks.specs.Binary.{𝔹, plus, plus_nil}
use Rattle.checks.specs.Bits.{is_odd, bits_of, bits, number, octets_of}
use Rattle.checks.specs.Steps.{xors}

-- ---- the bits of numbers

abbrev bit : Bool → ℕ
bit b = cond b 1 0

bit-lt : (b : Bool) → bit b < 2
bit-lt true = lit< tt
bit-lt false = lit< tt

pub bits_of-length : (n a : ℕ) → length (bits_of n a) ≡ n
unfolding bits_of
bits_of-length zero a = refl
bits_of-length (suc n) a = ap suc (bits_of-length n (a / 2))

odd-bit : (b : Bool) → eqb (bit b) 1 ≡ b
odd-bit true = refl
odd-bit false = refl

pub bits_of-number : (p : List Bool) → bits_of (length p) (number p) ≡ p
unfolding is_odd bits_of number
bits_of-number [] = refl
bits_of-number (b ∷ p) =
    ap₂ (λ (x : Bool) (q : List Bool). x ∷ q)
    (ap (λ (x : ℕ). eqb x 1) (digits_mod (number p) (bit-lt b)) ∙ odd-bit b)
    (ap (bits_of (length p)) (digits_div (number p) (bit-lt b)) ∙ bits_of-number p)

bit_odd : (x : ℕ) → x < 2 → bit (eqb x 1) ≡ x
bit_odd zero l = refl
bit_odd (suc zero) l = refl
bit_odd (suc (suc x)) l = absurd (omega arith)

pub number_bits_of : (n a : ℕ) → a < 2 ^ n → number (bits_of n a) ≡ a
unfolding is_odd bits_of number
number_bits_of zero a l = omega arith
number_bits_of (suc n) a l =
    ap₂ (λ (x y : ℕ). x * 2 + y) (number_bits_of n (a / 2) (omega (arith, pow-suc 2 n))) (bit_odd (a % 2) (mod-lt a (lit< tt))) ∙ (omega arith)

number_lt : (p : List Bool) → number p < 2 ^ length p
unfolding number
number_lt [] = lit< tt
number_lt (b ∷ p) = rw pow-suc (digits_lt (number_lt p) (bit-lt b))

xor-bit : (a b : Bool) → bit_xor (bit a) (bit b) ≡ bit (plus a b)
xor-bit true true = refl
xor-bit true false = refl
xor-bit false true = refl
xor-bit false false = refl

pub number-sum : (p q : List Bool) → length p ≡ length q → number (sum 𝔹 p q) ≡ bit_xor (number p) (number q)
unfolding sum number
number-sum [] [] e = refl
number-sum [] (b ∷ q) e = absurd (omega arith)
number-sum (a ∷ p) [] e = absurd (omega arith)
number-sum (a ∷ p) (b ∷ q) e =
    ap₂ (λ (x y : ℕ). x * 2 + y) (number-sum p q (omega arith)) (sym (xor-bit a b))
    ∙ sym (xor_block 1 (number p) (number q) (bit a) (bit b) (bit-lt a) (bit-lt b))

pub sum_bits_of : (n : ℕ) (p : List Bool) (a : ℕ) → length p ≡ n → a < 2 ^ n → sum 𝔹 p (bits_of n a) ≡ bits_of n (bit_xor (number p) a)
sum_bits_of n p a e l =
    let q : List Bool = sum 𝔹 p (bits_of n a) in
    sym (bits_of-number q)
    ∙ ap₂ bits_of (sum-length 𝔹 p (bits_of n a) ∙ e)
    (number-sum p (bits_of n a) (e ∙ sym (bits_of-length n a)) ∙ ap (bit_xor (number p)) (number_bits_of n a l))

-- ---- the bits of octets

pub bits-append : (u v : List ℕ) → bits (u ++ v) ≡ bits u ++ bits v
unfolding bits
bits-append [] v = refl
bits-append (a ∷ u) v = ap (λ (q : List Bool). bits_of 8 a ++ q) (bits-append u v) ∙ sym (append_assoc (bits_of 8 a) (bits u) (bits v))

pub bits-snoc : (u : List ℕ) (a : ℕ) → bits (u ++ a ∷ []) ≡ bits u ++ bits_of 8 a
unfolding bits
bits-snoc u a = bits-append u (a ∷ []) ∙ ap (λ (q : List Bool). bits u ++ q) (append-nil (bits_of 8 a))

-- ---- octets of bits

pub octets_of-length : (l : ℕ) (p : List Bool) → length (octets_of l p) ≡ l
unfolding octets_of
octets_of-length zero p = refl
octets_of-length (suc l) p = ap suc (octets_of-length l (drop 8 p))

pub octets_of-lt : (l : ℕ) (p : List Bool) (i : ℕ) → get_or (octets_of l p) i 0 < 256
unfolding octets_of
octets_of-lt zero p i = lit< tt
octets_of-lt (suc l) p zero = le_trans (number_lt (take 8 p)) (pow_mono {j = 8} (rw length-take (omega arith)))
octets_of-lt (suc l) p (suc i) = octets_of-lt l (drop 8 p) i

pub octets_of-cons : (l : ℕ) (a p : List Bool) → length a ≡ 8 → octets_of (suc l) (a ++ p) ≡ number a ∷ octets_of l p
unfolding octets_of
octets_of-cons l a p e = ap₂ (λ (x y : List Bool). number x ∷ octets_of l y) (take_at a p 8 e) (drop_at a p 8 e)

pub octets_of-snoc : (l : ℕ) (p : List Bool) → length p ≡ 8 * l → octets_of (suc l) (p ++ replicate 8 false) ≡ octets_of l p ++ 0 ∷ []
unfolding number octets_of
octets_of-snoc zero [] e = refl
octets_of-snoc zero (b ∷ p) e = absurd (omega arith)
octets_of-snoc (suc l) p e =
    let m : 8 ≤ length p = omega (arith, mul-suc 8 l) in
    ap₂ (λ (x y : List Bool). number x ∷ octets_of (suc l) y) (take-append-le 8 p (replicate 8 false) m) (drop-append-le 8 p (replicate 8 false) m)
    ∙ ap (λ (u : List ℕ). number (take 8 p) ∷ u) (octets_of-snoc l (drop 8 p) (length-drop 8 p ∙ (omega (arith, mul-suc 8 l))))

pub bits-octets_of : (l : ℕ) (p : List Bool) → length p ≡ 8 * l → bits (octets_of l p) ≡ p
unfolding bits octets_of
bits-octets_of zero [] e = refl
bits-octets_of zero (b ∷ p) e = absurd (omega arith)
bits-octets_of (suc l) p e =
    let m : length (take 8 p) ≡ 8 = length-take-le 8 p (omega (arith, mul-suc 8 l)) in
    ap₂ (λ (x y : List Bool). x ++ y) (ap (λ (n : ℕ). bits_of n (number (take 8 p))) (sym m) ∙ bits_of-number (take 8 p))
    (bits-octets_of l (drop 8 p) (length-drop 8 p ∙ (omega (arith, mul-suc 8 l))))
    ∙ take-append-drop 8 p

pub octets_of-bits : (u : List ℕ) → ((i : ℕ) → get_or u i 0 < 256) → octets_of (length u) (bits u) ≡ u
unfolding bits octets_of
octets_of-bits [] o = refl
octets_of-bits (a ∷ u) o =
    octets_of-cons (length u) (bits_of 8 a) (bits u) (bits_of-length 8 a)
    ∙ ap₂ (λ (x : ℕ) (v : List ℕ). x ∷ v) (number_bits_of 8 a (o 0)) (octets_of-bits u (λ i. o (suc i)))

pub sum-nothing : (p : List Bool) → sum 𝔹 p [] ≡ p
unfolding sum
sum-nothing [] = refl
sum-nothing (a ∷ p) = refl

take-sum : (n : ℕ) (p q : List Bool) → take n (sum 𝔹 p q) ≡ sum 𝔹 (take n p) (take n q)
unfolding sum
take-sum zero p q = refl
take-sum (suc n) [] q = refl
take-sum (suc n) (a ∷ p) [] = refl
take-sum (suc n) (a ∷ p) (b ∷ q) = ap (λ (x : List Bool). plus a b ∷ x) (take-sum n p q)

drop-sum : (n : ℕ) (p q : List Bool) → drop n (sum 𝔹 p q) ≡ sum 𝔹 (drop n p) (drop n q)
unfolding sum
drop-sum zero p q = refl
drop-sum (suc n) [] q = refl
drop-sum (suc n) (a ∷ p) [] = sym (sum-nothing (drop n p))
drop-sum (suc n) (a ∷ p) (b ∷ q) = drop-sum n p q

pub octets_of-sum : (l : ℕ) (p q : List Bool) → length p ≡ length q → octets_of l (sum 𝔹 p q) ≡ xors (octets_of l p) (octets_of l q)
unfolding octets_of
octets_of-sum zero p q e = refl
octets_of-sum (suc l) p q e =
    ap₂ (λ (x y : List Bool). number x ∷ octets_of l y) (take-sum 8 p q) (drop-sum 8 p q)
    ∙ ap₂ (λ (x : ℕ) (u : List ℕ). x ∷ u) (number-sum (take 8 p) (take 8 q) (simp length-take (ap (min 8) e)))
    (octets_of-sum l (drop 8 p) (drop 8 q) (simp length-drop (ap (λ (x : ℕ). x - 8) e)))

-- ---- the complement

pub not-sum : (p : List Bool) → map not p ≡ sum 𝔹 p (replicate (length p) true)
unfolding sum
not-sum [] = refl
not-sum (true ∷ p) = ap (λ (q : List Bool). false ∷ q) (not-sum p)
not-sum (false ∷ p) = ap (λ (q : List Bool). true ∷ q) (not-sum p)

pub sum_zeros : (n : ℕ) (p : List Bool) → sum 𝔹 p (replicate n false) ≡ p
unfolding sum
sum_zeros n [] = refl
sum_zeros zero (a ∷ p) = refl
sum_zeros (suc n) (a ∷ p) = ap₂ (λ (x : Bool) (q : List Bool). x ∷ q) (plus_nil a) (sum_zeros n p)
