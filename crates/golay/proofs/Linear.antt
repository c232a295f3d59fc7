-- The parity, and the word, of a sum of data are the sums of theirs.
--
--   product_xor    for any matrix
--   product_next   a row added, and what those behind it give
--   bit_fits       a bit times a number of k bits has k bits
--   product_lt     a sum of rows that fit in k bits does too
--   parity_xor
--   parity-zero    .. so that 0 has the parity 0
--   parity-row     the data's bit i alone has row i for its parity
--   parity-lt      the parity has 12 bits
--   word_xor
--   word_lt        the word has 24 bits
--   fit k m        each number of m fits in k bits
--   Sums k f       f of a sum of two numbers of k bits is the sum of what f is of each
--   sums_same      two such functions, the same at each power of two, are the same
--
-- Assumes nothing.
use mathlib.Core.Path.{◌≡◌, refl, sym, ap, ap₂, ◌∙◌}
use mathlib.Core.Bool.{Bool, true, ◌&&◌}
use mathlib.Core.List.{List, [], ◌∷◌}
use Prim.Native.Nat.{ℕ, zero, suc, ◌+◌, ◌*◌, ◌/◌, ◌%◌, ◌^◌, ◌≤◌, ◌<◌}
use native.Mathlib.Nat.{zero-mul, one-mul, zero-add, mod-lt, le_refl, lt_of_lt_of_le}
use native.Mathlib.Numerals.{one-add, add-one}
use native.Mathlib.Omega.{arith}
use lib.Arith.{digits_lt, lt-one}
use lib.Bits.{bit_and, bit_xor, and_mask, xor_block, xor_lt, xor_shifted}
use lib.Dec.{T, ltb, eqb, ltb→lt, eqb→eq}
use lib.ListN.{length, get_or, drop}
use lib.Seq.{drop-cons}
use lib.Pow.{pow_pos, pow-lt, pow_mono, shr_lt, split}
use Rattle.octets.specs.Every.{every, every_at, both_left, both_right}
use Rattle.octets.specs.Xor.{bit-lt, xor_assoc, xor_swap, xor_half, xor-bit}
use Rattle.golay.specs.Matrix.{matrix}
use Rattle.golay.specs.Code.{product, parity, code_word}

-- ---- any matrix

pub product_xor : (m : List ℕ) (a b : ℕ) → product m (bit_xor a b) ≡ bit_xor (product m a) (product m b)
unfolding product
product_xor [] a b = refl
product_xor (r ∷ m) a b =
    ap₂ bit_xor (xor-bit a b r) (ap (product m) (xor_half a b) ∙ product_xor m (a / 2) (b / 2))
    ∙ xor_swap (a % 2 * r) (b % 2 * r) (product m (a / 2)) (product m (b / 2))

-- the row at i added, and what the rows behind it give to the higher bits
pub product_next : (m : List ℕ) (i d sum : ℕ) → i < length m
    → bit_xor (bit_xor sum (bit_and d 1 * get_or m i 0)) (product (drop (i + 1) m) (d / 2)) ≡ bit_xor sum (product (drop i m) d)
unfolding product
product_next m i d sum h =
    rw (and_mask d 1) (xor_assoc sum (d % 2 * get_or m i 0) (product (drop (i + 1) m) (d / 2)) ∙ rw (add-one i, drop-cons m i 0 h) refl)

abbrev pub fit : ℕ → List ℕ → Bool
fit k [] = true
fit k (r ∷ m) = ltb r (2 ^ k) && fit k m

pub bit_fits : (b r k : ℕ) → b < 2 → r < 2 ^ k → b * r < 2 ^ k
bit_fits zero r k h l = rw (zero-mul r) (pow_pos k)
bit_fits (suc zero) r k h l = rw (one-mul r) l
bit_fits (suc (suc b)) r k h l = absurd (omega arith)

pub product_lt : (k : ℕ) (m : List ℕ) → T (fit k m) → (d : ℕ) → product m d < 2 ^ k
unfolding product
product_lt k [] t d = pow_pos k
product_lt k (r ∷ m) t d =
    xor_lt k (d % 2 * r) (product m (d / 2)) (bit_fits (d % 2) r k (bit-lt d) (ltb→lt r (2 ^ k) (both_left (ltb r (2 ^ k)) (fit k m) t)))
    (product_lt k m (both_right (ltb r (2 ^ k)) (fit k m) t) (d / 2))

-- ---- the clause's

pub parity_xor : (a b : ℕ) → parity (bit_xor a b) ≡ bit_xor (parity a) (parity b)
unfolding parity
parity_xor = product_xor matrix

pub parity-zero : parity 0 ≡ 0
unfolding parity product matrix
parity-zero = refl

rows_test : T (every (λ i. eqb (parity (2 ^ i)) (get_or matrix i 0)) 12)
unfolding parity product matrix
rows_test = tt

pub parity-row : (i : ℕ) → i < 12 → parity (2 ^ i) ≡ get_or matrix i 0
parity-row i h = eqb→eq (parity (2 ^ i)) (get_or matrix i 0) (every_at (λ i. eqb (parity (2 ^ i)) (get_or matrix i 0)) 12 rows_test i h)

pub parity-lt : (d : ℕ) → parity d < 2 ^ 12
unfolding parity matrix
parity-lt d = product_lt 12 matrix tt d

pub word_xor : (a b : ℕ) → a < 2 ^ 12 → b < 2 ^ 12 → code_word (bit_xor a b) ≡ bit_xor (code_word a) (code_word b)
word_xor a b h l = ap (λ (x : ℕ). x * 2 ^ 12 + bit_xor a b) (parity_xor a b) ∙ sym (xor_block 12 (parity a) (parity b) a b h l)

pub word_lt : (d : ℕ) → d < 2 ^ 12 → code_word d < 2 ^ 24
word_lt d h = digits_lt (parity-lt d) h

-- ---- from the powers of two to all numbers

abbrev pub Sums : ℕ → (ℕ → ℕ) → Type 0
Sums k f = (a b : ℕ) → a < 2 ^ k → b < 2 ^ k → f (bit_xor a b) ≡ bit_xor (f a) (f b)

module _ (k : ℕ) (f g : ℕ → ℕ) (fs : Sums k f) (gs : Sums k g) (none : f 0 ≡ g 0) (each : (i : ℕ) → i < k → f (2 ^ i) ≡ g (2 ^ i)) where
  -- the highest bit, of n bits, and the rest
  top : (n b r : ℕ) → n < k → b < 2 → r < 2 ^ n → f r ≡ g r → f (b * 2 ^ n + r) ≡ g (b * 2 ^ n + r)
  top n zero r l h t e = rw (zero-mul (2 ^ n), zero-add r) e
  top n (suc zero) r l h t e =
      let s : r < 2 ^ k = lt_of_lt_of_le t (pow_mono {i = n} {j = k} (omega arith)) in
      rw (← (xor_shifted 1 n r t), one-mul (2 ^ n))
      (fs (2 ^ n) r (pow-lt l) s ∙ ap₂ bit_xor (each n l) e ∙ sym (gs (2 ^ n) r (pow-lt l) s))
  top n (suc (suc b)) r l h t e = absurd (omega arith)

  below : (n : ℕ) → n ≤ k → (d : ℕ) → d < 2 ^ n → f d ≡ g d
  below zero l d h = rw (lt-one h) none
  below (suc n) l d h =
      rw (← (split d n))
      (top n (d / 2 ^ n) (d % 2 ^ n) (omega arith) (shr_lt 1 n (rw (one-add n) h)) (mod-lt d (pow_pos n))
      (below n (omega arith) (d % 2 ^ n) (mod-lt d (pow_pos n))))

  pub sums_same : (d : ℕ) → d < 2 ^ k → f d ≡ g d
  sums_same = below k (le_refl k)
