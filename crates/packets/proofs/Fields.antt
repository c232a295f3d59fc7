-- The fields of a header, and the 24 bits that it is.
--
--   data-small               code and length are 12 bits of data
--   code_of, length_of       .. from which both are read
--   data-of                  .. and which they make
--   header_is_word           the header is the code's word of its data
--   header_octets            .. whose octets it is, the lowest first
--   fields_stand             figure B.2
--   header_word-same         the first three octets are the header
--   header_near              the word of data, and a header
--   says_data, data_says     .. behind a flag
--   column_is                the data are the clause's column
--   wrong_bits_are           the wrong bits of a header by its octets
--
-- Assumes nothing.
use mathlib.Core.Path.{◌≡◌, refl, sym, ap, ap₂, ◌∙◌}
use mathlib.Core.List.{List, [], ◌∷◌}
use Prim.Native.Nat.{ℕ, zero, suc, ◌+◌, ◌-◌, ◌*◌, ◌/◌, ◌%◌, ◌^◌, ◌≤◌, ◌<◌}
use native.Mathlib.Omega.{arith}
use lib.ListN.{get_or, take, drop}
use lib.Pow.{shr-shr}
use lib.Seq.{get_or-take}
use borrow.Author.Tests.{le-ltb}
use Rattle.golay.specs.Matrix.{matrix}
use Rattle.golay.specs.Code.{parity, distance, Within}
use Rattle.golay.specs.Claims.{total, bit_at}
use Rattle.packets.specs.Header.{data_of, header_of, header_word, wrong_bits}
use Rattle.packets.specs.Claims.{column_at, FieldsStand, HeaderIsWord, WrongBitsAre, Says}
use Rattle.golay.proofs.Laws.{golay, total-same, distance_block}

module _ (c n : ℕ) (code : c < 16) where
  pub data-small : n < 256 → data_of c n < 2 ^ 12
  data-small h = omega arith

  pub code_of : data_of c n % 16 ≡ c
  code_of = omega arith

  pub length_of : data_of c n / 16 ≡ n
  length_of = omega arith

pub data-of : (d : ℕ) → data_of (d % 16) (d / 16) ≡ d
data-of d = omega arith

pub header_is_word : HeaderIsWord
header_is_word c n hc hn = omega arith

-- the first three octets of the word of 24 bits
pub header_octets : (c n p w : ℕ) → c < 16 → n < 256 → p ≡ parity (data_of c n) → w ≡ data_of c n + p * 4096 % 2 ^ 32
    → (w % 256) ∷ (w / 256 % 256) ∷ (w / 65536 % 256) ∷ [] ≡ header_of c n
header_octets c n p w hc hn e f =
    let s = (golay.systematic (data_of c n) (data-small c n hc hn)).2 in
    let small : p < 4096 = rw e s in
    let a : w % 256 ≡ c + n % 16 * 16 = omega arith in
    let b : w / 256 % 256 ≡ n / 16 + p % 16 * 16 = omega arith in
    let d : w / 65536 % 256 ≡ p / 16 = omega arith in
    rw (a, b, d, e) refl

pub column_is : (c n i : ℕ) → c < 16 → bit_at (data_of c n) i ≡ column_at c n i
column_is c n zero h = omega arith
column_is c n (suc zero) h = omega arith
column_is c n (suc (suc zero)) h = omega arith
column_is c n (suc (suc (suc zero))) h = omega arith
column_is c n (suc (suc (suc (suc i)))) h =
    let k = suc (suc (suc (suc i))) in
    let at : 4 + i ≡ k = omega arith in
    let back : k - 4 ≡ i = omega arith in
    let high : bit_at (data_of c n) (4 + i) ≡ bit_at n i
    = ap (λ (x : ℕ). x % 2) (sym (shr-shr (data_of c n) 4 i)) ∙ ap (λ (x : ℕ). x / 2 ^ i % 2) (length_of c n h) in
    rw (le-ltb k 4 (omega arith), back) (rw at at high)

parity-stands : (c n j : ℕ) → c < 16 → j < 12 → bit_at (parity (data_of c n)) j ≡ total 12 (λ i. bit_at (get_or matrix i 0) j * column_at c n i) % 2
parity-stands c n j h l =
    golay.parity_is (data_of c n) j l
    ∙ ap (λ (x : ℕ). x % 2)
    (total-same 12 (λ i. bit_at (get_or matrix i 0) j * bit_at (data_of c n) i) (λ i. bit_at (get_or matrix i 0) j * column_at c n i)
    (λ i. ap (λ (x : ℕ). bit_at (get_or matrix i 0) j * x) (column_is c n i h)))

pub fields_stand : (c n : ℕ) → c < 16 → n < 256 → FieldsStand c n
fields_stand c n hc hn =
    let s = (golay.systematic (data_of c n) (data-small c n hc hn)).2 in
    let p : get_or (header_of c n) 1 0 / 16 + get_or (header_of c n) 2 0 * 16 ≡ parity (data_of c n) = omega arith in
    record { three = refl; octets = octets s; code = omega arith; length = omega arith; parity = λ j l. rw p (parity-stands c n j hc l) }
  where
    octets : parity (data_of c n) < 4096 → (i : ℕ) → i < 3 → get_or (header_of c n) i 0 < 256
    octets s zero l = omega arith
    octets s (suc zero) l = omega arith
    octets s (suc (suc zero)) l = omega arith
    octets s (suc (suc (suc i))) l = absurd (omega arith)

pub header_word-same : (v w : List ℕ) → ((i : ℕ) → i < 3 → get_or v i 0 ≡ get_or w i 0) → header_word v ≡ header_word w
header_word-same v w same = rw (same 0 (omega arith), same 1 (omega arith), same 2 (omega arith))

-- the data of a code and a length, and a header with at most three wrong bits
pub header_near : (h : List ℕ) (c n : ℕ) → c ≤ 15 → n ≤ 255 → wrong_bits h (header_of c n) ≤ 3 → Within (header_word h) (data_of c n)
header_near h c n hc hn near =
    let word = header_is_word c n (omega arith) (omega arith) in
    (data-small c n (omega arith) (omega arith), rw word at near)

module _ (u : List ℕ) where
  front : header_word (take 3 (drop 2 u)) ≡ header_word (drop 2 u)
  front = header_word-same (take 3 (drop 2 u)) (drop 2 u) (λ i l. get_or-take 3 (drop 2 u) i 0 l)

  pub says_data : (c n : ℕ) → Says u c n → Within (header_word (drop 2 u)) (data_of c n)
  says_data c n (hc, hn, near) = rw front at (header_near (take 3 (drop 2 u)) c n hc hn near)

  pub data_says : (d : ℕ) → Within (header_word (drop 2 u)) d → Says u (d % 16) (d / 16)
  data_says d (small, near) =
      let word = header_is_word (d % 16) (d / 16) (omega arith) (omega arith) in
      (omega arith, omega arith, rw (front, word, data-of d) near)

-- ---- the wrong bits

pub wrong_bits_are : WrongBitsAre
wrong_bits_are h g octets =
    let o = octets 0 (omega arith) in
    let p = octets 1 (omega arith) in
    ap₂ distance (joined h) (joined g)
    ∙ distance_block 8 (get_or h 2 0 * 2 ^ 8 + get_or h 1 0) (get_or g 2 0 * 2 ^ 8 + get_or g 1 0) (get_or h 0 0) (get_or g 0 0) o.0 o.1
    ∙ ap (λ (x : ℕ). x + distance (get_or h 0 0) (get_or g 0 0)) (distance_block 8 (get_or h 2 0) (get_or g 2 0) (get_or h 1 0) (get_or g 1 0) p.0 p.1)
    ∙ omega arith
  where
    joined : (v : List ℕ) → header_word v ≡ (get_or v 2 0 * 2 ^ 8 + get_or v 1 0) * 2 ^ 8 + get_or v 0 0
    joined v = omega arith
