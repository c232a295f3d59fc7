-- The extended Golay code (24, 12, 8) of B.3.2.1.3. Bit 1 of a number is its lowest. A word of 24 bits has the data in its bits 1 to 12 and P1 to
-- P12 in its bits 13 to 24.
--
--   product m d      the transpose of the matrix m times the column d, modulo 2: the sum of the rows at the ones of d
--   parity d         P1 to P12 of the data d
--   code_word d      the word of the data d ("systematic": the data stand in it unchanged)
--   distance a b     in how many bits a and b differ
--   most_wrong       how many wrong bits are put right
--   Within w d       the word of the data d lies within three bits of w
--   is_near w d      .. as a test
--   first_near n w   data below n whose word does, if there are any
--   nearest w        the data whose word lies within three bits of w, if there are any
--
-- That there are never two is claimed in specs/Claims.antt.
--
-- Assumes nothing.
use Rattle.std.specs.Prelude.{Bool, cond, List, [], ◌∷◌, ℕ, zero, suc, ◌+◌, ◌*◌, ◌/◌, ◌%◌, ◌^◌, ◌≤◌, ◌<◌, leb, Option, Some, None}
use Rattle.std.specs.Int.Bits.{bit_xor}
use Rattle.std.specs.Int.Count.{ones}
use Rattle.golay.specs.Matrix.{matrix}

unfoldable pub product : List ℕ → ℕ → ℕ
product [] d = 0
product (r ∷ m) d = bit_xor (d % 2 * r) (product m (d / 2))

unfoldable pub parity : ℕ → ℕ
parity d = product matrix d

abbrev pub code_word : ℕ → ℕ
code_word d = parity d * 2 ^ 12 + d

abbrev pub distance : ℕ → ℕ → ℕ
distance a b = ones (bit_xor a b)

abbrev pub most_wrong : ℕ
most_wrong = 3

abbrev pub Within : ℕ → ℕ → Type 0
Within w d = (d < 2 ^ 12) × (distance w (code_word d) ≤ most_wrong)

abbrev pub is_near : ℕ → ℕ → Bool
is_near w d = leb (distance w (code_word d)) most_wrong

unfoldable pub first_near : ℕ → ℕ → Option ℕ
first_near zero w = None
first_near (suc n) w = cond (is_near w n) (Some n) (first_near n w)

unfoldable pub nearest : ℕ → Option ℕ
nearest w = first_near 4096 w
