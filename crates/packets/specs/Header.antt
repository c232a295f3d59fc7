-- The header of a packet (B.3.2.1): three octets by figure B.2,
--
--     8     7     6     5     4     3     2     1
--     MPL4  MPL3  MPL2  MPL1  MC4   MC3   MC2   MC1    octet 1
--     P4    P3    P2    P1    MPL8  MPL7  MPL6  MPL5   octet 2
--     P12   P11   P10   P9    P8    P7    P6    P5     octet 3
--
-- MC4 and MPL8 being the most significant bits of the multiplex code and of the payload's length.
--
--   data_of c n          the column of B.3.2.1.3, MC1 to MC4 and MPL1 to MPL8, as a number: its bit 1 is MC1
--   header_of c n        the three octets of the code c and the length n
--   header_word h        the 24 bits that three octets are, bit 1 of the first octet first
--   wrong_bits h g       in how many bits the headers h and g differ
--
-- Assumes nothing.
use Rattle.std.specs.Prelude.{List, [], ◌∷◌, ℕ, ◌+◌, ◌*◌, ◌/◌, ◌%◌, get_or}
use Rattle.golay.specs.Code.{parity, distance}

abbrev pub data_of : (code length : ℕ) → ℕ
data_of c n = c + 16 * n

abbrev pub header_of : (code length : ℕ) → List ℕ
header_of c n =
    let p = parity (data_of c n) in
    (c + n % 16 * 16) ∷ (n / 16 + p % 16 * 16) ∷ (p / 16) ∷ []

abbrev pub header_word : List ℕ → ℕ
header_word h = get_or h 0 0 + 256 * get_or h 1 0 + 65536 * get_or h 2 0

abbrev pub wrong_bits : List ℕ → List ℕ → ℕ
wrong_bits h g = distance (header_word h) (header_word g)
