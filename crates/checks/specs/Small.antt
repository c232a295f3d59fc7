-- Two vectors of the checks, by computation. The octets are in hex.
--
--   small   document 01's A1, check 8 of 10 80: F5; and from outside, the 16 bit check is X.25's, whose number for the digits "123456789" is 906E,
--           low octet first: 6E 90
--
-- Assumes nothing.
use Rattle.std.specs.Prelude.{◌≡◌, refl, [], ◌∷◌}
use Rattle.algebra.specs.Division.{sum, lowered, divided, remainder}
use Rattle.checks.specs.Bits.{is_odd, bits_of, bits, number, octets_of}
use Rattle.checks.specs.Check.{generator, plain, preset, check_bits, check_of, eight, sixteen}

pub small :
    (check_of eight (0x10 ∷ 0x80 ∷ []) ≡ 0xF5 ∷ [])
    × (check_of sixteen (0x31 ∷ 0x32 ∷ 0x33 ∷ 0x34 ∷ 0x35 ∷ 0x36 ∷ 0x37 ∷ 0x38 ∷ 0x39 ∷ []) ≡ 0x6E ∷ 0x90 ∷ [])
unfolding is_odd bits_of bits number octets_of sum lowered divided remainder generator plain preset check_bits check_of eight sixteen
small = (refl, refl)
