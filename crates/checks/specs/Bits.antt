-- Octets and their bits. Bit number 1 of an octet is its least significant one, bit 8 its most significant, and bit 1 of the
-- first octet comes first (000, 7.3.2.2; document 01, "Checks").
--
--   is_odd a        bit 1 of a is 1
--   bits_of n a     bits 1 to n of a, in this order
--   bits u         the bits of the octets u, in the order of sending
--   number p       the number whose bits are p, the first its bit 1
--   octets_of l p   l octets whose bits are p
--
-- Assumes nothing.
use Rattle.std.specs.Prelude.{Bool, cond, List, [], ◌∷◌, ◌++◌, ℕ, zero, suc, ◌+◌, ◌*◌, ◌/◌, ◌%◌, eqb, take, drop}

unfoldable pub is_odd : ℕ → Bool
is_odd a = eqb (a % 2) 1

unfoldable pub bits_of : ℕ → ℕ → List Bool
bits_of zero a = []
bits_of (suc n) a = is_odd a ∷ bits_of n (a / 2)

unfoldable pub bits : List ℕ → List Bool
bits [] = []
bits (a ∷ u) = bits_of 8 a ++ bits u

unfoldable pub number : List Bool → ℕ
number [] = 0
number (b ∷ p) = number p * 2 + cond b 1 0

unfoldable pub octets_of : ℕ → List Bool → List ℕ
octets_of zero p = []
octets_of (suc l) p = number (take 8 p) ∷ octets_of l (drop 8 p)
