-- The checks in the words of their clauses (000, 7.3.3.2.3 and 7.4.3.2.3; document 01, "Checks"), by the one notion of a remainder that the
-- parity is told in too (`IsRemainder` of crate algebra); proofs/Bits.antt proves `BitsAre`, and proofs/Remainders.antt
-- each other claim.
--
--   sum_of t               the sum of the powers of x with the exponents t
--   G8, G16               x^8 + x^2 + x + 1 and x^16 + x^12 + x^5 + 1
--   divisor κ             the generator of the check κ, with its highest term
--   of_content w c         x^w times the content c
--   of_ones w k            x^k (x^(w-1) + .. + x + 1)
--   Conditioned g w c r   r is the ones' complement of the sum of two remainders by g: of x^k (x^(w-1) + .. + x + 1), where the content c has
--                         k bits, and of x^w c
--   BitsAre               the bits of octets are eight of the first, its least significant first, and then those of the others
--   GeneratorsAre         the generators of the checks of 8 and 16 bits are G8 and G16
--   PlainIsRemainder      what is not conditioned is the remainder of x^w times the content, for every kind of check
--   Check8Exactly         an octet is the check of 8 bits exactly if it is the remainder of x^8 times the content by G8
--   Check16Exactly        two octets are the check of 16 bits exactly if they are the complement of the sum of the two remainders by G16
--
-- A content's bits are read in the order of sending: bit 1 of its first octet is the highest coefficient, and so of a check. Assumes nothing.
use Rattle.std.specs.Prelude.{◌≡◌, ◌↔◌, Bool, true, false, not, List, [], ◌∷◌, map, ℕ, ◌/◌, ◌%◌, ◌^◌, ◌<◌, eqb, length, get_or, drop, replicate}
use Rattle.algebra.specs.Series.{Series, operations}
use Rattle.algebra.specs.Polynomial.{monomial, polynomial, raised}
use Rattle.algebra.specs.Division.{sum}
use Rattle.algebra.specs.Remainder.{IsRemainder}
use Rattle.codeword.specs.CodeWord.{Octets}
use Rattle.checks.specs.Binary.{𝔹}
use Rattle.checks.specs.Bits.{bits}
use Rattle.checks.specs.Check.{Kind, width, generator, plain, check_of, eight, sixteen}

infixl 60 ◌⊞◌
open operations 𝔹 use {◌⊞◌, none}

abbrev pub sum_of : List ℕ → Series 𝔹
sum_of [] = none
sum_of (n ∷ t) = monomial 𝔹 n true ⊞ sum_of t

abbrev pub G8 : Series 𝔹
G8 = sum_of (8 ∷ 2 ∷ 1 ∷ 0 ∷ [])

abbrev pub G16 : Series 𝔹
G16 = sum_of (16 ∷ 12 ∷ 5 ∷ 0 ∷ [])

abbrev pub divisor : Kind → Series 𝔹
divisor κ = polynomial 𝔹 (true ∷ generator κ)

abbrev pub of_content : ℕ → List Bool → Series 𝔹
of_content w c = raised 𝔹 w (polynomial 𝔹 c)

abbrev pub of_ones : ℕ → ℕ → Series 𝔹
of_ones w k = raised 𝔹 k (polynomial 𝔹 (replicate w true))

pub record Conditioned (g : Series 𝔹) (w : ℕ) (c r : List Bool) : Type 0 where
  pub ones : List Bool
  pub content : List Bool
  pub ones_are : IsRemainder 𝔹 g w (of_ones w (length c)) ones
  pub content_is : IsRemainder 𝔹 g w (of_content w c) content
  pub is : r ≡ map not (sum 𝔹 ones content)

-- "Bit number 1 is an octet's least significant bit and comes first"
abbrev pub BitsAre : Type 0
BitsAre =
    (a : ℕ) (u : List ℕ)
    → (bits [] ≡ []) × (drop 8 (bits (a ∷ u)) ≡ bits u) × ((i : ℕ) → i < 8 → get_or (bits (a ∷ u)) i false ≡ eqb (a / 2 ^ i % 2) 1)

abbrev pub GeneratorsAre : Type 0
GeneratorsAre = (divisor eight ≡ G8) × (divisor sixteen ≡ G16)

abbrev pub PlainIsRemainder : Type 0
PlainIsRemainder = (κ : Kind) (c : List Bool) → IsRemainder 𝔹 (divisor κ) (width κ) (of_content (width κ) c) (plain κ c)

abbrev pub Check8Exactly : Type 0
Check8Exactly = (u r : List ℕ) → Octets r → length r ≡ 1 → r ≡ check_of eight u ↔ IsRemainder 𝔹 G8 8 (of_content 8 (bits u)) (bits r)

abbrev pub Check16Exactly : Type 0
Check16Exactly = (u r : List ℕ) → Octets r → length r ≡ 2 → r ≡ check_of sixteen u ↔ Conditioned G16 16 (bits u) (bits r)
