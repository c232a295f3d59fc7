-- Parity in document 01's words ("Field and code"; 003, D.4.1.7.3): what is claimed of it by the one notion of a remainder that the checks
-- are told in too (`IsRemainder` of crate algebra), over every message; proofs/Remainder.antt proves each claim.
--
--   GeneratorMonic        g has degree 2e, and its highest coefficient is 1, so that it leaves one remainder
--   EncodedIsRemainder    octets stand behind the message u in what encoding writes exactly if they are the remainder of x^2e u by g, the
--                         highest coefficient first
--
-- Assumes nothing.
use Rattle.std.specs.Prelude.{◌≡◌, ◌↔◌, true, Option, Some, List, ℕ, ◌*◌, length, take, drop}
use Rattle.algebra.specs.Polynomial.{polynomial, raised}
use Rattle.algebra.specs.Remainder.{Monic, IsRemainder}
use Rattle.codeword.specs.Element.{elements}
use Rattle.codeword.specs.CodeWord.{generator, word, Octets}
use Rattle.codeword.specs.Encoding.{encodes, Encoded}

abbrev pub GeneratorMonic : Type 0
GeneratorMonic = (e : ℕ) → Monic elements (2 * e) (generator e)

abbrev pub EncodedIsRemainder : Type 0
EncodedIsRemainder =
    (e : ℕ) (u before after : List ℕ) (r : Option ℕ) → encodes (length u) e (length before) ≡ true → Encoded e u before r after
    → (n : ℕ) × (r ≡ Some n)
    × ((p : List ℕ) → Octets p
    → drop (length u) (take n after) ≡ p ↔ IsRemainder elements (generator e) (2 * e) (raised elements (2 * e) (polynomial elements (word u))) (word p))
