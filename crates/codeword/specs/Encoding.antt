-- Encoding (003, D.4.1.7.3, equations D-4 to D-6): the message u, then the 2e octets of the remainder of x^2e u by g, highest first.
--
--   Parity e u p                 p are those octets
--   encodes k e room             a message of k octets with its parity fits the code and the room
--   Done e u before n after      n octets, message and parity, are written at the front of the lent octets `before`
--   Encoded e u before r after   what encoding u into the lent octets answers and leaves: where it fits, that is done, and it tells how many
--                                octets that are; else none, and nothing changes
--
-- Assumes nothing.
use Rattle.std.specs.Prelude.{◌≡◌, Bool, true, false, ◌&&◌, Option, Some, None, List, ◌++◌, ℕ, ◌+◌, ◌*◌, leb, ltb, length}
use Rattle.octets.specs.Written.{written}
use Rattle.algebra.specs.Polynomial.{polynomial, raised, Remainder}
use Rattle.codeword.specs.Element.{elements}
use Rattle.codeword.specs.CodeWord.{longest_word, generator, word, Octets}

pub record Parity (e : ℕ) (u p : List ℕ) : Type 0 where
  pub long : length p ≡ 2 * e
  pub octets : Octets p
  pub remainder : Remainder elements (generator e) (2 * e) (raised elements (2 * e) (polynomial elements (word u))) (polynomial elements (word p))

-- at least one octet of message, no more in all than the longest word has, and the room for them
abbrev pub encodes : ℕ → ℕ → ℕ → Bool
encodes k e room = ltb 0 k && leb (k + 2 * e) longest_word && leb (k + 2 * e) room

pub record Done (e : ℕ) (u before : List ℕ) (n : ℕ) (after : List ℕ) : Type 0 where
  pub parity : List ℕ
  pub right : Parity e u parity
  pub count : n ≡ length u + 2 * e
  pub written_is : after ≡ written before 0 (u ++ parity)

abbrev pub Encoded : ℕ → List ℕ → List ℕ → Option ℕ → List ℕ → Type 0
Encoded e u before (Some n) after = (encodes (length u) e (length before) ≡ true) × Done e u before n after
Encoded e u before None after = (encodes (length u) e (length before) ≡ false) × (after ≡ before)
