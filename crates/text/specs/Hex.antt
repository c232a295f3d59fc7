-- Octets in hex, and what the decoding of a text and of a word answers and leaves.
--
--   hex_digit c                the value of a hex digit, in either case, and 16 for an octet that is none
--   is_pair a b                both are hex digits
--   is_hex s                   s is pairs of hex digits
--   octets_of s                the octets of these pairs
--   is_octets s room           s stands for octets, of which there are at most so many: it is one pair or more, or `-` for none
--   decoded_into s out         out with these octets at its front, where s stands for octets and they fit, and as it was where not
--   IsDecoded s out r out'     r is how many octets s stands for, or none where it stands for none that fit, and out' is what is left in out
--   IsGiven s to out r at out' the same of the word s, which ends at `to`; the next is then read from `at` on
--
-- Assumes nothing.
use Rattle.std.specs.Prelude.{◌≡◌, Bool, true, false, cond, ◌&&◌, ◌||◌, List, [], ◌∷◌, ℕ, ◌+◌, ◌-◌, ◌*◌, Option, Some, None, leb, ltb, length}
use Rattle.octets.specs.Same.{same}
use Rattle.text.specs.Numbers.{between}
use Rattle.octets.specs.Written.{written}

unfoldable pub hex_digit : ℕ → ℕ
hex_digit c = cond (between 48 57 c) (c - 48) (cond (between 65 70 c) (c - 55) (cond (between 97 102 c) (c - 87) 16))

abbrev pub is_pair : ℕ → ℕ → Bool
is_pair a b = ltb (hex_digit a) 16 && ltb (hex_digit b) 16

unfoldable pub is_hex : List ℕ → Bool
is_hex [] = true
is_hex (a ∷ []) = false
is_hex (a ∷ b ∷ s) = is_pair a b && is_hex s

unfoldable pub octets_of : List ℕ → List ℕ
octets_of [] = []
octets_of (a ∷ []) = []
octets_of (a ∷ b ∷ s) = (hex_digit a * 16 + hex_digit b) ∷ octets_of s

abbrev pub is_octets : List ℕ → ℕ → Bool
is_octets s room = same s (45 ∷ []) || (ltb 0 (length s) && is_hex s && leb (length s) (2 * room))

abbrev pub decoded_into : List ℕ → List ℕ → List ℕ
decoded_into s out = cond (is_octets s (length out)) (written out 0 (octets_of s)) out

pub record IsDecoded (s out : List ℕ) (r : Option ℕ) (out' : List ℕ) : Type 0 where
  pub answer : r ≡ cond (is_octets s (length out)) (Some (length (octets_of s))) None
  pub stands : out' ≡ decoded_into s out

pub record IsGiven (s : List ℕ) (to : ℕ) (out : List ℕ) (r : Option ℕ) (at : ℕ) (out' : List ℕ) : Type 0 where
  pub answer : r ≡ cond (is_octets s (length out)) (Some (length (octets_of s))) None
  pub place : at ≡ to
  pub stands : out' ≡ decoded_into s out
