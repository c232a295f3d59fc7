-- The code (003, D.4.1.7.3).
--
--   longest_word       how many octets the longest word has: as many as α has powers
--   generator e       g = (x - α) (x - α²) .. (x - α^2e), and 1 for e = 0
--   word w            the octets of w as elements
--   Octets w          each number of w is an octet
--   CodeWord e w      w is a word of octets whose polynomial, the first octet its highest coefficient, g divides
--   differs a b       1 where two octets differ, 0 where not
--   distance v w      in how many octets two words of one length differ
--   Within e w c      c is a code word of as many octets as w, and differs from w in at most e of them
--
-- Assumes nothing.
use Rattle.std.specs.Prelude.{◌≡◌, cond, List, [], ◌∷◌, map, ℕ, ◌+◌, ◌*◌, ◌≤◌, ◌<◌, eqb, length, get_or}
use Rattle.algebra.specs.Series.{Series}
use Rattle.algebra.specs.Polynomial.{polynomial, rooted, Divides}
use Rattle.algebra.specs.Power.{rising}
use Rattle.field.specs.Octet.{size}
use Rattle.codeword.specs.Element.{elements, element, α}

abbrev pub longest_word : ℕ
longest_word = 255

unfoldable pub generator : ℕ → Series elements
generator e = rooted elements (2 * e) (rising elements α)

unfoldable pub word : List ℕ → List elements.Carrier
word w = map element w

abbrev pub Octets : List ℕ → Type 0
Octets w = (i : ℕ) → get_or w i 0 < size

pub record CodeWord (e : ℕ) (w : List ℕ) : Type 0 where
  pub octets : Octets w
  pub divided : Divides elements (generator e) (polynomial elements (word w))

abbrev pub differs : ℕ → ℕ → ℕ
differs a b = cond (eqb a b) 0 1

unfoldable pub distance : List ℕ → List ℕ → ℕ
distance [] w = length w
distance (a ∷ v) [] = length (a ∷ v)
distance (a ∷ v) (b ∷ w) = differs a b + distance v w

pub record Within (e : ℕ) (w c : List ℕ) : Type 0 where
  pub long : length c ≡ length w
  pub code : CodeWord e c
  pub near : distance w c ≤ e
