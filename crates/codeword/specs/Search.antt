-- What the search for the roots of the locator answers.
--
--   value_of c n x              c₀ + c₁ x + .. + c₍ₙ₋₁₎ x^(n-1), on octets
--   SearchIs n l c at count    the first `count` numbers of `at` are, rising, all the places of n at the inverse of whose locator the polynomial c of
--                              degree at most l is zero
--   LeastOf n o v r            r is the least of the n octets of v from o on; where there are none, 255
--   Gathered p v at count      the first `count` numbers of `at` are, rising, all the places below p at which v is zero
--
-- Assumes nothing.
use Rattle.std.specs.Prelude.{◌≡◌, List, ℕ, ◌+◌, ◌≤◌, ◌<◌, length, get_or}
use Rattle.algebra.specs.Value.{ev}
use Rattle.algebra.specs.Lists.{Lists}
use Rattle.algebra.specs.Search.{Search}
use Rattle.field.specs.Octet as Octet
use Rattle.codeword.specs.Element.{elements, element, octet}
use Rattle.codeword.specs.CodeWord.{longest_word}
use Rattle.codeword.specs.Places.{places, inverses}

unfoldable pub value_of : List ℕ → ℕ → ℕ → ℕ
value_of c n x = octet (ev elements n (places c) (element x))

pub record SearchIs (n l : ℕ) (c at : List ℕ) (count : ℕ) : Type 0 where
  pub long : length at ≡ longest_word
  pub few : count ≤ n
  pub search : Search elements n count l (places c) (inverses n) (λ j. get_or at j 0)

pub record LeastOf (n o : ℕ) (v : List ℕ) (r : ℕ) : Type 0 where
  pub octet : r < Octet.size
  pub least : (i : ℕ) → i < n → r ≤ get_or v (o + i) 0
  pub greatest : (b : ℕ) → b < Octet.size → ((i : ℕ) → i < n → b ≤ get_or v (o + i) 0) → b ≤ r

pub record Gathered (p : ℕ) (v at : List ℕ) (count : ℕ) : Type 0 where
  pub long : length at ≡ longest_word
  pub few : count ≤ p
  pub lists : Lists p count (λ q. get_or v q 0 ≡ 0) (λ j. get_or at j 0)
