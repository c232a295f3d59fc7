-- What the division of encoding answers: the shift register of figure D.3/H.223, in place, over the message with m zeros behind it.
--
--   G m                     (x - α) .. (x - αᵐ)
--   ones, room              how many ones stand before the generator's coefficients in their array, and how many octets that has
--   GeneratorIs m g         in such an array, where the ones end, stand its m + 1 coefficients, the highest first, and behind these 16 zeros
--   GeneratorIs-prop        .. which is so in one way at most
--   RemainderIs m u p       p₀, .., pₘ₋₁ are the remainder of x^m u by G m, and the rest is zero
--   width                   how many octets the register's array has
--   Lowered n i g w v       the first n octets of a turn: the generator times octet i of w is taken off what stands behind it, which gives v
--   behind m i u w          what stands in w from octet i of the message u on, to the end of the zeros, as a polynomial
--   Dividing m i u w        after i turns: what stands there is x^m u but for a multiple of the generator
--   Padded z u w            w has z octets: those of u, and zeros behind
--
-- Assumes nothing.
use Rattle.std.specs.Prelude.{◌≡◌, List, ℕ, suc, ◌+◌, ◌-◌, ◌≤◌, ◌<◌, get_or, take, drop, length}
use mathlib.Core.HLevel.{hedberg}
use Rattle.std.proofs.Math.Nat.{ℕ_set}
use Rattle.algebra.specs.Series.{Series, operations}
use Rattle.algebra.specs.Power.{rising}
use Rattle.algebra.specs.Polynomial.{polynomial, raised, rooted, Divides, Remainder}
use Rattle.field.specs.Octet as Octet
use Rattle.codeword.specs.Element.{elements, element, α}
use Rattle.codeword.specs.CodeWord.{longest_word, word, Octets}
use Rattle.codeword.specs.Lanes.{lanes}

infixl 60 ◌⊞◌
open operations elements use {◌⊞◌}

abbrev pub G : ℕ → Series elements
G m = rooted elements m (rising elements α)

abbrev pub ones : ℕ
ones = 128

abbrev pub room : ℕ
room = 400

pub record GeneratorIs (m : ℕ) (g : List ℕ) : Type 0 where
  pub long : length g ≡ room
  pub coefficients : (i : ℕ) → i ≤ m → element (get_or g (ones + i) 0) ≡ G m (m - i)
  pub zeros : (k : ℕ) → k < lanes → get_or g (ones + suc (m + k)) 0 ≡ 0

pub GeneratorIs-prop : (m : ℕ) (g : List ℕ) → IsProp (GeneratorIs m g)
GeneratorIs-prop m g p q = λ i. record {
  long = ℕ_set _ _ p.long q.long i;
  coefficients = λ k l. hedberg elements.decide _ _ (p.coefficients k l) (q.coefficients k l) i;
  zeros = λ k l. ℕ_set _ _ (p.zeros k l) (q.zeros k l) i;
}

pub record RemainderIs (m : ℕ) (u p : List ℕ) : Type 0 where
  pub long : length p ≡ longest_word
  pub octets : Octets p
  pub unused : (j : ℕ) → m ≤ j → get_or p j 0 ≡ 0
  pub remainder : Remainder elements (G m) m (raised elements m (polynomial elements (word u))) (polynomial elements (word (take m p)))

abbrev pub width : ℕ
width = 528

pub record Lowered (n i : ℕ) (g w v : List ℕ) : Type 0 where
  pub long : length v ≡ length w
  pub done : (j : ℕ) → j < n
      → get_or v (suc (i + j)) 0 ≡ Octet.sum (Octet.product (get_or w i 0) (get_or g (ones + suc j) 0)) (get_or w (suc (i + j)) 0)
  pub front : (j : ℕ) → j ≤ i → get_or v j 0 ≡ get_or w j 0
  pub rest : (j : ℕ) → i + n < j → get_or v j 0 ≡ get_or w j 0

abbrev pub behind : ℕ → ℕ → List ℕ → List ℕ → Series elements
behind m i u w = polynomial elements (word (take (length u + m - i) (drop i w)))

pub record Dividing (m i : ℕ) (u w : List ℕ) : Type 0 where
  pub long : length w ≡ width
  pub octets : (j : ℕ) → length u ≤ j → get_or w j 0 < Octet.size
  pub divides : Divides elements (G m) (raised elements m (polynomial elements (word u)) ⊞ behind m i u w)

pub record Padded (z : ℕ) (u w : List ℕ) : Type 0 where
  pub long : length w ≡ z
  pub entry : (i : ℕ) → get_or w i 0 ≡ get_or u i 0
