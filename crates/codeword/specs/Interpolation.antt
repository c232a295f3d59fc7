-- What the steps of the interpolation answer.
--
--   points                   α, α², .., the roots of the generator
--   ElementLanes f r         the first 16 entries of r are octets, the elements f₀, .., f₁₅
--   divisor e x              the value of the generator without its factor y - x, at its root x: that of its derivative, by x²
--   share e s k              how often part k is taken: value k, s at k, over the divisor
--   PartsAdded n m x w p q   q is p, with 16 parts, taken w₀, .., w₁₅ times, added to its first n octets
--   Interpolates e o s p     p are the coefficients of the sum of the first o parts, the highest first; zero where unused
--
-- Assumes nothing.
use Rattle.std.specs.Prelude.{◌≡◌, List, ℕ, suc, ◌-◌, ◌*◌, ◌≤◌, ◌<◌, get_or, length}
use Rattle.algebra.specs.Series.{Series}
use Rattle.algebra.specs.Power.{rising}
use Rattle.algebra.specs.Value.{ev}
use Rattle.algebra.specs.Derivative.{odds}
use Rattle.algebra.specs.Interpolation.{quo, total, interpolated}
use Rattle.codeword.specs.Element.{elements, element, α}
use Rattle.codeword.specs.CodeWord.{longest_word, Octets}
use Rattle.codeword.specs.Lanes.{lanes, OctetLanes}
use Rattle.codeword.specs.Register.{G}

infixl 60 ◌⊕◌
infixl 70 ◌⊙◌
open elements use {Carrier as F, add as ◌⊕◌, mul as ◌⊙◌, inv}

abbrev pub points : Series elements
points = rising elements α

pub record ElementLanes (f : ℕ → F) (r : List ℕ) : Type 0 where
  pub octet : OctetLanes r
  pub is : (k : ℕ) → k < lanes → element (get_or r k 0) ≡ f k

abbrev pub divisor : ℕ → F → F
divisor e x = ev elements e (odds elements (G (2 * e))) (x ⊙ x)

abbrev pub share : ℕ → List ℕ → Series elements
share e s k = element (get_or s k 0) ⊙ inv (divisor e (points k))

pub record PartsAdded (n m : ℕ) (x w p q : List ℕ) : Type 0 where
  pub long : length q ≡ length p
  pub octets : Octets p → Octets q
  pub done : (i : ℕ) → i < n
      → element (get_or q i 0)
      ≡ element (get_or p i 0) ⊕ total elements lanes (λ k. element (get_or w k 0) ⊙ quo elements m (G m) (element (get_or x k 0)) (m - suc i))
  pub rest : (i : ℕ) → n ≤ i → get_or q i 0 ≡ get_or p i 0

pub record Interpolates (e o : ℕ) (s p : List ℕ) : Type 0 where
  pub long : length p ≡ longest_word
  pub octets : Octets p
  pub used : (i : ℕ) → i < 2 * e → element (get_or p i 0) ≡ interpolated elements (2 * e) points o (share e s) (2 * e - suc i)
  pub unused : (i : ℕ) → 2 * e ≤ i → get_or p i 0 ≡ 0
