-- 16 octets side by side, the lanes: what the steps answer that load and store them, and that work on each of them alike.
--
--   lanes               how many there are
--   Filled z n f r      r has z entries, and the first n of them are f₀, .., fₙ₋₁
--   Lanes f r           .. and they are all: f₀, .., f₁₅
--   OctetLanes r        the first 16 entries of r are octets
--   Stored n o a s t    t is s with the first n entries of a written over it from o on
--   Summed n a b r      r is the octet a₀ b₀ + .. + aₙ₋₁ bₙ₋₁
--   along k             the points αᵏ, αᵏ⁺¹, ..
--   Reached k           16 of them stand in the row of powers, with the doublings behind them that a product asks for
--   Turned x a c b      one turn of Horner's rule in each lane, at the points x: a becomes x a + c
--
-- Assumes nothing.
use Rattle.std.specs.Prelude.{◌≡◌, List, ℕ, ◌+◌, ◌≤◌, ◌<◌, length, get_or}
use Rattle.algebra.specs.Interpolation.{total}
use Rattle.field.specs.Octet as Octet
use Rattle.field.specs.Octet.Table.{Doublings}
use Rattle.codeword.specs.Element.{elements, element}

infixl 70 ◌⊙◌
open elements use {mul as ◌⊙◌}

abbrev pub lanes : ℕ
lanes = 16

pub record Filled (z n : ℕ) (f : ℕ → ℕ) (r : List ℕ) : Type 0 where
  pub long : length r ≡ z
  pub entry : (k : ℕ) → k < n → get_or r k 0 ≡ f k

abbrev pub Lanes : (ℕ → ℕ) → List ℕ → Type 0
Lanes f r = Filled lanes lanes f r

abbrev pub OctetLanes : List ℕ → Type 0
OctetLanes r = (k : ℕ) → k < lanes → get_or r k 0 < Octet.size

pub record Stored (n o : ℕ) (a s t : List ℕ) : Type 0 where
  pub long : length t ≡ length s
  pub written : (k : ℕ) → k < n → get_or t (o + k) 0 ≡ get_or a k 0
  pub before : (i : ℕ) → i < o → get_or t i 0 ≡ get_or s i 0
  pub behind : (i : ℕ) → o + n ≤ i → get_or t i 0 ≡ get_or s i 0

pub record Summed (n : ℕ) (a b : List ℕ) (r : ℕ) : Type 0 where
  pub octet : r < Octet.size
  pub sum : element r ≡ total elements n (λ k. element (get_or a k 0) ⊙ element (get_or b k 0))

abbrev pub along : ℕ → ℕ → ℕ
along k i = Octet.power Octet.α (k + i)

abbrev pub Reached : ℕ → Type 0
Reached k = Doublings (k + 15)

abbrev pub Turned : (x : ℕ → ℕ) (a : List ℕ) (c : ℕ → ℕ) → List ℕ → Type 0
Turned x a c b = Lanes (λ i. Octet.sum (Octet.product (x i) (get_or a i 0)) (c i)) b
