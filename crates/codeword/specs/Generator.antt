-- What the steps answer that make the generator's coefficients, the highest first, behind as many ones as a step looks back.
--
--   coefficient m i    the coefficient of (x - α) .. (x - αᵐ) that stands at place i: at place 128 the highest, 1; before it, 1 too
--   Upper e s n p      the octet at each place of the upper half that is below n, times the coefficient s places before, is the one there
--   Doubled s l h p q  the octets from l on and below h have been multiplied by those s places before
--   Half m n p         at the places below n, as far as there are coefficients, stand these
--   rise e             α to the 2e + 1
--
-- Assumes nothing.
use Rattle.std.specs.Prelude.{◌≡◌, List, ℕ, suc, ◌+◌, ◌-◌, ◌*◌, ◌≤◌, ◌<◌, get_or, length}
use Rattle.field.specs.Octet as Octet
use Rattle.codeword.specs.Element.{elements, element}
use Rattle.codeword.specs.Register.{G, ones, room}

infixl 70 ◌⊙◌
open elements use {Carrier as F, mul as ◌⊙◌}

abbrev pub coefficient : ℕ → ℕ → F
coefficient m i = G m (m - (i - ones))

pub record Upper (e s n : ℕ) (p : List ℕ) : Type 0 where
  pub long : length p ≡ room
  pub each : (i : ℕ) → i < n → i ≤ ones + e → element (get_or p i 0) ⊙ coefficient (2 * e) (i - s) ≡ coefficient (2 * e) i

pub record Doubled (s l h : ℕ) (p q : List ℕ) : Type 0 where
  pub long : length q ≡ length p
  pub done : (i : ℕ) → l ≤ i → i < h → get_or q i 0 ≡ Octet.product (get_or p i 0) (get_or p (i - s) 0)
  pub before : (i : ℕ) → i < l → get_or q i 0 ≡ get_or p i 0

pub record Half (m n : ℕ) (p : List ℕ) : Type 0 where
  pub long : length p ≡ room
  pub each : (i : ℕ) → i < n → i ≤ ones + m → element (get_or p i 0) ≡ coefficient m i

abbrev pub rise : ℕ → ℕ
rise e = Octet.power Octet.α (suc (2 * e))
