-- What the syndrome step answers.
--
--   SyndromesAre m w s        s₀, .., s₍ₘ₋₁₎ are the values of w's polynomial at α, .., αᵐ, and the rest is zero
--   Decodable e w before s    what decoding is given: a word of the code's lengths, the room for it and for e places, and its syndromes
--   all_zero m s               s₀, .., s₍ₘ₋₁₎ are zero
--
-- Assumes nothing.
use Rattle.std.specs.Prelude.{◌≡◌, Bool, true, false, cond, List, ℕ, zero, suc, ◌*◌, ◌≤◌, ◌<◌, eqb, length, get_or}
use Rattle.algebra.specs.Power.{pow}
use Rattle.codeword.specs.Element.{elements, element, α}
use Rattle.codeword.specs.CodeWord.{longest_word}
use Rattle.codeword.specs.Places.{value}
use Rattle.codeword.specs.Repair.{RepairLent}

pub record SyndromesAre (m : ℕ) (w s : List ℕ) : Type 0 where
  pub used : (i : ℕ) → i < m → element (get_or s i 0) ≡ value w (pow elements α (suc i))
  pub unused : (i : ℕ) → m ≤ i → get_or s i 0 ≡ 0

pub record Decodable (e : ℕ) (w : List ℕ) (before : RepairLent) (s : List ℕ) : Type 0 where
  pub short : length w ≤ longest_word
  pub parity : 2 * e < length w
  pub room : length w ≤ length before.repair
  pub list : e ≤ length before.places
  pub syndromes : SyndromesAre (2 * e) w s

unfoldable pub all_zero : ℕ → List ℕ → Bool
all_zero zero s = true
all_zero (suc m) s = cond (eqb (get_or s m 0) 0) (all_zero m s) false
