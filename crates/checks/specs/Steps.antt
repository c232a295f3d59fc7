-- What the division by a check's generator holds on its way, in octets.
--
--   held κ s u        what a register holds that divides by the generator of the check κ, started with the octets s, once it has taken the
--                     octets u
--   start κ           what it starts with for a check: ones if the check is conditioned, zeros if not
--   left κ u          the remainder of x^w times the octets u
--   remainder_of κ x   .. of the one octet x
--   xors u v          the octets v added to the first of u
--   turned κ s o      what a register of the octets s holds once it has taken the octet o
--   added a m v       a added to each octet of v at whose place m has true
--   Folds κ i j k     the generator of κ has its terms below the highest i, j and k places behind it, and folds: an octet before as many zeros as
--                     the generator has coefficients below the highest leaves what these zeros leave with the octet added where it has its terms
--
-- Assumes nothing.
use Rattle.std.specs.Prelude.{◌≡◌, Bool, true, false, List, [], ◌∷◌, ℕ, suc, ◌-◌, ◌<◌, length, get_or, drop, replicate, set}
use Rattle.std.specs.Int.Bits.{bit_xor}
use Rattle.algebra.specs.Register.{register}
use Rattle.checks.specs.Binary.{𝔹}
use Rattle.checks.specs.Bits.{bits_of, bits, octets_of}
use Rattle.checks.specs.Check.{Kind, width, generator, plain}

unfoldable pub held : Kind → List ℕ → List ℕ → List ℕ
held κ s u = octets_of κ.octets (register 𝔹 (generator κ) (bits s) (bits u))

unfoldable pub start : Kind → List ℕ
start κ = octets_of κ.octets (replicate (width κ) κ.conditioned)

unfoldable pub left : Kind → List ℕ → List ℕ
left κ u = octets_of κ.octets (plain κ (bits u))

unfoldable pub remainder_of : Kind → ℕ → List ℕ
remainder_of κ x = octets_of κ.octets (plain κ (bits_of 8 x))

abbrev pub xors : List ℕ → List ℕ → List ℕ
xors [] v = []
xors (a ∷ u) [] = a ∷ u
xors (a ∷ u) (b ∷ v) = bit_xor a b ∷ xors u v

abbrev pub turned : Kind → List ℕ → ℕ → List ℕ
turned κ s o = xors (remainder_of κ (bit_xor (get_or s 0 0) o)) (drop 1 s)

abbrev pub added : ℕ → List Bool → List ℕ → List ℕ
added a [] v = v
added a (b ∷ m) [] = []
added a (true ∷ m) (x ∷ v) = bit_xor x a ∷ added a m v
added a (false ∷ m) (x ∷ v) = x ∷ added a m v

pub record Folds (κ : Kind) (i j k : ℕ) : Type 0 where
  pub terms : generator κ ≡ set (set (set (replicate k false) (i - 1) true) (j - 1) true) (k - 1) true
  pub first : 0 < i
  pub second : i < j
  pub third : j < k
  pub at : (a : ℕ) → a < 256 → left κ (a ∷ replicate (length (generator κ)) 0) ≡ left κ (added a (generator κ) (replicate (length (generator κ)) 0))
  pub nothing : left κ (0 ∷ []) ≡ left κ []
  pub some : ℕ
  pub octets : κ.octets ≡ suc some
