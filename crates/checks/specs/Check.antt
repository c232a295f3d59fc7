-- The checks of 8 and 16 bits (000, 7.3.3.2.3 and 7.4.3.2.3; document 01, "Checks"), and none, which has 0 bits.
--
--   Kind              what tells one check from another: its octets, the exponents of the generator's terms below the
--                     highest, and whether it is conditioned
--   width κ           its bits
--   coefficients w t  the w coefficients below x^w of a polynomial with terms at the exponents t, the highest first; `has i t`
--                     is the one at x^i
--   generator κ       the generator but for its highest term x^w
--   plain κ c         the remainder of x^w times the content c
--   preset κ k        the remainder of x^k (x^(w-1) + .. + x + 1)
--   check_bits κ c     the check of content c, as coefficients
--   check_of κ u       the check of the octets u, as octets: the highest coefficient is bit 1 of the first
--   content_length κ u   how many octets of u stand before its check
--   agrees κ u        the last octets of u are the check of those before
--   none, eight, sixteen   the three kinds
--
-- That they are what the clauses say is claimed in specs/Remainders.antt.
--
-- Assumes nothing.
use Rattle.std.specs.Prelude.{Bool, true, false, cond, not, ◌||◌, List, [], ◌∷◌, ◌++◌, map, ℕ, zero, suc, ◌-◌, ◌*◌, eqb, length, take, drop, replicate}
use Rattle.checks.specs.Bits.{bits, octets_of}
use Rattle.octets.specs.Same.{same}
use Rattle.algebra.specs.Division.{sum, remainder}
use Rattle.checks.specs.Binary.{𝔹}

pub record Kind : Type 0 where
  pub octets : ℕ
  pub terms : List ℕ
  pub conditioned : Bool

abbrev pub width : Kind → ℕ
width κ = 8 * κ.octets

abbrev pub has : ℕ → List ℕ → Bool
has i [] = false
has i (n ∷ t) = eqb i n || has i t

abbrev pub coefficients : ℕ → List ℕ → List Bool
coefficients zero t = []
coefficients (suc i) t = has i t ∷ coefficients i t

unfoldable pub generator : Kind → List Bool
generator κ = coefficients (width κ) κ.terms

unfoldable pub plain : Kind → List Bool → List Bool
plain κ c = remainder 𝔹 (generator κ) (c ++ replicate (width κ) false)

unfoldable pub preset : Kind → ℕ → List Bool
preset κ k = remainder 𝔹 (generator κ) (replicate (width κ) true ++ replicate k false)

-- conditioned (7.4.3.2.3): the ones' complement of the sum of both remainders; if not (7.3.3.2.3): the one remainder
unfoldable pub check_bits : Kind → List Bool → List Bool
check_bits κ c = cond κ.conditioned (map not (sum 𝔹 (preset κ (length c)) (plain κ c))) (plain κ c)

unfoldable pub check_of : Kind → List ℕ → List ℕ
check_of κ u = octets_of κ.octets (check_bits κ (bits u))

abbrev pub content_length : Kind → List ℕ → ℕ
content_length κ u = length u - κ.octets

unfoldable pub agrees : Kind → List ℕ → Bool
agrees κ u = same (drop (content_length κ u) u) (check_of κ (take (content_length κ u) u))

-- no check
unfoldable pub none : Kind
none = record { octets = 0; terms = []; conditioned = false }

-- x^8 + x^2 + x + 1, with no conditioning (7.3.3.2.3)
unfoldable pub eight : Kind
eight = record { octets = 1; terms = 2 ∷ 1 ∷ 0 ∷ []; conditioned = false }

-- x^16 + x^12 + x^5 + 1, conditioned (7.4.3.2.3)
unfoldable pub sixteen : Kind
sixteen = record { octets = 2; terms = 12 ∷ 5 ∷ 0 ∷ []; conditioned = true }
