-- The checks are what their clauses say (000, 7.3.3.2.3 and 7.4.3.2.3): one proof for every kind.
--
--   generator-length      the generator has degree w
--   plain-length          a remainder has w coefficients
--   generators_are, plain_is_remainder, check8_exactly, check16_exactly   the claims of specs/Remainders.antt
--
-- Assumes nothing.
use mathlib.Core.Path.{◌≡◌, refl, sym, ap, ap₂, fun_ext, ◌∙◌, subst}
use mathlib.Core.Logic.{◌↔◌}
use mathlib.Core.Bool.{Bool, true, false, cond, not}
use mathlib.Core.List.{List, [], ◌∷◌, ◌++◌, map}
use Prim.Native.Nat.{ℕ, zero, suc, ◌+◌, ◌≤◌}
use native.Mathlib.Omega.{arith}
use lib.ListN.{length, replicate, length-append, length-map, length-replicate}
use Rattle.algebra.specs.Series.{Series, operations}
use Rattle.algebra.specs.Polynomial.{monomial, polynomial}
use Rattle.algebra.specs.Division.{sum, remainder}
use Rattle.algebra.specs.Remainder.{Monic, IsRemainder}
use Rattle.algebra.proofs.Laws.{⊞-at, none-at, polynomial-none, polynomial-cons, polynomial-append, polynomial-zeros, raised-none}
use Rattle.algebra.proofs.Laws.{sum-length, remainder-length, remainder-raised, remainder_only, division_leaves}
use Rattle.codeword.specs.CodeWord.{Octets}
use Rattle.checks.specs.Binary.{𝔹, plus}
use Rattle.checks.specs.Bits.{bits, octets_of}
use Rattle.checks.specs.Check.{Kind, width, coefficients, generator, plain, preset, check_bits, check_of, eight, sixteen}
use Rattle.checks.specs.Remainders.{sum_of, divisor, of_content, of_ones, Conditioned, GeneratorsAre, PlainIsRemainder, Check8Exactly}
use Rattle.checks.specs.Remainders.{Check16Exactly}
use Rattle.checks.proofs.Octets.{bits-octets_of, octets_of-bits}

infixl 60 ◌⊞◌
open operations 𝔹 use {◌⊞◌, none}

-- ---- the generators

none-⊞ : (f : Series 𝔹) → none ⊞ f ≡ f
none-⊞ f = fun_ext (λ k. ⊞-at 𝔹 none f k ∙ ap (λ (b : Bool). plus b (f k)) (none-at 𝔹 k))

-- one term more, n + 1 places before the others
term : (n : ℕ) (p : List Bool) (f : Series 𝔹) → polynomial 𝔹 p ≡ f → polynomial 𝔹 (true ∷ (replicate n false ++ p)) ≡ monomial 𝔹 (n + length p) true ⊞ f
term n p f e =
    let l : length (replicate n false ++ p) ≡ n + length p = length-append (replicate n false) p ∙ ap (λ (k : ℕ). k + length p) (length-replicate n false) in
    polynomial-cons 𝔹 true (replicate n false ++ p)
    ∙ ap₂ (λ (k : ℕ) (h : Series 𝔹). monomial 𝔹 k true ⊞ h) l
    (polynomial-append 𝔹 (replicate n false) p ∙ (rw (polynomial-zeros 𝔹 n, raised-none 𝔹 (length p)) (none-⊞ (polynomial 𝔹 p))) ∙ e)

last : polynomial 𝔹 (true ∷ []) ≡ sum_of (0 ∷ [])
last = term 0 [] none (polynomial-none 𝔹)

pub generators_are : GeneratorsAre
unfolding generator eight sixteen
generators_are = (term 5 _ _ (term 0 _ _ (term 0 _ _ last)), term 3 _ _ (term 6 _ _ (term 4 _ _ last)))

coefficients-length : (w : ℕ) (t : List ℕ) → length (coefficients w t) ≡ w
coefficients-length zero t = refl
coefficients-length (suc w) t = ap suc (coefficients-length w t)

-- ---- the remainders

module _ (κ : Kind) where
  pub generator-length : length (generator κ) ≡ width κ
  unfolding generator
  generator-length = coefficients-length (width κ) κ.terms

  monic : Monic 𝔹 (width κ) (divisor κ)
  monic = rw (← generator-length) (division_leaves 𝔹 (generator κ) []).0

  -- what long division leaves of x^n c
  left : (c : List Bool) (n : ℕ) → length (generator κ) ≤ length c + n
      → IsRemainder 𝔹 (divisor κ) (width κ) (of_content n c) (remainder 𝔹 (generator κ) (c ++ replicate n false))
  left c n l =
      let m : length (c ++ replicate n false) ≡ length c + n =
      length-append c (replicate n false) ∙ ap (λ (k : ℕ). length c + k) (length-replicate n false) in
      record {
        long = remainder-length 𝔹 (generator κ) (c ++ replicate n false) (rw m l) ∙ generator-length;
        is = rw (← generator-length) (remainder-raised 𝔹 (generator κ) c n l);
      }

  plain-is : (c : List Bool) → IsRemainder 𝔹 (divisor κ) (width κ) (of_content (width κ) c) (plain κ c)
  unfolding plain
  plain-is c = left c (width κ) (omega (arith, generator-length))

  pub plain-length : (c : List Bool) → length (plain κ c) ≡ width κ
  plain-length c = (plain-is c).long

  preset-is : (k : ℕ) → IsRemainder 𝔹 (divisor κ) (width κ) (of_ones (width κ) k) (preset κ k)
  unfolding preset
  preset-is k = left (replicate (width κ) true) k (omega (arith, generator-length, length-replicate (width κ) true))

  -- ---- the check, by whether it is conditioned

  checked : (b : Bool) → κ.conditioned ≡ b → (c : List Bool) → check_bits κ c ≡ cond b (map not (sum 𝔹 (preset κ (length c)) (plain κ c))) (plain κ c)
  unfolding check_bits
  checked b e c = ap (λ (x : Bool). cond x (map not (sum 𝔹 (preset κ (length c)) (plain κ c))) (plain κ c)) e

  checked-length : (c : List Bool) → length (check_bits κ c) ≡ width κ
  unfolding check_bits
  checked-length c = go κ.conditioned
    where
      go : (b : Bool) → length (cond b (map not (sum 𝔹 (preset κ (length c)) (plain κ c))) (plain κ c)) ≡ width κ
      go true = length-map (sum 𝔹 (preset κ (length c)) (plain κ c)) not ∙ sum-length 𝔹 (preset κ (length c)) (plain κ c) ∙ (preset-is (length c)).long
      go false = plain-length c

  module _ (u r : List ℕ) where
    check-bits : r ≡ check_of κ u → bits r ≡ check_bits κ (bits u)
    unfolding check_of
    check-bits q = ap bits q ∙ bits-octets_of κ.octets (check_bits κ (bits u)) (checked-length (bits u))

    module _ (o : Octets r) (l : length r ≡ κ.octets) where
      check-of : bits r ≡ check_bits κ (bits u) → r ≡ check_of κ u
      unfolding check_of
      check-of q = sym (octets_of-bits r o) ∙ ap₂ octets_of l q

      plain_exactly : κ.conditioned ≡ false → r ≡ check_of κ u ↔ IsRemainder 𝔹 (divisor κ) (width κ) (of_content (width κ) (bits u)) (bits r)
      plain_exactly e = (
        λ q. subst (IsRemainder 𝔹 (divisor κ) (width κ) (of_content (width κ) (bits u))) (sym (check-bits q ∙ checked false e (bits u))) (plain-is (bits u)),
        λ h. check-of (remainder_only 𝔹 (width κ) (divisor κ) _ _ _ monic h (plain-is (bits u)) ∙ sym (checked false e (bits u))),
      )

      conditioned_exactly : κ.conditioned ≡ true → r ≡ check_of κ u ↔ Conditioned (divisor κ) (width κ) (bits u) (bits r)
      conditioned_exactly e = (
        λ q. record {
          ones = preset κ (length (bits u));
          content = plain κ (bits u);
          ones_are = preset-is (length (bits u));
          content_is = plain-is (bits u);
          is = check-bits q ∙ checked true e (bits u);
        },
        λ h. check-of
            (h.is ∙ ap₂ (λ (x y : List Bool). map not (sum 𝔹 x y)) (remainder_only 𝔹 (width κ) (divisor κ) _ _ _ monic h.ones_are (preset-is (length (bits u))))
            (remainder_only 𝔹 (width κ) (divisor κ) _ _ _ monic h.content_is (plain-is (bits u))) ∙ sym (checked true e (bits u))),
      )

pub plain_is_remainder : PlainIsRemainder
plain_is_remainder = plain-is

pub check8_exactly : Check8Exactly
unfolding eight
check8_exactly u r o l =
    subst (λ (g : Series 𝔹). r ≡ check_of eight u ↔ IsRemainder 𝔹 g 8 (of_content 8 (bits u)) (bits r)) generators_are.0 (plain_exactly eight u r o l refl)

pub check16_exactly : Check16Exactly
unfolding sixteen
check16_exactly u r o l =
    subst (λ (g : Series 𝔹). r ≡ check_of sixteen u ↔ Conditioned g 16 (bits u) (bits r)) generators_are.1 (conditioned_exactly sixteen u r o l refl)
