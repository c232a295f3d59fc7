-- The table that the code keeps: Table D.I.1 (003, appendix I), the powers of α in their order.
--
--   worked a b      `product a b`; who unfolds this computes it
--   worked-is       .. and it is that
--   is_doubled p     the test of all entries of Table D.I.1: the first is 1, and each other twice the one before
--   powers_at       entry k of a list that passes is αᵏ, for each k below the order
--   laid            how many powers are laid out in a row: each twice
--   Laid p          p is such a row: entry k is αᵏ
--   Doublings k     the seven doublings of entry k stand in the row behind it
--
-- The rule is tested once over all the entries of the code's constant, and a lemma carries it to each. Assumes nothing.
use Rattle.std.specs.Prelude.{◌≡◌, refl, Bool, ◌&&◌, List, ℕ, zero, suc, ◌+◌, ◌-◌, ◌*◌, ◌<◌, T, eqb, get_or}
use Rattle.std.proofs.Common.{sym, ap, ◌∙◌, le_of_suc-le-suc, arith, eqb→eq}
use Rattle.octets.specs.Every.{both_left, both_right, every, every_at}
use Rattle.field.specs.Octet.{sum, modulus, double, times, product, α, power, order}
use Rattle.field.specs.Octet.Power.{power_zero, power-suc}

unfoldable pub worked : ℕ → ℕ → ℕ
unfolding sum modulus double times product
worked a b = product a b

pub worked-is : (a b : ℕ) → worked a b ≡ product a b
unfolding worked
worked-is a b = refl

abbrev is_twice : List ℕ → ℕ → Bool
is_twice p k = eqb (get_or p (suc k) 0) (worked α (get_or p k 0))

abbrev pub is_doubled : List ℕ → Bool
is_doubled p = eqb (get_or p 0 0) 1 && every (is_twice p) (order - 1)

pub powers_at : (p : List ℕ) → T (is_doubled p) → (k : ℕ) → k < order → get_or p k 0 ≡ power α k
powers_at p d zero h = eqb→eq _ _ (both_left (eqb (get_or p 0 0) 1) (every (is_twice p) (order - 1)) d) ∙ sym (power_zero α)
powers_at p d (suc k) h =
    eqb→eq _ _
    (every_at (is_twice p) (order - 1) (both_right (eqb (get_or p 0 0) 1) (every (is_twice p) (order - 1)) d) k (le_of_suc-le-suc h))
    ∙ worked-is α _ ∙ ap (product α) (powers_at p d k (omega arith)) ∙ sym (power-suc α k)

abbrev pub laid : ℕ
laid = 2 * order

abbrev pub Laid : List ℕ → Type 0
Laid p = (k : ℕ) → k < laid → get_or p k 0 ≡ power α k

abbrev pub Doublings : ℕ → Type 0
Doublings k = k + 7 < laid
