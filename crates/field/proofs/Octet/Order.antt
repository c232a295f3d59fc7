-- α's order: its powers below the order are all the elements but 0, each once.
--
--   alpha-around      α to the order is 1
--   powers_distinct   the powers of α below the order are distinct
--   powers-all        .. and are all the octets but 0
--
-- The powers are worked out by doubling (`specs/Octet/Order.antt`). Assumes nothing.
use Rattle.std.specs.Prelude.{◌≡◌, ℕ, zero, suc, ◌+◌, ◌-◌, ◌<◌}
use Rattle.std.proofs.Common.{sym, ap, ◌∙◌, le_of_suc-le-suc, arith, eq-eqb, eqb→eq}
use Rattle.std.proofs.Math.Decide.{ℕ_discrete, dec_lt}
use Rattle.octets.specs.Every.{every_at}
use Rattle.field.specs.Octet.{double, product, α, power, order, size}
use Rattle.field.specs.Octet.Laws.{power_zero, power-suc, power_octet, power-add, product_one}
use Rattle.field.specs.Octet.Order.{doubled, around, is_other, other_test, sought, sought-below, is_power, power_test}
use Rattle.field.proofs.Octet.Ring.{alpha-product}

doubled_is : (k : ℕ) → doubled k ≡ power α k
unfolding doubled
doubled_is zero = sym (power_zero α)
doubled_is (suc k) = ap double (doubled_is k) ∙ sym (alpha-product (power α k) (power_octet α k)) ∙ sym (power-suc α k)

pub alpha-around : power α order ≡ 1
alpha-around = sym (doubled_is order) ∙ around

-- ---- no power before is 1

power_other : (k : ℕ) → 0 < k → k < order → power α k ≡ 1 → ⊥
unfolding is_other
power_other zero p h e = omega arith
power_other (suc k) p h e = rw (eq-eqb _ _ (doubled_is (suc k) ∙ e)) at (every_at is_other (order - 1) other_test k (le_of_suc-le-suc h))

-- if αⁱ = αʲ, α to the order is α to the order plus j - i
later : (i j : ℕ) → i < j → j < order → power α i ≡ power α j → ⊥
later i j l h e =
    let back : i + (order - i) ≡ order = omega arith in
    let on : j + (order - i) ≡ j - i + order = omega arith in
    power_other (j - i) (omega arith) (omega arith)
    (sym (product_one _ (power_octet α (j - i))) ∙ ap (product (power α (j - i))) (sym alpha-around) ∙ sym (power-add α (j - i) order)
    ∙ ap (power α) (sym on) ∙ power-add α j (order - i) ∙ ap (λ (x : ℕ). product x (power α (order - i))) (sym e)
    ∙ sym (power-add α i (order - i)) ∙ ap (power α) back ∙ alpha-around)

pub powers_distinct : (i j : ℕ) → i < order → j < order → power α i ≡ power α j → i ≡ j
powers_distinct i j hi hj e = elim (ℕ_discrete i j) [
  | yes q ↦ q
  | no n ↦ absurd (elim (dec_lt i j) [
    | yes l ↦ later i j l hj e
    | no l ↦ later j i (omega arith) hi (sym e)
  ])
]

-- ---- each octet but 0 comes

pub powers-all : (a : ℕ) → 0 < a → a < size → (k : ℕ) × (k < order) × (power α k ≡ a)
unfolding is_power
powers-all zero p h = absurd (omega arith)
powers-all (suc a) p h = (
  sought (order - 1) 1 (suc a) 0,
  omega (arith, sought-below (order - 1) 1 (suc a) 0),
  sym (doubled_is _) ∙ eqb→eq _ _ (every_at is_power order power_test a (le_of_suc-le-suc h)),
)
