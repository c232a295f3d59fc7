-- Powers of α wrap at its order, and every element but 0 has an inverse.
--
--   power_wrap        αᵏ depends on k modulo the order
--   product-inverse   a a⁻¹ = 1, for each a but 0
--
-- Assumes nothing.
use Rattle.std.specs.Prelude.{◌≡◌, ℕ, ◌+◌, ◌-◌, ◌*◌, ◌/◌, ◌%◌, ◌<◌}
use Rattle.std.proofs.Common.{sym, ap, ◌∙◌, mul_comm, arith}
use Rattle.field.specs.Octet.{product, α, power, inverse, order, size}
use Rattle.field.specs.Octet.Laws.{one_product, power-suc, power_octet, power-add, power-mul, one_power}
use Rattle.field.specs.Octet.Steps.{inverse_is}
use Rattle.field.proofs.Octet.Order.{alpha-around, powers-all}

power_turns : (q : ℕ) → power α (order * q) ≡ 1
power_turns q = sym (power-mul α order q) ∙ ap (λ (x : ℕ). power x q) alpha-around ∙ one_power q

pub power_wrap : (k : ℕ) → power α (k % order) ≡ power α k
power_wrap k =
    let e : k ≡ order * (k / order) + k % order = omega arith in
    sym (ap (power α) e ∙ power-add α (order * (k / order)) (k % order)
    ∙ ap (λ (x : ℕ). product x (power α (k % order))) (power_turns (k / order)) ∙ one_product (power α (k % order)) (power_octet α (k % order)))

-- a to the order is 1
power-order : (a : ℕ) → 0 < a → a < size → power a order ≡ 1
power-order a p h =
    let l = powers-all a p h in
    ap (λ (x : ℕ). power x order) (sym l.2) ∙ power-mul α l.0 order ∙ ap (power α) (mul_comm l.0 order) ∙ power_turns l.0

pub product-inverse : (a : ℕ) → 0 < a → a < size → product a (inverse a) ≡ 1
product-inverse a p h = ap (product a) (sym (inverse_is a)) ∙ sym (power-suc a (order - 1)) ∙ power-order a p h
