-- The laws of powers.
--
--   power_zero    a⁰ = 1
--   power-suc     aᵏ⁺¹ = a aᵏ
--   power_octet   a power is an octet
--   power-add     aⁱ⁺ʲ = aⁱ aʲ
--   power-mul     (aⁱ)ʲ = aⁱʲ
--   one_power     1ᵏ = 1
--   sum-power     (a + b)ᵏ = aᵏ + bᵏ, where k is a power of 2
--
-- Assumes nothing.
use Rattle.std.specs.Prelude.{◌≡◌, refl, ℕ, zero, suc, ◌+◌, ◌*◌, ◌^◌, ◌<◌}
use Rattle.std.proofs.Common.{sym, ap, ap₂, ◌∙◌, zero-add, suc-add, mul-zero, mul-suc, mul_comm, two-mul, pow-suc, add_comm, lit<}
use Rattle.field.specs.Octet.{sum, product, power, size}
use Rattle.field.specs.Octet.Sum.{sum-assoc, sum_comm, sum-zero, sum_self}
use Rattle.field.specs.Octet.Product.{product_octet, sum-product, product-sum}
use Rattle.field.specs.Octet.Ring.{product-assoc, product-comm, one_product}
use Rattle.field.specs.Octet.Basis.{Additive}

pub power_zero : (a : ℕ) → power a 0 ≡ 1
unfolding power
power_zero a = refl

pub power-suc : (a k : ℕ) → power a (suc k) ≡ product a (power a k)
unfolding power
power-suc a k = refl

pub power_octet : (a k : ℕ) → power a k < size
unfolding power
power_octet a zero = lit< tt
power_octet a (suc k) = product_octet a (power a k)

pub power-add : (a i j : ℕ) → power a (i + j) ≡ product (power a i) (power a j)
power-add a zero j = rw (zero-add, power_zero) (sym (one_product (power a j) (power_octet a j)))
power-add a (suc i) j = rw (suc-add, power-suc a (i + j), power-suc a i, power-add a i j) (sym (product-assoc a (power a i) (power a j)))

pub power-mul : (a i j : ℕ) → power (power a i) j ≡ power a (i * j)
power-mul a i zero = rw (mul-zero, power_zero a) (power_zero (power a i))
power-mul a i (suc j) =
    rw (mul-suc, power-suc (power a i) j, power-mul a i j) (sym (power-add a i (i * j)) ∙ ap (power a) (add_comm i (i * j)))

pub one_power : (k : ℕ) → power 1 k ≡ 1
one_power zero = power_zero 1
one_power (suc k) = power-suc 1 k ∙ ap (product 1) (one_power k) ∙ one_product 1 (lit< tt)

-- ---- to a power of 2

-- the mixed terms of a square are equal, and cancel
sum_square : (a b : ℕ) → product (sum a b) (sum a b) ≡ sum (product a a) (product b b)
sum_square a b =
    let m = product a b in
    sum-product a b (sum a b) ∙ ap₂ sum (product-sum a a b) (product-sum b a b) ∙ sum-assoc (product a a) m _
    ∙ ap (sum (product a a))
    (ap (λ (x : ℕ). sum m (sum x (product b b))) (product-comm b a) ∙ sym (sum-assoc m m (product b b)) ∙ ap (λ (x : ℕ). sum x (product b b)) (sum_self m)
    ∙ sum_comm 0 (product b b) ∙ sum-zero (product b b))

power_one : (a : ℕ) → power a 1 ≡ product a 1
power_one a = power-suc a 0 ∙ ap (product a) (power_zero a)

power_twice : (a i : ℕ) → power a (2 ^ suc i) ≡ product (power a (2 ^ i)) (power a (2 ^ i))
power_twice a i = ap (power a) (pow-suc 2 i ∙ mul_comm (2 ^ i) 2 ∙ two-mul (2 ^ i)) ∙ power-add a (2 ^ i) (2 ^ i)

pub sum-power : (i : ℕ) → Additive (λ a. power a (2 ^ i))
sum-power zero a b = power_one (sum a b) ∙ sum-product a b 1 ∙ sym (ap₂ sum (power_one a) (power_one b))
sum-power (suc i) a b =
    power_twice (sum a b) i ∙ ap₂ product (sum-power i a b) (sum-power i a b) ∙ sum_square (power a (2 ^ i)) (power b (2 ^ i))
    ∙ sym (ap₂ sum (power_twice a i) (power_twice b i))
