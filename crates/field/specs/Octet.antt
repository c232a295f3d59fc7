-- The field of 256 elements (003, D.4.1.7.3): polynomials in x of degree below 8 over the field of two elements, modulo
-- x^8 + x^4 + x^3 + x^2 + 1. An element is an octet: bit 8, the highest, is the coefficient of x^7, and bit 1 that of 1.
--
--   size          how many elements there are: an octet is a number below it
--   sum a b       a + b, which is a - b too: coefficient by coefficient, nothing carried
--   modulus       x^8 + x^4 + x^3 + x^2 + 1, which is 11D in hex
--   double a      x a; where that has an x^8, the modulus is taken off
--   times n a b   b₀ a + b₁ x a + b₂ x² a + .., over the n lowest bits b₀, b₁, .. of b
--   product a b   a b; of a larger number the low octet counts
--   α             x, which is 02
--   order         α's order: how many powers it has, which are all the elements but 0
--   power a k     a to the k
--   inverse a     the octet whose product with a is 1, and 0 for 0: a to the order less 1, since a to the order is 1 for each a but 0
--
-- The definitions are shut. Only the modules below this one may open them; all others, and every other crate, have `Octet.Laws` and what rests
-- on these laws and on tests of α, `proofs/Laws.antt`, and of `Octet.Table` what the table is, and a product that can be computed. `Octet.Exactly`
-- is a claim: the product in the paper's words. `Octet.Basis`, `Octet.Ring` and `Octet.Order` are for this crate's proofs alone, and `Octet.Steps`
-- for its functions (`tests/heads`).
-- Assumes nothing.
use Rattle.std.specs.Prelude.{ℕ, zero, suc, ◌-◌, ◌*◌, ◌/◌, ◌%◌}
use Rattle.std.specs.Int.Bits.{bit_xor}
mod Sum
mod Product
pub mod Basis
pub mod Ring
mod Power
pub mod Order
pub mod Table
mod Inverse
pub mod Laws
pub mod Steps
pub mod Exactly

abbrev pub size : ℕ
size = 256

pub sum : ℕ → ℕ → ℕ
sum a b = bit_xor a b

pub modulus : ℕ
modulus = 0x11D

pub double : ℕ → ℕ
double a = sum (2 * a) (a / 128 * modulus)

pub times : ℕ → ℕ → ℕ → ℕ
times zero a b = 0
times (suc n) a b = sum (b % 2 * a) (times n (double a) (b / 2))

pub product : ℕ → ℕ → ℕ
product a b = times 8 (a % size) b

abbrev pub α : ℕ
α = 2

abbrev pub order : ℕ
order = 255

pub power : ℕ → ℕ → ℕ
power a zero = 1
power a (suc k) = product a (power a k)

pub inverse : ℕ → ℕ
inverse a = power a (order - 1)
