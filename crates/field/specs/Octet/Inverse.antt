-- What the inverse is as a power. That it is the inverse: `proofs/Octet/Inverse.antt`.
--
--   inverse_octet   the inverse is an octet
--   inverse-zero    what stands for the inverse of 0
--
-- Assumes nothing.
use Rattle.std.specs.Prelude.{◌≡◌, ℕ, ◌-◌, ◌<◌}
use Rattle.std.proofs.Common.{◌∙◌}
use Rattle.field.specs.Octet.{power, inverse, order, size}
use Rattle.field.specs.Octet.Ring.{zero-product}
use Rattle.field.specs.Octet.Power.{power-suc, power_octet}

pub inverse_octet : (a : ℕ) → inverse a < size
unfolding inverse
inverse_octet a = power_octet a (order - 1)

pub inverse-zero : inverse 0 ≡ 0
unfolding inverse
inverse-zero = power-suc 0 253 ∙ zero-product (power 0 253)
