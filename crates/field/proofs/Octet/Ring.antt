-- What the product with α is.
--
--   alpha-product   doubling
--
-- Assumes nothing.
use Rattle.std.specs.Prelude.{◌≡◌, ℕ, ◌<◌}
use Rattle.std.proofs.Common.{eqb→eq}
use Rattle.octets.specs.Every.{every_at}
use Rattle.field.specs.Octet.{double, product, α, size}
use Rattle.field.specs.Octet.Ring.{alpha_at, alpha_test}

pub alpha-product : (a : ℕ) → a < size → product α a ≡ double a
unfolding alpha_at
alpha-product a h = eqb→eq (product α a) (double a) (every_at alpha_at size alpha_test a h)
