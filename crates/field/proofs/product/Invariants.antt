-- The total and what the bits left still have to give are the product.
use Rattle.std.proofs.Common.{◌≡◌, ◌-◌, ◌<◌}
use Rattle.field.specs.Octet.{times, product, size, sum}
use Rattle.field.proofs.product.Given as goal

abbrev pub invariant-loop : goal.invariant-loop
invariant-loop l = (l.multiple < size) × (sum l.total (times (8 - l.counter) l.multiple l.bits) ≡ product l.a l.b)
