-- After so many turns the register is what the octets so far leave.
use Rattle.std.proofs.Common.{◌≡◌, take}
use Rattle.checks.specs.Steps.{held}
use Rattle.checks.proofs.take.Given as goal

abbrev pub invariant-loop-octet : goal.invariant-loop-octet
invariant-loop-octet g l = l.register ≡ held g.R.Rule.kind l.fn.start (take l.octet-index l.content)
