-- After k turns the first k octets are added.
use Rattle.std.proofs.Common.{◌≡◌, take}
use Rattle.checks.specs.Steps.{xors}
use Rattle.checks.proofs.add.Given as goal

abbrev pub invariant-loop-k : goal.invariant-loop-k
invariant-loop-k l = l.to ≡ xors l.fn.to (take l.k l.octets)
