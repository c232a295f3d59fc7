-- After j turns the first j elements of src are written.
use Rattle.octets.specs.Written.{Writing}
use Rattle.octets.proofs.write.Given as goal

abbrev pub invariant-loop-j : goal.invariant-loop-j
invariant-loop-j g l = Writing l.initial.dst l.at l.src l.dst l.j
