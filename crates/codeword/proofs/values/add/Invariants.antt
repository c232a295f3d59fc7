-- At the first k places y is added.
use Rattle.codeword.specs.Values.{Added}
use Rattle.codeword.proofs.values.add.Given as goal

abbrev pub invariant-loop-k : goal.invariant-loop-k
invariant-loop-k l = Added l.k l.at l.y l.initial.w l.w
