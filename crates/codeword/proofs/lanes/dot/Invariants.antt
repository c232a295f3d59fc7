-- The products below k are summed.
use Rattle.codeword.specs.Lanes.{Summed}
use Rattle.codeword.proofs.lanes.dot.Given as goal

abbrev pub invariant-loop-k : goal.invariant-loop-k
invariant-loop-k l = Summed l.k l.a l.b l.r
