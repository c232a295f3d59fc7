-- The first k points are there.
use Rattle.std.proofs.Common.{get_or}
use Rattle.codeword.specs.Element.{octet}
use Rattle.codeword.specs.Lanes.{Filled}
use Rattle.codeword.specs.Places.{inverses}
use Rattle.codeword.proofs.values.points.Given as goal

abbrev pub invariant-loop-k : goal.invariant-loop-k
invariant-loop-k l = Filled 16 l.k (λ i. octet (inverses l.n (get_or l.at i 0))) l.x
