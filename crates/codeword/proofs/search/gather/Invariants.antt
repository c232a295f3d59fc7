-- The places below p are gathered.
use Rattle.codeword.specs.Search.{Gathered}
use Rattle.codeword.proofs.search.gather.Given as goal

abbrev pub invariant-loop-p : goal.invariant-loop-p
invariant-loop-p l = Gathered l.p l.v l.at l.n
