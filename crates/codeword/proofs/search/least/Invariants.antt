-- What is there is the least of the first i octets.
use Rattle.codeword.specs.Search.{LeastOf}
use Rattle.codeword.proofs.search.least.Given as goal

abbrev pub invariant-loop-i : goal.invariant-loop-i
invariant-loop-i l = LeastOf l.i l.o l.v l.r
