-- The first k octets have been written.
use Rattle.codeword.specs.Lanes.{Stored}
use Rattle.codeword.proofs.lanes.store.Given as goal

abbrev pub invariant-loop-k : goal.invariant-loop-k
invariant-loop-k l = Stored l.k l.o l.a l.initial.s l.s
