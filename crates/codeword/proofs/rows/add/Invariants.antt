-- The octets below i are added.
use Rattle.codeword.specs.Rows.{RowAdded}
use Rattle.codeword.proofs.rows.add.Given as goal

abbrev pub invariant-loop-i : goal.invariant-loop-i
invariant-loop-i l = RowAdded l.i l.o l.a l.initial.f l.f
