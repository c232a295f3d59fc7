-- The lanes below i are spread.
use Rattle.codeword.specs.Rows.{Spread}
use Rattle.codeword.proofs.rows.spread.Given as goal

abbrev pub invariant-loop-i : goal.invariant-loop-i
invariant-loop-i l = Spread l.i l.r l.a l.initial.v l.v
