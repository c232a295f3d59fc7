-- The rows below q have theirs repeated.
use Rattle.codeword.specs.Rows.{Repeated}
use Rattle.codeword.proofs.rows.repeat.Given as goal

abbrev pub invariant-loop-q : goal.invariant-loop-q
invariant-loop-q l = Repeated l.q l.initial.v l.v
