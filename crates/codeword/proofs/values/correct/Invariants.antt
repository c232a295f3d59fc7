-- The first j places have been corrected.
use Rattle.std.proofs.Common.{◌-◌, ◌≤◌}
use Rattle.codeword.specs.Values.{Corrected}
use Rattle.codeword.proofs.values.correct.Given as goal

abbrev pub invariant-loop-j : goal.invariant-loop-j
invariant-loop-j l = (l.j ≤ l.l) × Corrected l.n l.l l.j l.at l.o l.d l.initial.w l.w

abbrev pub decreases-loop-j : goal.decreases-loop-j
decreases-loop-j l = l.l - l.j
