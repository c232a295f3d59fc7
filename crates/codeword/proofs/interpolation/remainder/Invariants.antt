-- The parts below o are summed.
use Rattle.std.proofs.Common.{◌-◌, ◌≤◌}
use Rattle.codeword.specs.Interpolation.{Interpolates}
use Rattle.codeword.proofs.interpolation.remainder.Given as goal

abbrev pub invariant-loop-o : goal.invariant-loop-o
invariant-loop-o l = (l.o ≤ l.m) × Interpolates l.g.e l.o l.s l.p

abbrev pub decreases-loop-o : goal.decreases-loop-o
decreases-loop-o l = l.m - l.o
