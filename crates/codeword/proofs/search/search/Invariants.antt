-- The zeros below p are listed.
use Rattle.std.proofs.Common.{◌-◌, ◌≤◌}
use Rattle.codeword.specs.Search.{Gathered}
use Rattle.codeword.proofs.search.search.Given as goal

abbrev pub invariant-loop-p : goal.invariant-loop-p
invariant-loop-p l = (l.p ≤ l.n) × Gathered l.p l.v l.at l.count

abbrev pub decreases-loop-p : goal.decreases-loop-p
decreases-loop-p l = l.n - l.p
