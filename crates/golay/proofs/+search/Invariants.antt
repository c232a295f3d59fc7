-- Data that mend, if there are any, have a first one: its place is tried in turn, and behind it one wrong bit fewer is left. The measure is how
-- many are left. Assumes nothing.
use Rattle.std.proofs.Common.{◌≡◌, ℕ, ◌%◌, ◌^◌}
use Rattle.golay.specs.Search.{Mends}
use Rattle.golay.proofs.+search.Given as goal

abbrev pub decreases-search : goal.decreases-search
decreases-search l = l.left

abbrev pub invariant-loop-i : goal.invariant-loop-i
invariant-loop-i l = (u : ℕ) → Mends l.fn.syndrome l.fn.from l.fn.left u → u % 2 ^ l.i ≡ 0
