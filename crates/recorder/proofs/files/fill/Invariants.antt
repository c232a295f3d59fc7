-- The room that is left shrinks.
use Rattle.std.proofs.Common.{◌≤◌, ◌-◌, length}
use Rattle.recorder.proofs.files.fill.Given as goal

abbrev pub invariant-loop-at : goal.invariant-loop-at
invariant-loop-at g l = l.at ≤ length l.to

abbrev pub decreases-loop-at : goal.decreases-loop-at
decreases-loop-at g l = length l.initial.to - l.at
