-- The loop keeps that the units so far have the back offsets that they ought to have, and that the places know of them.
use Rattle.std.proofs.Common.{◌-◌, length}
use Rattle.record.proofs.Comparing.{Comparing}
use Rattle.record.proofs.reader.compared.Given as goal

abbrev pub invariant-loop-at : goal.invariant-loop-at
invariant-loop-at l = Comparing l.body l.places l.at

abbrev pub decreases-loop-at : goal.decreases-loop-at
decreases-loop-at l = length l.body - l.at
