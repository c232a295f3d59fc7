-- The loop keeps that stored units stand before `at`; where it stops, whatever stored units there were would have a next one.
use Rattle.std.proofs.Common.{◌-◌, length}
use Rattle.record.proofs.Surveying.{Seen}
use Rattle.record.proofs.reader.surveyed.Given as goal

abbrev pub invariant-loop-at : goal.invariant-loop-at
invariant-loop-at l = Seen l.body l.at l.units l.places

abbrev pub decreases-loop-at : goal.decreases-loop-at
decreases-loop-at l = length l.body - l.at
