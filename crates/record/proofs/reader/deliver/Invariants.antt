-- The loop keeps that with the rest of the units what was lent would be as it ought to be.
use Rattle.record.proofs.Delivering.{Delivering}
use Rattle.record.proofs.reader.deliver.Given as goal

abbrev pub invariant-loop-k : goal.invariant-loop-k
invariant-loop-k l = Delivering l.body l.count l.initial.numbers l.initial.content l.left l.numbers l.content l.k l.to
