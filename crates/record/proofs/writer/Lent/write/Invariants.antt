-- The loop keeps that with the rest of the units the output would be as it ought to be, and that the places know of those written.
use Rattle.std.proofs.Common.{◌≡◌}
use Rattle.std.specs.Slice.Iter.{chunks_exact_rest, chunks_exact_size}
use Rattle.record.proofs.Putting.{Putting}
use Rattle.record.proofs.writer.Lent.write.Given as goal

abbrev pub invariant-loop-four : goal.invariant-loop-four
invariant-loop-four l =
    Putting l.self.numbers.now l.self.content.now l.initial.output (chunks_exact_rest l.four-iterator) l.left l.output l.places l.to × (chunks_exact_size l.four-iterator ≡ 4)
