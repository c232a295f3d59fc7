-- The loop keeps that the channels of the units passed have their places.
use Rattle.std.proofs.Common.{◌≡◌}
use Rattle.std.specs.Slice.Iter.{chunks_exact_rest, chunks_exact_size}
use Rattle.record.proofs.Using.{Using}
use Rattle.record.proofs.writer.Lent.places.Given as goal

abbrev pub invariant-loop-four : goal.invariant-loop-four
invariant-loop-four l = Using l.self.numbers.now (chunks_exact_rest l.four-iterator) l.places × (chunks_exact_size l.four-iterator ≡ 4)
