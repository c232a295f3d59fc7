-- The loop keeps that the list is one exactly where the numbers that are left are good for the octets that are left.
use Rattle.std.proofs.Common.{◌≡◌, ◌↔◌, ◌%◌, length}
use Rattle.std.specs.Slice.Iter.{chunks_exact_rest, chunks_exact_size}
use Rattle.record.proofs.Good.{Good}
use Rattle.record.specs.Walk.{Listed}
use Rattle.record.proofs.writer.Lent.of.Given as goal

abbrev pub invariant-loop-four : goal.invariant-loop-four
invariant-loop-four l =
    (Listed l.numbers l.content ↔ Good (chunks_exact_rest l.four-iterator) l.left) × (length (chunks_exact_rest l.four-iterator) % 4 ≡ 0)
    × (chunks_exact_size l.four-iterator ≡ 4)
