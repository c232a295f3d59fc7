use Rattle.std.proofs.Common.{◌≡◌, ◌∙◌, arith}
use Rattle.std.specs.Slice.Iter.{chunks_exact_rest, chunks_exact_size}
use Rattle.record.proofs.Putting.{putting-none, putting_front, putting_can, putting-before, putting-end, putting_room, putting_next, putting-all}
use Rattle.record.proofs.writer.Lent.write.Goals as goal

pub loop-four-init : goal.loop-four-init
loop-four-init c =
    let given = c.chunks_exact-four-items.ensures in
    let all : chunks_exact_rest c.into_iter-four-iterator.result ≡ c.args.self.now.numbers.now = cc in
    let size : chunks_exact_size c.into_iter-four-iterator.result ≡ 4 = cc in
    (putting-none _ _ _ _ _ all c.requires, size)

pub split_at-requires : goal.split_at-requires
split_at-requires c =
    putting-end (putting_front c.loop-four.invariant.0 c.of-unit.result _ c.in-Some.ensures.steps.1.0 c.of-unit.ensures)

pub overflow_cast-to : goal.overflow_cast-to
overflow_cast-to c =
    omega (arith, putting-before (putting_front c.loop-four.invariant.0 c.of-unit.result _ c.in-Some.ensures.steps.1.0 c.of-unit.ensures))

pub note-back-requires : goal.note-back-requires
note-back-requires c =
    putting_can (putting_front c.loop-four.invariant.0 c.of-unit.result _ c.in-Some.ensures.steps.1.0 c.of-unit.ensures)

pub put-requires : goal.put-requires
put-requires c =
    putting_room (putting_front c.loop-four.invariant.0 c.of-unit.result _ c.in-Some.ensures.steps.1.0 c.of-unit.ensures)
    (record { own_is = c.split_at.ensures.front; behind_is = c.split_at.ensures.back })

pub loop-four-preserved : goal.loop-four-preserved
loop-four-preserved c =
    let i = c.loop-four.invariant in
    let e = c.in-Some.ensures.steps in (
      putting_next (putting_front i.0 c.of-unit.result _ e.1.0 c.of-unit.ensures)
          (record { own_is = c.split_at.ensures.front; behind_is = c.split_at.ensures.back }) c.note-back.ensures.0 c.put.ensures c.note-back.ensures.1 c.note-back.ensures.2,
      e.0 ∙ i.1,
    )

pub returns : goal.returns
returns c =
    let i = c.loop-four.invariant in
    putting-all i.0 (omega (arith, c.in-None.ensures.steps.1.0, i.1))
