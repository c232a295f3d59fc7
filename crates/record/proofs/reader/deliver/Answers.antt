use Rattle.std.proofs.Common.{◌∙◌, ◌*◌, ap, arith}
use Rattle.octets.specs.Written.{written}
use Rattle.record.proofs.Delivering.{facing_head, facing-end, delivering_faced, delivering_next, delivering-all, own_room, unit_room}
use Rattle.record.proofs.reader.deliver.Goals as goal

pub read-requires : goal.read-requires
read-requires c = omega (arith, facing-end (delivering_faced c.loop-k.invariant c.loop-k-test.true) (omega arith))

pub split_at-requires : goal.split_at-requires
split_at-requires c = omega (arith, facing-end (delivering_faced c.loop-k.invariant c.loop-k-test.true) (omega arith))

pub split_at-requires-in-loop-k : goal.split_at-requires-in-loop-k
split_at-requires-in-loop-k c =
    let d = c.loop-k.invariant in
    let f = delivering_faced d c.loop-k-test.true in
    omega (arith, c.split_at.ensures.back_len, unit_room d f c.read.result (facing_head f c.read.result c.read.ensures))

pub write-requires-in-loop-k : goal.write-requires-in-loop-k
write-requires-in-loop-k c =
    let d = c.loop-k.invariant in
    let f = delivering_faced d c.loop-k-test.true in
    own_room d f c.read.result (facing_head f c.read.result c.read.ensures)
    (record {
      rest = c.split_at.result.1.now;
      rest_is = c.split_at.ensures.back;
      own_is = c.split_at-in-loop-k.ensures.front;
      behind_is = c.split_at-in-loop-k.ensures.back;
    })

pub loop-k-preserved : goal.loop-k-preserved
loop-k-preserved c =
    let d = c.loop-k.invariant in
    let f = delivering_faced d c.loop-k-test.true in
    let is = facing_head f c.read.result c.read.ensures in
    delivering_next d f c.read.result is
    (record {
      rest = c.split_at.result.1.now;
      rest_is = c.split_at.ensures.back;
      own_is = c.split_at-in-loop-k.ensures.front;
      behind_is = c.split_at-in-loop-k.ensures.back;
    }) (c.write.ensures ∙ ap (written c.loop-k.numbers (4 * c.loop-k.k)) c.into-four.ensures) c.write-in-loop-k.ensures

pub returns : goal.returns
returns c = delivering-all c.loop-k.invariant c.loop-k-test.false
