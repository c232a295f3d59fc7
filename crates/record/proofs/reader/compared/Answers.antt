use Rattle.std.proofs.Common.{◌-◌, arith, length, drop, length-drop, length-take-le}
use Rattle.record.proofs.Comparing.{comparing-none, comparing_faced, comparing_placed, comparing_can, comparing_wrong, comparing_next, comparing-all}
use Rattle.record.proofs.Delivering.{facing-end}
use Rattle.record.proofs.Standing.{read_at}
use Rattle.record.proofs.reader.compared.Goals as goal

pub loop-at-init : goal.loop-at-init
loop-at-init c = comparing-none _ _ c.requires

pub read-header-requires : goal.read-header-requires
read-header-requires c =
    let d = c.loop-at.invariant in
    let b = c.args.body.now in
    let at = c.loop-at.at in
    omega (arith, facing-end (comparing_faced d c.loop-at-test.true) d.here, length-drop at b, length-take-le (length b - at) (drop at b) (omega (arith, length-drop at b)))

pub note-back-requires : goal.note-back-requires
note-back-requires c =
    comparing_can (comparing_placed c.loop-at.invariant c.read-header.result c.loop-at-test.true (read_at c.args.body.now c.loop-at.at c.read-header.ensures))

pub returns-then-back-header : goal.returns-then-back-header
returns-then-back-header c =
    comparing_wrong (comparing_placed c.loop-at.invariant c.read-header.result c.loop-at-test.true (read_at c.args.body.now c.loop-at.at c.read-header.ensures))
    c.note-back.ensures.0 c.if-back-header.true

pub loop-at-preserved : goal.loop-at-preserved
loop-at-preserved c =
    comparing_next (comparing_placed c.loop-at.invariant c.read-header.result c.loop-at-test.true (read_at c.args.body.now c.loop-at.at c.read-header.ensures))
    c.note-back.ensures.0 c.if-back-header.false c.note-back.ensures.1 c.note-back.ensures.2

pub returns : goal.returns
returns c = comparing-all c.loop-at.invariant c.loop-at-test.false
