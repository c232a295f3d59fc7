-- Each place that is tried gives data that mend, with a one there, or shows that no data that mend have their first one there.
use Rattle.std.proofs.Common.{arith}
use Rattle.golay.specs.Matrix.{matrix}
use Rattle.golay.proofs.Mending.{unit_is, mends_nothing, mends_added, mends-behind, mends_no_more, mends_none_left}
use Rattle.golay.proofs.+search.Goals as goal

pub returns-then-syndrome-left : goal.returns-then-syndrome-left
returns-then-syndrome-left t c = mends_nothing _ c.args.from _ c.if-syndrome-left.true

pub returns-in_err-fewer : goal.returns-in_err-fewer
returns-in_err-fewer t c =
    let a = c.args in
    rw (c.from_residual.ensures) (mends_none_left a.syndrome a.from a.left c.if-syndrome-left.false (omega (arith, c.in_err-fewer.ensures)))

pub returns-in-Some : goal.returns-in-Some
unfolding matrix
returns-in-Some t c =
    let a = c.args in
    let i = c.loop-i.i in
    rw (unit_is i (omega arith)) (mends_added a.syndrome a.from a.left i c.in-Some.u (omega arith) (omega arith) c.in_ok-fewer.ensures.0
    (rw (c.in_ok-fewer.ensures.1) at c.in-Some.ensures))

pub loop-i-preserved : goal.loop-i-preserved
unfolding matrix
loop-i-preserved t c =
    let a = c.args in
    let i = c.loop-i.i in
    λ u m. mends-behind a.syndrome a.from a.left i (omega arith) (rw (c.in_ok-fewer.ensures.1) at c.in_default.ensures) u m (c.loop-i.invariant u m)

pub returns : goal.returns
returns t c =
    let a = c.args in
    λ u m. mends_no_more a.syndrome a.from a.left c.loop-i.i c.if-syndrome-left.false c.loop-i-test.false u m (c.loop-i.invariant u m)
