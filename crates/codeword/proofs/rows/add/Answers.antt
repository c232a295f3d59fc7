use Rattle.std.proofs.Common.{rules, arith, ◌≡◌}
use Rattle.codeword.proofs.Columns.{added_start, added_next}
use Rattle.codeword.specs.Lanes.{lanes}
use Rattle.codeword.proofs.rows.add.Goals as goal

pub loop-i-init : goal.loop-i-init
loop-i-init c = added_start

pub loop-i-preserved : goal.loop-i-preserved
loop-i-preserved c =
    let l = c.loop-i in
    added_next l.invariant (search rules) c.sum.ensures

pub returns : goal.returns
returns c =
    let e : c.loop-i.i ≡ lanes = omega arith in
    rw e at c.loop-i.invariant
