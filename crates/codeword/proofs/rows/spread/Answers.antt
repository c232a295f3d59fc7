use Rattle.std.proofs.Common.{rules, ◌≡◌, refl, arith}
use Rattle.codeword.proofs.Filling.{spread_start, spread-next}
use Rattle.codeword.proofs.rows.spread.Goals as goal

pub loop-i-init : goal.loop-i-init
loop-i-init c = spread_start

pub loop-i-preserved : goal.loop-i-preserved
loop-i-preserved c = spread-next c.loop-i.invariant (search rules) (search rules) (search rules) refl

pub returns : goal.returns
returns c =
    let e : c.loop-i.i ≡ 15 = omega arith in
    rw e at c.loop-i.invariant
