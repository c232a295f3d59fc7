use Rattle.std.proofs.Common.{rules, ◌≡◌, refl, ◌+◌, ◌-◌, arith, length}
use Rattle.codeword.proofs.Columns.{folding_start, folding-next, folded_start, folded-next}
use Rattle.codeword.proofs.rows.fold.Goals as goal

pub loop-d-init : goal.loop-d-init
loop-d-init c = (search rules, folded_start)

pub loop-tap-init : goal.loop-tap-init
loop-tap-init c = folding_start

pub loop-tap-preserved : goal.loop-tap-preserved
loop-tap-preserved c =
    let l = c.loop-tap in
    folding-next l.tap-index (c.loop-d.d - 1) c.args.taps.now (search rules) (c.requires l.tap-index (search rules)) refl c.add.ensures l.invariant

pub loop-d-preserved : goal.loop-d-preserved
loop-d-preserved c =
    let all : c.loop-tap.tap-index ≡ length c.args.taps.now = omega arith in
    let e : c.loop-d.d ≡ c.loop-d.d - 1 + 1 = omega arith in
    (search rules, folded-next all (search rules) c.load-a.ensures c.loop-tap.invariant (rw e at c.loop-d.invariant.1))

pub returns : goal.returns
returns c =
    let e : c.loop-d.d ≡ 8 = omega arith in
    rw e at c.loop-d.invariant.1
