use Rattle.std.proofs.Common.{rules, ◌≡◌, refl, arith}
use Rattle.codeword.proofs.Columns.{rows_next}
use Rattle.codeword.proofs.rows.lay.Goals as goal

pub loop-d-init : goal.loop-d-init
loop-d-init c = (refl, λ d i l. absurd (omega arith))

pub loop-d-preserved : goal.loop-d-preserved
loop-d-preserved c =
    let l = c.loop-d in
    (search rules, (rw c.write.ensures (rows_next l.d c.args.w.now l.f _ (omega (arith, l.invariant.0)) c.load-row.ensures l.invariant.1)))

pub returns : goal.returns
returns c =
    let e : c.loop-d.d ≡ 17 = omega arith in
    rw e at c.loop-d.invariant.1
