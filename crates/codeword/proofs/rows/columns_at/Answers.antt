use Rattle.std.proofs.Common.{◌≡◌, ◌+◌, ◌-◌, arith, get_or}
use Rattle.codeword.proofs.Columns.{loaded, evaluated}
use Rattle.codeword.proofs.Horner.{horner-first, horner_turn}
use Rattle.codeword.proofs.rows.columns_at.Goals as goal

pub loop-d-init : goal.loop-d-init
loop-d-init c =
    let a = c.args in
    horner-first (omega arith) c.load-a.ensures.long (loaded a.f.now 16 0 (a.n - 1) (omega arith) c.load-a.ensures)

pub loop-d-preserved : goal.loop-d-preserved
loop-d-preserved c =
    let l = c.loop-d in
    let e : l.d ≡ l.d - 1 + 1 = omega arith in
    horner_turn (λ i. get_or c.load.result i 0) (omega arith) (loaded c.args.f.now 16 0 (l.d - 1) (omega arith) c.load.ensures) c.mixed-next.ensures (rw e at l.invariant)

pub returns : goal.returns
returns c =
    let e : c.loop-d.d ≡ 0 = omega arith in
    evaluated c.args.f.now 16 0 (rw e at c.loop-d.invariant)
