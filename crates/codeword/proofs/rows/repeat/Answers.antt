use Rattle.std.proofs.Common.{rules, ◌≡◌, arith}
use Rattle.codeword.proofs.Filling.{repeated_start, repeated-next}
use Rattle.codeword.proofs.rows.repeat.Goals as goal

pub loop-q-init : goal.loop-q-init
loop-q-init c = repeated_start

pub loop-q-preserved : goal.loop-q-preserved
loop-q-preserved c = rw c.write.ensures (repeated-next (search rules) (search rules) c.load-a.ensures c.loop-q.invariant)

pub returns : goal.returns
returns c =
    let e : c.loop-q.q ≡ 15 = omega arith in
    rw e at c.loop-q.invariant
