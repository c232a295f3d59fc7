use Rattle.std.proofs.Common.{rules, ◌≡◌, refl, arith, length}
use Rattle.codeword.proofs.Correcting.{added_start, added_next}
use Rattle.codeword.proofs.values.add.Goals as goal

pub loop-k-init : goal.loop-k-init
loop-k-init c = added_start

pub loop-k-preserved : goal.loop-k-preserved
loop-k-preserved c =
    let l = c.loop-k in
    added_next refl (c.requires.inside l.k (search rules)) (λ h i o m. c.requires.rises h i o (omega arith)) c.sum.ensures l.invariant

pub returns : goal.returns
returns c =
    let e : c.loop-k.k ≡ length c.args.at.now = omega arith in
    rw e at c.loop-k.invariant
