use Rattle.std.proofs.Common.{◌*◌, ◌≡◌, refl, arith, rules}
use Rattle.codeword.proofs.Interpolating.{quotients_start, quotients-next, added_start, added_next}
use Rattle.codeword.proofs.interpolation.add.Goals as goal

pub loop-i-preserved : goal.loop-i-preserved
loop-i-preserved c =
    let l = c.loop-i in
    let q =
    quotients-next (2 * c.args.g.now.e) l.i c.args.x l.a (search rules) c.args.g.now.made refl c.horner-next.ensures.0 l.invariant.1 in
    (added_next (search rules) l.invariant.0 q c.dot.ensures c.sum.ensures, q)

pub returns : goal.returns
returns c = let l = c.loop-i in let n : l.i ≡ 2 * c.args.g.now.e = omega arith in rw n at l.invariant.0

pub loop-i-init : goal.loop-i-init
loop-i-init c = (added_start, quotients_start (2 * c.args.g.now.e) c.args.x)
