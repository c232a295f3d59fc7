use Rattle.std.proofs.Common.{arith, ◌≡◌, length-take-le, get_or-take}
use Rattle.codeword.proofs.Joining.{all_zero-none, all_zero_more}
use Rattle.codeword.proofs.syndromes.clean.Goals as goal

pub loop-x-init : goal.loop-x-init
loop-x-init c = all_zero-none _

pub loop-x-preserved : goal.loop-x-preserved
loop-x-preserved c =
    let l = c.loop-x in
    let s = c.args.s.now in
    let long = length-take-le c.args.m s (omega arith) in
    rw (get_or-take c.args.m s l.x-index 0 (omega (arith, long))) (all_zero_more l.x-index l.any s l.invariant)

pub returns : goal.returns
returns c =
    let l = c.loop-x in
    let e : l.x-index ≡ c.args.m = omega (arith, length-take-le c.args.m c.args.s.now (omega arith)) in
    rw e at l.invariant
