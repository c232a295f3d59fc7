use Rattle.std.proofs.Common.{◌≡◌, refl, arith, rules}
use Rattle.codeword.proofs.Interpolating.{values_start, values-next, values-end}
use Rattle.codeword.proofs.interpolation.divisors.Goals as goal

pub loop-h-preserved : goal.loop-h-preserved
loop-h-preserved c = let l = c.loop-h in values-next c.args.g.now.e l.h c.products-y.result (search rules) c.args.g.now.made refl c.horner-next.ensures.1 c.horner-next.ensures.0 l.invariant

pub returns : goal.returns
returns c = let l = c.loop-h in let n : l.h ≡ c.args.g.now.e = omega arith in values-end c.args.g.now.e c.args.x c.products-y.result c.products-y.ensures (rw n at l.invariant)

pub loop-h-init : goal.loop-h-init
loop-h-init c = values_start c.args.g.now.e c.products-y.result
