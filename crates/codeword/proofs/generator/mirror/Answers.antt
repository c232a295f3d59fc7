use Rattle.std.proofs.Common.{suc, ◌+◌, ◌*◌, rules}
use Rattle.codeword.proofs.Generating.{far-lanes, mirror_start, mirror-far, mirror-next, half_fewer}
use Rattle.codeword.specs.Generator.{Half}
use Rattle.codeword.specs.Register.{ones}
use Rattle.codeword.proofs.generator.mirror.Goals as goal
use Rattle.codeword.proofs.generator.mirror.Goals.{After-products-next}

pub loop-o-init : goal.loop-o-init
loop-o-init c = (
  search rules,
  half_fewer (search rules) c.requires.1,
  mirror_start c.args.e c.multiples-c.ensures,
  far-lanes c.args.e c.at.ensures c.splat-far.ensures,
)

next : (c : After-products-next) → Half (2 * c.args.e) (suc ones + c.args.e + (c.loop-o.o + 16)) c.store.new.s
next c = let l = c.loop-o in mirror-next c.args.e l.o (search rules) (search rules) l.invariant.2 c.backwards-y.ensures c.products.ensures c.store.ensures l.invariant.1

pub loop-o-preserved : goal.loop-o-preserved
loop-o-preserved c =
    let l = c.loop-o in (
      search rules,
      next (goal.at.loop-o-preserved c).After-products-next,
      mirror-far c.args.e l.o l.invariant.3 l.invariant.2 c.products-next.ensures,
      l.invariant.3,
    )

pub returns : goal.returns
returns c = half_fewer (search rules) c.loop-o.invariant.1

pub returns-2 : goal.returns-2
returns-2 c = half_fewer (search rules) (next (goal.at.returns-2 c).After-products-next)
