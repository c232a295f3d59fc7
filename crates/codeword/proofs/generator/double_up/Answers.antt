use Rattle.std.proofs.Common.{◌≡◌, arith, rules}
use Rattle.codeword.proofs.Generating.{doubled_start, doubled-next}
use Rattle.codeword.proofs.generator.double_up.Goals as goal

pub loop-b-init : goal.loop-b-init
loop-b-init c = doubled_start (search rules)

pub loop-b-preserved : goal.loop-b-preserved
loop-b-preserved c = doubled-next (search rules) (search rules) c.loop-b.invariant c.load-x.ensures c.load-y.ensures c.products.ensures c.store.ensures

pub returns : goal.returns
returns c = let e : c.loop-b.b ≡ 0 = omega arith in rw e at c.loop-b.invariant
