use Rattle.std.proofs.Common.{◌+◌, rules}
use Rattle.codeword.proofs.Parity.{lowered_start, lowered-next, lowered-end}
use Rattle.codeword.specs.Register.{Lowered}
use Rattle.codeword.proofs.encoding.turn.Goals as goal
use Rattle.codeword.proofs.encoding.turn.Goals.{After-store}

pub loop-o-init : goal.loop-o-init
loop-o-init c = (search rules, lowered_start, search rules)

next : (c : After-store) → Lowered (c.loop-o.o + 16) c.args.i c.args.g.now.row c.args.w.now c.store.new.s
next c = lowered-next c.loop-o.invariant.2 c.loop-o.invariant.1 c.load-x.ensures c.load-y.ensures c.mixed.ensures c.store.ensures

pub loop-o-preserved : goal.loop-o-preserved
loop-o-preserved c = (search rules, next (goal.at.loop-o-preserved c).After-store, search rules)

pub returns : goal.returns
returns c = lowered-end (search rules) (search rules) c.args.g.now.made c.loop-o.invariant.1

pub returns-2 : goal.returns-2
returns-2 c = lowered-end (search rules) (search rules) c.args.g.now.made (next (goal.at.returns-2 c).After-store)
