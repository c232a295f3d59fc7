use Rattle.std.proofs.Common.{rules, ◌≡◌, ◌+◌, min, arith}
use Rattle.codeword.proofs.Searching.{gathered_start, gathered_searched}
use Rattle.codeword.proofs.search.search.Goals as goal

pub loop-p-init : goal.loop-p-init
loop-p-init c = (search rules, gathered_start)

pub loop-p-preserved : goal.loop-p-preserved
loop-p-preserved c =
    let e : min c.args.n (c.loop-p.p + 16) ≡ c.loop-p.p + 16 = omega arith in
    (search rules, rw e at c.block-count.ensures)

pub returns : goal.returns
returns c = gathered_searched (omega arith) c.all_values.ensures c.loop-p.invariant.1

pub returns-2 : goal.returns-2
returns-2 c = gathered_searched (omega arith) c.all_values.ensures c.block-count.ensures
