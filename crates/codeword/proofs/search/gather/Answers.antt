use Rattle.std.proofs.Common.{rules, ◌≡◌, arith}
use Rattle.codeword.proofs.Searching.{gathered-skip, gathered_hit}
use Rattle.codeword.proofs.search.gather.Goals as goal
use Rattle.codeword.proofs.search.gather.Goals.{then-v-p-eq0, else-v-p-eq0}

pub loop-p-preserved : goal.loop-p-preserved
loop-p-preserved c =
    let l = c.loop-p in
    elim c.if-v-p-eq0.branch [
      | then-v-p-eq0 w ↦ rw (w.at-is, w.n-is) (gathered_hit (search rules) w.if-v-p-eq0.true l.invariant)
      | else-v-p-eq0 w ↦ rw (w.at-is, w.n-is) (gathered-skip (search rules) (λ k m h z. (let e : k ≡ l.p = omega arith in w.if-v-p-eq0.false (rw e at z))) l.invariant)
    ]

pub returns : goal.returns
returns c =
    let e : c.loop-p.p ≡ c.args.to = omega arith in
    rw e at c.loop-p.invariant
