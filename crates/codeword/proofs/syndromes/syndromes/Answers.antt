use Rattle.std.proofs.Common.{rules, refl, arith}
use Rattle.codeword.proofs.Columns.{Blocks}
use Rattle.codeword.proofs.Joining.{Syndrome, joined_one, joined_two, joined_done}
use Rattle.codeword.proofs.syndromes.syndromes.Goals as goal
use Rattle.codeword.proofs.syndromes.syndromes.Goals.{else-loop-from-test, then-loop-from-test+else-m-from-gt32}

pub returns-then-m-le-LANES : goal.returns-then-m-le-LANES
returns-then-m-le-LANES c = joined_done c.join.result (search rules) (joined_one (search rules) c.values-v.ensures c.join.ensures) c.padded.ensures

pub loop-from-init : goal.loop-from-init
loop-from-init c = (search rules, refl, refl, λ i l. absurd (omega arith))

pub loop-from-preserved : goal.loop-from-preserved
loop-from-preserved c =
    let l = c.loop-from in
    let t = c.join_two.ensures in (
      search rules,
      omega (arith, l.invariant.1),
      search rules,
      (rw (c.write-in-loop-from.ensures, c.write.ensures) (joined_two l.from l.s (search rules) c.values-v.ensures (omega (arith, l.invariant.1, l.invariant.2)) t.0 t.1 l.invariant.3)),
    )

pub returns : goal.returns
returns c =
    let l = c.loop-from in
    let m = c.args.m in
    let all : Blocks (Syndrome c.args.word.now) m m c.loop-from-test.s =
    elim c.loop-from-test.branch [
      | else-loop-from-test w ↦ rw w.s-is (λ i k. l.invariant.3 i (omega (arith, w.loop-from-test.false)))
      | then-loop-from-test+else-m-from-gt32 w ↦ (let t = w.join_two.ensures in
          rw (w.s-is, w.write-in-loop-from.ensures, w.write.ensures)
          (λ i k. joined_two l.from l.s (search rules) c.values-v.ensures (omega (arith, l.invariant.1, l.invariant.2)) t.0 t.1 l.invariant.3 i (omega arith)))
    ] in
    joined_done c.loop-from-test.s (search rules) all c.padded-2.ensures
