use Rattle.std.proofs.Common.{rules, ◌≡◌, ◌∙◌, arith, length}
use Rattle.codeword.proofs.Stepping.{massey_start, located_near, located-far, located-copied}
use Rattle.codeword.specs.Locator.{room, part}
use Rattle.codeword.proofs.locator.locator.Goals as goal
use Rattle.codeword.proofs.locator.locator.Goals.{else-loop-r-test, then-loop-r-test+then-e-state}

pub loop-r-init : goal.loop-r-init
loop-r-init c = (search rules, search rules, massey_start _ (search rules) (search rules) c.write.ensures c.write-2.ensures)

pub step-requires : goal.step-requires
step-requires c =
    let l = c.loop-r in
    (search rules, search rules, l.invariant.0, l.invariant.2.state.state.short, omega (arith, l.invariant.2.shift_small))

pub loop-r-preserved : goal.loop-r-preserved
loop-r-preserved c =
    let l = c.loop-r in
    (search rules, c.step.ensures.long ∙ l.invariant.1, c.step.ensures.next _ l.invariant.2 (search rules))

pub returns : goal.returns
unfolding part
returns c =
    let l = c.loop-r in
    let long : length c.loop-r-test.state.z ≡ room = elim c.loop-r-test.branch [
      | else-loop-r-test w ↦ rw w.state-is l.invariant.1
      | then-loop-r-test+then-e-state w ↦ rw w.state-is (w.step.ensures.long ∙ l.invariant.1)
    ] in
    located-copied c.loop-r-test.state.z long c.padded-coefficients.ensures c.write-3.ensures (elim c.loop-r-test.branch [
      | else-loop-r-test w ↦ rw w.state-is (located_near (search rules) l.invariant.2)
      | then-loop-r-test+then-e-state w ↦ rw w.state-is (located-far _ w.loop-r-test.true w.if-e-state.true l.invariant.2 w.step.ensures)
    ])
