-- The discrepancy decides which of the steps of the theory this is.
use Rattle.std.proofs.Common.{rules, refl, arith}
use Rattle.codeword.proofs.Stepping.{massey-zero, massey_keep, massey_grow, stepped, stepped-far}
use Rattle.codeword.proofs.locator.State.step.Goals as goal

pub returns-then-x-eq0 : goal.returns-then-x-eq0
returns-then-x-eq0 c =
    let pre = c.requires in
    stepped refl (λ s h. massey-zero h refl pre.0 (omega (arith, pre.1)) c.if-x-eq0.true)

pub returns-then-r-self : goal.returns-then-r-self
returns-then-r-self c =
    let pre = c.requires in
    let mend = c.mend.ensures in
    rw (mend.rest.0, mend.rest.1, mend.rest.2)
    (stepped mend.mended.long (λ s h. massey_keep h refl pre.0 (omega (arith, pre.1)) (omega (arith, pre)) (omega (arith, pre)) mend.mended (omega arith)
    (omega arith) (omega (arith, c.if-r-self.true)) (omega (arith, c.if-r-self.true)) (mend.kept.same refl)))

pub returns-then-e-long : goal.returns-then-e-long
returns-then-e-long c =
    let pre = c.requires in
    stepped-far refl pre.0 (omega (arith, pre.1)) (search rules) c.if-x-eq0.false (omega (arith, c.if-r-self.false)) c.if-e-long.true

pub returns : goal.returns
returns c =
    let pre = c.requires in
    let mend = c.mend-2.ensures in
    stepped mend.mended.long (λ s h. massey_grow h refl pre.0 (omega (arith, pre.1)) (omega (arith, pre)) (omega (arith, pre)) mend.mended (omega arith)
    (omega (arith, c.if-r-self.false)) (omega (arith, c.if-r-self.false)) (search rules) c.if-x-eq0.false (omega (arith, c.if-r-self.false)) mend.kept)
