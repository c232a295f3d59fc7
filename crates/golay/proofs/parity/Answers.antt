-- At the start nothing was added, and after the last row no bit is left that has one.
use Rattle.std.proofs.Common.{◌≡◌, sym, ◌∙◌, arith, rules}
use lib.Bits.{xor_zero_r}
use Rattle.golay.proofs.Linear.{product_next}
use Rattle.golay.specs.Code.{product, parity}
use Rattle.golay.specs.Matrix.{matrix}
use Rattle.golay.proofs.parity.Goals as goal

pub loop-row-init : goal.loop-row-init
unfolding parity
loop-row-init c = search rules

pub loop-row-preserved : goal.loop-row-preserved
unfolding matrix
loop-row-preserved c =
    let l = c.loop-row in
    product_next matrix l.row-index l.bits l.sum (omega arith) ∙ l.invariant

pub returns : goal.returns
unfolding product matrix
returns c =
    let l = c.loop-row in
    let e : l.row-index ≡ 12 = omega arith in
    sym (xor_zero_r l.sum) ∙ (rw e at l.invariant)
