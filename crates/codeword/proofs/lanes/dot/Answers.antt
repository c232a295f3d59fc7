use Rattle.codeword.proofs.Laning.{summed_start, summed-next}
use Rattle.codeword.proofs.lanes.dot.Goals as goal

pub loop-k-init : goal.loop-k-init
loop-k-init c = summed_start

pub loop-k-preserved : goal.loop-k-preserved
loop-k-preserved c = summed-next c.loop-k.invariant (cc)
