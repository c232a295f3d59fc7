use Rattle.octets.specs.Written.{writing_next}
use Rattle.octets.proofs.write.Goals as goal

pub loop-j-preserved : goal.loop-j-preserved
loop-j-preserved g c =
    rw (c.index-src-j.is) (writing_next c.loop-j.invariant c.index-src-j.result c.requires c.loop-j-test.true)
