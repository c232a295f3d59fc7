use Rattle.std.proofs.Common.{rules}
use Rattle.codeword.proofs.Generating.{upper-doubled, upper_half}
use Rattle.codeword.proofs.generator.multiply_up.Goals as goal

pub returns : goal.returns
returns c = upper_half (search rules) c.loop-s.invariant.1

pub loop-s-init : goal.loop-s-init
loop-s-init c = (search rules, c.requires.1)

pub loop-s-preserved : goal.loop-s-preserved
loop-s-preserved c = (search rules, upper-doubled c.loop-s.invariant.1 c.double_up.ensures)
