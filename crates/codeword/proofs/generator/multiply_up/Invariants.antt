-- Each octet is the product of the last s ratios.
use Rattle.std.proofs.Common.{◌-◌, ◌≤◌, suc, ◌+◌}
use Rattle.codeword.specs.Generator.{Upper}
use Rattle.codeword.specs.Register.{ones}
use Rattle.codeword.proofs.generator.multiply_up.Given as goal

abbrev pub invariant-loop-s : goal.invariant-loop-s
invariant-loop-s l = (1 ≤ l.s) × Upper l.e l.s (suc ones + l.e) l.p

abbrev pub decreases-loop-s : goal.decreases-loop-s
decreases-loop-s l = l.e - l.s
