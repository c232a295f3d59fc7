-- The blocks from b on have been multiplied.
use Rattle.std.proofs.Common.{suc, ◌+◌, ◌*◌}
use Rattle.codeword.specs.Generator.{Doubled}
use Rattle.codeword.specs.Register.{ones}
use Rattle.codeword.proofs.generator.double_up.Given as goal

abbrev pub invariant-loop-b : goal.invariant-loop-b
invariant-loop-b l = Doubled l.s (suc ones + 16 * l.b) (suc ones + l.e) l.initial.p l.p
