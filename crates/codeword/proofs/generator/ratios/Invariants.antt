-- The ratios below place o are there.
use Rattle.std.proofs.Common.{◌≡◌, ◌-◌, ◌≤◌, suc, ◌+◌}
use Rattle.codeword.specs.Generator.{Upper, rise}
use Rattle.codeword.specs.Register.{ones}
use Rattle.codeword.proofs.generator.ratios.Given as goal

abbrev pub invariant-loop-o : goal.invariant-loop-o
invariant-loop-o l = (l.o ≤ l.e) × Upper l.e 1 (suc ones + l.o) l.p × (l.last ≡ rise l.e)

abbrev pub decreases-loop-o : goal.decreases-loop-o
decreases-loop-o l = l.e - l.o
