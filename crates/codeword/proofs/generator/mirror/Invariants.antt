-- The coefficients up to place e + o are there, and c are the factors of the next.
use Rattle.std.proofs.Common.{◌-◌, ◌≤◌, suc, ◌+◌, ◌*◌}
use Rattle.codeword.specs.Generator.{Half, rise}
use Rattle.codeword.specs.Lanes.{Lanes}
use Rattle.codeword.specs.Register.{ones}
use Rattle.field.specs.Octet as Octet
use Rattle.codeword.proofs.generator.mirror.Given as goal

abbrev pub invariant-loop-o : goal.invariant-loop-o
invariant-loop-o l = (l.o ≤ l.e) × Half (2 * l.e) (suc ones + l.e + l.o) l.p × Lanes (λ k. Octet.power (rise l.e) (suc (l.o + k))) l.c × Lanes (λ k. Octet.power (rise l.e) 16) l.far

abbrev pub decreases-loop-o : goal.decreases-loop-o
decreases-loop-o l = l.e - l.o
