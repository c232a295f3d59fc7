-- The generator is taken off the first o octets.
use Rattle.std.proofs.Common.{◌≡◌, ◌*◌, ◌-◌, ◌≤◌, get_or}
use Rattle.codeword.specs.Register.{Lowered}
use Rattle.codeword.proofs.encoding.turn.Given as goal

abbrev pub invariant-loop-o : goal.invariant-loop-o
invariant-loop-o l = (l.o ≤ 2 * l.g.e) × Lowered l.o l.i l.g.row l.initial.w l.w × (l.feedback ≡ get_or l.initial.w l.i 0)

abbrev pub decreases-loop-o : goal.decreases-loop-o
decreases-loop-o l = 2 * l.g.e - l.o
