-- The parts have been added to the first i octets, and a are the coefficients that came last.
use Rattle.std.proofs.Common.{◌*◌}
use Rattle.codeword.proofs.Interpolating.{Quotients}
use Rattle.codeword.specs.Interpolation.{PartsAdded}
use Rattle.codeword.proofs.interpolation.add.Given as goal

abbrev pub invariant-loop-i : goal.invariant-loop-i
invariant-loop-i l = PartsAdded l.i (2 * l.g.e) l.x l.w l.initial.p l.p × Quotients (2 * l.g.e) l.i l.x l.a
