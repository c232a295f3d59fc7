-- After i turns what stands behind octet i is as much as x^m times the message, but for a multiple of the generator.
use Rattle.std.proofs.Common.{◌*◌}
use Rattle.codeword.specs.Register.{Dividing}
use Rattle.codeword.proofs.encoding.divide.Given as goal

abbrev pub invariant-loop-i : goal.invariant-loop-i
invariant-loop-i l = Dividing (2 * l.g.e) l.i l.message l.w
