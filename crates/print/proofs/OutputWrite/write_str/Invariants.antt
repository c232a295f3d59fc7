-- What was put: the octets so far.
use Rattle.std.proofs.Common.{take}
use Rattle.print.specs.Buffer.{Rests}
use Rattle.print.proofs.OutputWrite.write_str.Given as goal

abbrev pub invariant-loop-octet : goal.invariant-loop-octet
invariant-loop-octet g l = Rests (take l.fn.self.n l.fn.self.octets) (take l.octet-index l.octets) (take l.self.n l.self.octets)
