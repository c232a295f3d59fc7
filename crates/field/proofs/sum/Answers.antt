-- The sum is exclusive or.
use Rattle.std.proofs.Common.{sym}
use Rattle.field.specs.Octet.Laws.{sum_xor}
use Rattle.field.proofs.sum.Goals as goal

pub returns : goal.returns
returns c = sym (sum_xor c.args.a c.args.b)
