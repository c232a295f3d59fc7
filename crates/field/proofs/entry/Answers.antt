-- Entry k modulo the order of a list that passes the test of Table D.I.1.
use Rattle.std.proofs.Common.{◌∙◌, ◌%◌, arith}
use Rattle.field.specs.Octet.{order}
use Rattle.field.specs.Octet.Table.{powers_at}
use Rattle.field.proofs.Octet.Inverse.{power_wrap}
use Rattle.field.proofs.entry.Goals as goal

pub returns : goal.returns
returns c =
    let k = c.args.k in
    powers_at c.args.powers.now c.requires (k % order) (omega arith) ∙ power_wrap k
