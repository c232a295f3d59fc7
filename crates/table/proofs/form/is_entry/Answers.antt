-- What is read as an entry, with nothing behind it, is one.
use Rattle.std.proofs.Common.{rules, arith}
use Rattle.table.specs.Cursor.{reads}
use Rattle.table.proofs.Joining.{reads_entry}
use Rattle.table.proofs.form.is_entry.Goals as goal

pub returns : goal.returns
unfolding reads
returns c = rw (← reads_entry c.args.s.now (λ i. omega (arith, (c.type_inv.s i).fits)), ← c.read.ensures) (search rules)
