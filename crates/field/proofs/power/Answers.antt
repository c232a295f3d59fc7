-- The constant is Table D.I.1: tested over all its entries.
use Rattle.field.specs.Octet.Table.{worked}
use Rattle.field.proofs.power.Goals as goal

pub entry-requires : goal.entry-requires
unfolding worked
entry-requires c = tt
