-- The constant is Table D.I.1: tested over all its entries.
use Rattle.field.specs.Octet.Table.{worked}
use Rattle.field.proofs.powers.Goals as goal

pub lay-requires : goal.lay-requires
unfolding worked
lay-requires c = tt
