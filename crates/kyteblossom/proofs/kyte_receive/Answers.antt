-- What is told of a unit is small.
use Rattle.std.proofs.Common.{arith}
use Rattle.adaptation.proofs.Laws.{handed-small}
use Rattle.kyteblossom.proofs.kyte_receive.Goals as goal

pub map-requires : goal.map-requires
map-requires c = λ j e. let small = handed-small _ _ _ _ _ _ (rw e at c.receive.ensures) in (omega (arith, small.0), omega (arith, small.1))
