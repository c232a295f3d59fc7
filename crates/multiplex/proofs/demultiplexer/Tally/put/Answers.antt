-- The octets join what a segmentable channel holds; else they are written and noted as a unit.
use Rattle.std.proofs.Common.{refl}
use Rattle.multiplex.proofs.Pouring.{takes-unit}
use Rattle.multiplex.proofs.demultiplexer.Tally.put.Goals as goal

pub returns-else-c : goal.returns-else-c
returns-else-c c = takes-unit c.if-c.false refl c.put_unit.ensures.output c.put_unit.ensures.units
