-- What is told of a packet is small.
use Rattle.std.proofs.Common.{sym}
use Rattle.packets.proofs.Laws.{read-told-small}
use Rattle.kyteblossom.proofs.kyte_packet_read.Goals as goal

pub map-requires : goal.map-requires
map-requires c = λ p e. read-told-small _ _ (sym (rw e at c.read.ensures))
