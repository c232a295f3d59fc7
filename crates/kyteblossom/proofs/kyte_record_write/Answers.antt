-- A record has few octets.
use Rattle.std.proofs.Common.{arith}
use Rattle.record.proofs.Laws.{write-small}
use Rattle.kyteblossom.proofs.kyte_record_write.Goals as goal

pub answer-requires : goal.answer-requires
answer-requires c = λ m e. omega (arith, write-small (rw e at c.write.ensures))
