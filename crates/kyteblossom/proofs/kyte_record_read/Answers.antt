-- A record has few units.
use Rattle.std.proofs.Common.{arith}
use Rattle.record.proofs.Laws.{read_small}
use Rattle.kyteblossom.proofs.kyte_record_read.Goals as goal

pub answer-requires : goal.answer-requires
answer-requires c = λ m e. omega (arith, read_small (rw e at c.read.ensures))
