-- A sent unit has few octets.
use Rattle.std.proofs.Common.{arith}
use Rattle.adaptation.proofs.Laws.{coding-all}
use Rattle.kyteblossom.proofs.kyte_length.Goals as goal

pub answer-requires : goal.answer-requires
answer-requires c = λ m e. omega (arith, (coding-all _ _ _ _ (rw e at c.sent_length.ensures)).2)
