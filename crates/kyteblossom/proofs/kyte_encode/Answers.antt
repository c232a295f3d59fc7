-- A sent unit has few octets.
use Rattle.std.proofs.Common.{arith}
use Rattle.adaptation.proofs.Laws.{sent-small}
use Rattle.kyteblossom.proofs.kyte_encode.Goals as goal

pub answer-requires : goal.answer-requires
answer-requires c = λ m e. omega (arith, sent-small _ _ _ _ _ _ (rw e at c.encode.ensures))
