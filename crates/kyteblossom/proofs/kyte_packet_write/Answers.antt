-- A packet has few octets.
use Rattle.std.proofs.Common.{sym, ap, arith, List, ℕ}
use Rattle.calls.specs.Refusal.{Ended}
use Rattle.packets.proofs.Laws.{write-small}
use Rattle.kyteblossom.proofs.kyte_packet_write.Goals as goal

pub answer-requires : goal.answer-requires
answer-requires c =
    λ n e. omega (arith, write-small _ _ _ _ _ n (sym (ap (λ (d : Ended ℕ (List ℕ)). d.answer) (rw e at c.write-written.ensures))))
