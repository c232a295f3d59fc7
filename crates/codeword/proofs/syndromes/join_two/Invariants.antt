-- What is there comes from the columns from q on, in both halves.
use Rattle.std.proofs.Common.{◌+◌}
use Rattle.codeword.proofs.Horner.{HornerLanes}
use Rattle.codeword.specs.Lanes.{along}
use Rattle.codeword.specs.Rows.{spaced}
use Rattle.codeword.proofs.syndromes.join_two.Given as goal

abbrev pub invariant-loop-q : goal.invariant-loop-q
invariant-loop-q l =
    HornerLanes 15 l.q (along l.k) (λ i. spaced l.v 48 (l.o + i)) l.low × HornerLanes 15 l.q (along (l.k + 16)) (λ i. spaced l.v 48 (l.u + i)) l.high
