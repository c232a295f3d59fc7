-- What is there comes from the coefficients from j on.
use Rattle.std.proofs.Common.{◌+◌}
use Rattle.codeword.proofs.Horner.{HornerLanes}
use Rattle.codeword.specs.Lanes.{OctetLanes, along}
use Rattle.codeword.specs.Places.{places}
use Rattle.codeword.proofs.search.values.Given as goal

abbrev pub invariant-loop-j : goal.invariant-loop-j
invariant-loop-j l = HornerLanes (l.l + 1) l.j (along l.k) (λ i. places l.c) l.a × OctetLanes l.a
