-- What is there comes from the coefficients from i on.
use Rattle.std.proofs.Common.{get_or}
use Rattle.codeword.proofs.Horner.{HornerLanes}
use Rattle.codeword.specs.Lanes.{OctetLanes}
use Rattle.codeword.specs.Places.{places}
use Rattle.codeword.proofs.values.horner.Given as goal

abbrev pub invariant-loop-i : goal.invariant-loop-i
invariant-loop-i l = HornerLanes l.n l.i (λ k. get_or l.x k 0) (λ k. places l.f) l.v × OctetLanes l.v
