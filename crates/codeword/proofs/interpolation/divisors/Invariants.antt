-- The coefficients from e - h on have been taken in.
use Rattle.std.proofs.Common.{get_or}
use Rattle.codeword.proofs.Interpolating.{horned}
use Rattle.codeword.specs.Element.{element}
use Rattle.codeword.specs.Interpolation.{ElementLanes}
use Rattle.codeword.proofs.interpolation.divisors.Given as goal

abbrev pub invariant-loop-h : goal.invariant-loop-h
invariant-loop-h l = ElementLanes (λ k. horned l.g.e l.h (element (get_or l.y k 0))) l.d
