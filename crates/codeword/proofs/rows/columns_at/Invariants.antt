-- What is there comes from the rows from d on.
use Rattle.std.proofs.Common.{◌+◌}
use Rattle.codeword.proofs.Horner.{HornerLanes}
use Rattle.codeword.specs.Rows.{spaced}
use Rattle.codeword.proofs.rows.columns_at.Given as goal

abbrev pub invariant-loop-d : goal.invariant-loop-d
invariant-loop-d l = HornerLanes l.n l.d (λ i. l.y) (λ i. spaced l.f 16 (0 + i)) l.a
