-- The rows from d on are folded; of row d, what the taps so far stand for.
use Rattle.std.proofs.Common.{◌≤◌}
use Rattle.codeword.proofs.Columns.{FoldingTo}
use Rattle.codeword.specs.Rows.{Folded}
use Rattle.codeword.proofs.rows.fold.Given as goal

abbrev pub invariant-loop-d : goal.invariant-loop-d
invariant-loop-d l = (8 ≤ l.d) × Folded l.d l.taps l.initial.f l.f

abbrev pub invariant-loop-tap : goal.invariant-loop-tap
invariant-loop-tap l = FoldingTo l.tap-index l.d l.taps l.a l.initial.f l.f
