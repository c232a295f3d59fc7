-- The rows below d are there.
use Rattle.std.proofs.Common.{◌≡◌, length}
use Rattle.codeword.proofs.Columns.{RowsLaid}
use Rattle.codeword.proofs.rows.lay.Given as goal

abbrev pub invariant-loop-d : goal.invariant-loop-d
invariant-loop-d l = (length l.f ≡ 272) × RowsLaid l.d l.w l.f
