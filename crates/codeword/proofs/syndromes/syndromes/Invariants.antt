-- The syndromes below `from` are there.
use Rattle.std.proofs.Common.{◌≡◌, ◌-◌, ◌%◌, ◌≤◌, length}
use Rattle.codeword.proofs.Columns.{Blocks}
use Rattle.codeword.proofs.Joining.{Syndrome}
use Rattle.codeword.proofs.syndromes.syndromes.Given as goal

abbrev pub invariant-loop-from : goal.invariant-loop-from
invariant-loop-from l = (l.from ≤ l.m) × (l.from % 32 ≡ 0) × (length l.s ≡ 256) × Blocks (Syndrome l.word) l.from l.m l.s

abbrev pub decreases-loop-from : goal.decreases-loop-from
decreases-loop-from l = l.m - l.from
