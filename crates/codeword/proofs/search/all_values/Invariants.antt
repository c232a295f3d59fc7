-- The values at the places below p are there.
use Rattle.std.proofs.Common.{◌≡◌, ◌-◌, ◌%◌, ◌≤◌, length}
use Rattle.codeword.proofs.Columns.{Blocks}
use Rattle.codeword.specs.Element.{octet}
use Rattle.codeword.specs.Lanes.{lanes}
use Rattle.codeword.specs.Places.{inverses}
use Rattle.codeword.specs.Search.{value_of}
use Rattle.std.proofs.Common.{◌+◌}
use Rattle.codeword.proofs.search.all_values.Given as goal

abbrev pub invariant-loop-p : goal.invariant-loop-p
invariant-loop-p l = (l.p ≤ l.n) × (l.p % lanes ≡ 0) × (length l.v ≡ 272) × Blocks (λ q y. y ≡ value_of l.c (l.l + 1) (octet (inverses l.n q))) l.p l.n l.v

abbrev pub decreases-loop-p : goal.decreases-loop-p
decreases-loop-p l = l.n - l.p
