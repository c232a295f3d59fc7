-- After i turns the octets from i on leave what the content leaves with the start added: a turn is `turn`.
use Rattle.std.proofs.Common.{◌≡◌, length, take, drop}
use Rattle.checks.specs.Check.{Kind}
use Rattle.checks.specs.Steps.{left, xors, Folds}
use Rattle.codeword.specs.CodeWord.{Octets}
use Rattle.checks.proofs.folded.Given as goal

abbrev pub invariant-loop-i : goal.invariant-loop-i
invariant-loop-i g l =
    ((κ : Kind) → Folds κ l.terms.near l.terms.middle l.terms.far
    → left κ (drop l.i (take (length l.content) l.w)) ≡ left κ (xors l.content l.fn.start))
    × Octets l.w × (length l.w ≡ 1024)
