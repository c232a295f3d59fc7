-- The roots so far are filled in.
use Rattle.std.proofs.Common.{get_or}
use Rattle.codeword.specs.Rows.{Filling}
use Rattle.codeword.proofs.rows.fill_all.Given as goal

abbrev pub invariant-loop-r : goal.invariant-loop-r
invariant-loop-r l = Filling l.n l.f l.r-index (λ i. get_or l.roots i 0) l.m l.initial.v l.v
