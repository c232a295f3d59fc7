-- Nothing is set yet exactly where the octets so far are zero.
use Rattle.std.proofs.Common.{◌≡◌, eqb}
use Rattle.codeword.specs.Syndromes.{all_zero}
use Rattle.codeword.proofs.syndromes.clean.Given as goal

abbrev pub invariant-loop-x : goal.invariant-loop-x
invariant-loop-x l = eqb l.any 0 ≡ all_zero l.x-index l.s
