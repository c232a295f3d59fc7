use Rattle.std.proofs.Common.{sym, ap, ◌∙◌, List, ℕ, add-one, get_or}
use Rattle.std.proofs.Math.ListN.{set}
use lib.Bits.{bit_xor}
use Rattle.checks.proofs.Fold.{xors-nothing}
use Rattle.checks.proofs.Xors.{xors-more}
use Rattle.checks.proofs.add.Goals as goal

pub loop-k-init : goal.loop-k-init
loop-k-init c = sym (xors-nothing _)

pub loop-k-preserved : goal.loop-k-preserved
loop-k-preserved c =
    let k = c.loop-k.k in
    let b = get_or c.args.octets.now k 0 in
    rw add-one
    (ap (λ (t : List ℕ). set t k (bit_xor (get_or t k 0) b)) c.loop-k.invariant ∙ xors-more _ _ k c.loop-k-test.true c.requires)
