-- What was written at the front stands there, with the start added.
use Rattle.std.proofs.Common.{◌≡◌, ap, ◌∙◌, List, ℕ, length, take, replicate, arith}
use Rattle.checks.proofs.Xors.{take-xors}
use Rattle.checks.specs.Steps.{xors}
use Rattle.octets.specs.Written.{written_front}
use Rattle.checks.proofs.laid.Goals as goal

pub returns : goal.returns
returns g c =
    let u : List ℕ = c.args.content.now in
    let s = c.args.start in
    let l : length s ≡ g.row.N = omega arith in
    ap (take (length u)) c.add.ensures ∙ take-xors c.write.new.dst s (length u) (omega (arith, l, c.requires))
    ∙ ap (λ (x : List ℕ). xors x s) (ap (take (length u)) c.write.ensures ∙ written_front (replicate 1024 0) u c.requires.1)
