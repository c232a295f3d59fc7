-- A turn is `held-turned`.
use Rattle.std.proofs.Common.{◌≡◌, sym, arith, rules, add-one, length, ◌∙◌}
use Rattle.checks.proofs.Residue.{held_none}
use Rattle.checks.proofs.Turns.{held-turned}
use Rattle.checks.proofs.take.Goals as goal

pub loop-octet-init : goal.loop-octet-init
loop-octet-init g c =
    let l : length c.args.start ≡ g.row.N = omega arith in
    sym (held_none g.R.Rule.kind c.args.start (omega (arith, l)) (λ i. search rules))

pub loop-octet-preserved : goal.loop-octet-preserved
loop-octet-preserved g c =
    let l : length c.args.start ≡ g.row.N = omega arith in
    let i = c.loop-octet.octet-index in
    c.turn-register.ensures ∙ (rw add-one (held-turned g.R.Rule.kind c.args.start c.args.content.now c.loop-octet.register i (omega (arith, l)) (omega arith) c.loop-octet-test.true (grind arith) c.loop-octet.invariant))
