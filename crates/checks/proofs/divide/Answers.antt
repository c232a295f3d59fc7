-- What is left of the content where it is folded is held where the register starts with zeros.
use Rattle.std.proofs.Common.{◌≡◌, sym, ap, ◌∙◌, rules, arith, List, ℕ, ◌-◌, length, take, drop, replicate}
use mathlib.Core.Path.{ap₂}
use Rattle.checks.proofs.Fold.{left-held, held-left}
use Rattle.checks.specs.Steps.{held}
use Rattle.checks.proofs.divide.Goals as goal

pub returns : goal.returns
returns g c =
    let κ = g.R.Rule.kind in
    let u = c.args.content.now in
    let s = c.args.start in
    let n : length s ≡ g.row.N = omega arith in
    let w : List ℕ = drop (length u - 16) c.folded-w.result in
    let k : length u - (length u - 16) ≡ 16 = omega arith in
    c.take-2.ensures ∙ ap₂ (λ (m : ℕ) (v : List ℕ). held κ (replicate m 0) v) (sym c.requires.2) (ap (λ (j : ℕ). take j w) k)
    ∙ sym (left-held κ (take 16 w)) ∙ c.folded-w.ensures κ c.terms.ensures
    ∙ sym (held-left κ s u (omega (arith, n)) (omega arith) (λ i. search rules) (λ i. grind arith))
