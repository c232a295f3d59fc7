use Rattle.std.proofs.Common.{rules, ◌≡◌, ap, ◌∙◌, ℕ, ◌+◌, ◌-◌, arith, length, get_or}
use Rattle.checks.proofs.Turns.{turn, turn_octets, rest}
use Rattle.checks.specs.Steps.{left}
use Rattle.checks.proofs.folded.Goals as goal

pub loop-i-preserved : goal.loop-i-preserved
loop-i-preserved g c =
    let l = c.loop-i in
    let n = length c.args.content.now in
    let t = c.args.terms in
    let i = l.i in
    let a = get_or l.w i 0 in
    let o = l.invariant.1 in (
      (λ κ f. turn κ f n i l.w o (omega arith) (omega arith) ∙ l.invariant.0 κ f),
      turn_octets a (i + t.near) (i + t.middle) (i + t.far) l.w (o i) o,
      search rules,
    )

pub returns : goal.returns
returns g c =
    let l = c.loop-i in
    let n : ℕ = length c.args.content.now in
    let end : n - 16 ≡ l.i = omega arith in
    λ κ f. ap (left κ) (rest n (n - 16) l.w (omega arith)) ∙ (rw end (l.invariant.0 κ f))
