use Rattle.std.proofs.Common.{rules, ◌≡◌, refl, ◌+◌, ◌-◌, arith, get_or, replicate}
use Rattle.codeword.proofs.Horner.{horner-first, horner_turn, turned_octets, same-lanes, same_octets, horner-lanes}
use Rattle.codeword.specs.Lanes.{lanes, along}
use Rattle.codeword.proofs.search.values.Goals as goal

pub loop-j-init : goal.loop-j-init
loop-j-init c =
    let a = c.args in
    (horner-first refl refl (same-lanes a.c.now a.l refl), same_octets (search rules))

pub loop-j-preserved : goal.loop-j-preserved
loop-j-preserved c =
    let l = c.loop-j in
    let f = c.args.c.now in
    let x = get_or f (l.j - 1) 0 in
    let e : l.j ≡ l.j - 1 + 1 = omega arith in (
      horner_turn (λ i. get_or (replicate lanes x) i 0) (omega arith) (same-lanes f (l.j - 1) refl) c.ahead-next.ensures (rw e at l.invariant.0),
      turned_octets (along c.args.k) l.a (λ i. get_or (replicate lanes x) i 0) (same_octets (search rules)) c.ahead-next.ensures,
    )

pub returns : goal.returns
returns c =
    let e : c.loop-j.j ≡ 0 = omega arith in
    horner-lanes c.args.c.now c.loop-j.invariant.1 (rw e at c.loop-j.invariant.0)
