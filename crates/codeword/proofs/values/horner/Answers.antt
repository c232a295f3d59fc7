use Rattle.std.proofs.Common.{rules, ◌≡◌, sym, ◌+◌, ◌-◌, arith, lit<, get_or}
use Rattle.codeword.proofs.Horner.{horner-none, horner_turn, turned_octets, same_octets, horner-lanes}
use Rattle.codeword.proofs.Word.{places-at}
use Rattle.codeword.proofs.values.horner.Goals as goal

pub loop-i-init : goal.loop-i-init
loop-i-init c = (horner-none, same_octets (lit< tt))

pub loop-i-preserved : goal.loop-i-preserved
loop-i-preserved c =
    let l = c.loop-i in
    let a = c.args in
    let f = a.f.now in
    let e : l.i ≡ l.i - 1 + 1 = omega arith in (
      horner_turn (λ k. get_or f (l.i - 1) 0) (search rules) (λ k m. sym (places-at f (l.i - 1))) c.horner-next.ensures.0 (rw e at l.invariant.0),
      turned_octets (λ k. get_or a.x k 0) l.v (λ k. get_or f (l.i - 1) 0) (λ k m. c.horner-next.ensures.1) c.horner-next.ensures.0,
    )

pub returns : goal.returns
returns c =
    let e : c.loop-i.i ≡ 0 = omega arith in
    horner-lanes c.args.f.now c.loop-i.invariant.1 (rw e at c.loop-i.invariant.0)
