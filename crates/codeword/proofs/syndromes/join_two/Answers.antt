use Rattle.std.proofs.Common.{◌≡◌, refl, ◌+◌, ◌-◌, arith, get_or}
use Rattle.codeword.proofs.Columns.{loaded, evaluated}
use Rattle.codeword.proofs.Horner.{horner-first, horner_turn}
use Rattle.codeword.proofs.syndromes.join_two.Goals as goal

pub loop-q-init : goal.loop-q-init
loop-q-init c =
    let a = c.args in (
      horner-first refl c.load-low.ensures.long (loaded a.v.now 48 a.o 14 refl c.load-low.ensures),
      horner-first refl c.load-high.ensures.long (loaded a.v.now 48 a.u 14 refl c.load-high.ensures),
    )

pub loop-q-preserved : goal.loop-q-preserved
loop-q-preserved c =
    let l = c.loop-q in
    let a = c.args in
    let e : l.q ≡ l.q - 1 + 1 = omega arith in (
      horner_turn (λ i. get_or c.load.result i 0) (omega arith) (loaded a.v.now 48 a.o (l.q - 1) refl c.load.ensures) c.ahead-a.ensures (rw e at l.invariant.0),
      horner_turn (λ i. get_or c.load-in-loop-q.result i 0) (omega arith) (loaded a.v.now 48 a.u (l.q - 1) refl c.load-in-loop-q.ensures) c.ahead-b.ensures (rw e at l.invariant.1),
    )

pub returns : goal.returns
returns c =
    let l = c.loop-q in
    let a = c.args in
    let e : l.q ≡ 0 = omega arith in
    (evaluated a.v.now 48 a.o (rw e at l.invariant.0), evaluated a.v.now 48 a.u (rw e at l.invariant.1))
