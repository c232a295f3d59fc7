use Rattle.std.proofs.Common.{◌≡◌, refl, ◌+◌, ◌-◌, arith, get_or}
use Rattle.codeword.proofs.Columns.{loaded, evaluated}
use Rattle.codeword.proofs.Horner.{horner-first, horner_turn}
use Rattle.codeword.proofs.syndromes.join.Goals as goal

pub loop-q-init : goal.loop-q-init
loop-q-init c = let a = c.args in horner-first refl c.load-a.ensures.long (loaded a.v.now 48 a.o 14 refl c.load-a.ensures)

pub loop-q-preserved : goal.loop-q-preserved
loop-q-preserved c =
    let l = c.loop-q in
    let a = c.args in
    let e : l.q ≡ l.q - 1 + 1 = omega arith in
    horner_turn (λ i. get_or c.load.result i 0) (omega arith) (loaded a.v.now 48 a.o (l.q - 1) refl c.load.ensures) c.ahead-next.ensures (rw e at l.invariant)

pub returns : goal.returns
returns c =
    let a = c.args in
    let e : c.loop-q.q ≡ 0 = omega arith in
    evaluated a.v.now 48 a.o (rw e at c.loop-q.invariant)
