-- Each answer is what the steps before it show.
use Rattle.std.proofs.Common.{rules, refl, subst, ℕ, arith, length, length-take-le}
use Rattle.codeword.proofs.Correcting.{corrected_listed}
use Rattle.codeword.proofs.Repairing.{long_lost, roots_lost, corrected_found, reads_true}
use Rattle.codeword.specs.Repair.{lending}
use Rattle.codeword.specs.Search.{SearchIs}
use Rattle.codeword.proofs.decode.Goals as goal

pub returns-then-e-l : goal.returns-then-e-l
returns-then-e-l c =
    let a = c.args in
    record {
      none = λ fits. long_lost a.e a.received.now a.s.now _ _ (search rules) (λ i. (c.type_inv.received i).fits)
          c.requires.syndromes c.locator-recurrence.ensures.0 c.if-e-l.true;
      same = refl;
    }

pub returns-then-count-l : goal.returns-then-count-l
returns-then-count-l c =
    let a = c.args in
    record {
      none = λ fits. roots_lost a.e a.received.now a.s.now _ _ (search rules) (λ i. (c.type_inv.received i).fits)
          c.requires.syndromes c.locator-recurrence.ensures.0 _ _ c.if-e-l.false c.search-roots.ensures c.if-count-l.true;
      same = refl;
    }

pub returns : goal.returns
returns c =
    let a = c.args in
    let pre = c.requires in
    let found = c.locator-recurrence in
    let l = found.result.degree in
    let s = c.search-roots in
    let n = length a.received.now in
    let every : SearchIs n l found.result.coefficients s.result.at l =
    subst (λ (k : ℕ). SearchIs n l found.result.coefficients s.result.at k) c.if-count-l.false s.ensures in
    let listed = length-take-le l s.result.at (omega (arith, s.ensures.long, c.if-e-l.false, pre)) in
    corrected_found a.e a.received.now a.s.now _ _ pre.short (λ i. (c.type_inv.received i).fits) pre.syndromes found.ensures.0 _ _ _ every
    c.if-e-l.false found.ensures.1 (c.odds-d.ensures l (omega (arith, c.if-e-l.false, pre)))
    a.repaired.now _ pre.room
    (corrected_listed (rw (listed, c.write.ensures) at c.correct.ensures)) (omega (arith, pre)) a.places.now _
    (reads_true n a.e (lending a.repaired.now a.places.now) pre.short pre.parity pre.room pre.list) c.write-2.ensures
