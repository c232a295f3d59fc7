-- Refused by the tests of the lengths; else number, unit and check are written one behind the other.
use Rattle.std.proofs.Common.{◌≡◌, sym, ap, ◌∙◌, arith, length}
use Rattle.adaptation.specs.AL2.{field}
use Rattle.adaptation.proofs.Wholes.{field_is, sent_empty, sent-long, sent-room, sent-parts}
use borrow.Author.Tests.{eqb-true, eqb-false}
use Rattle.adaptation.proofs.al2.send.Goals as goal
use Rattle.adaptation.proofs.al2.send.Goals.{After-as_slice-field, then-is_empty-via-then-is_empty, then-is_empty-via-else-is_empty+then-from-unit}

written : (c : After-as_slice-field) → c.as_slice-field.result.now ≡ field c.args.number
written c = field_is c.args.number c.as_slice-field.result.now c.as_slice-field.ensures

pub returns-then-is_empty : goal.returns-then-is_empty
returns-then-is_empty c =
    let f = ap length (written (goal.at.returns-then-is_empty c).After-as_slice-field) in
    elim c.then-is_empty.branch [
      | then-is_empty-via-then-is_empty w ↦ sym (sent_empty _ _ _ f _ (eqb-true _ _ (sym c.is_empty.ensures ∙ w.if-is_empty.true)))
      | then-is_empty-via-else-is_empty+then-from-unit w ↦ sym (sent-long _ _ _ f _ (omega arith))
    ]

pub returns-then-out-n : goal.returns-then-out-n
returns-then-out-n c =
    let f = ap length (written (goal.at.returns-then-out-n c).After-as_slice-field) in
    let some = eqb-false _ _ (sym c.is_empty.ensures ∙ c.if-is_empty.false) in
    sym (sent-room _ _ _ f _ (omega (arith, some)) (omega arith) (omega arith))

pub returns : goal.returns
returns c =
    let e = written (goal.at.returns c).After-as_slice-field in
    let some = eqb-false _ _ (sym c.is_empty.ensures ∙ c.if-is_empty.false) in
    sym (sent-parts _ _ _ (ap length e) _ (omega (arith, some)) (omega arith) (omega arith) _ _ _ (rw e at c.write.ensures) c.write-2.ensures c.seal.ensures)
