-- By whether the octets are a record, and then by the room.
use Rattle.std.proofs.Common.{◌≡◌, inl, inr, arith, Err}
use Rattle.std.proofs.lemmas.Result.{err_from_is_err_and}
use Rattle.calls.specs.declared.Refusal.TheVariants.{BadForm}
use Rattle.record.proofs.Ending.{reads_none, reads_room, reads_deliverable, reads_delivered, record_octets}
use Rattle.record.proofs.read.Goals as goal
use Rattle.record.proofs.read.Goals.{then-numbers-count-via-then-numbers-count, then-numbers-count-via-else-numbers-count+then-content-before}

pub returns-in_err-count : goal.returns-in_err-count
returns-in_err-count c =
    let p = err_from_is_err_and c.from_residual.result c.from_residual.ensures.1 in
    let refused = rw c.in_err-count.ensures.ok_part at c.in_err-count.ensures.value in
    let which : c.from_residual.result ≡ Err BadForm = cc in
    rw which (reads_none _ _ (rw c.in_err-count.ensures.ok_part at c.find.ensures))

pub overflow_sub-before : goal.overflow_sub-before
overflow_sub-before c =
    let f = rw c.in_ok-count.ensures.ok_part at c.find.ensures in
    omega (arith, record_octets _ _ f.1)

pub returns-then-numbers-count : goal.returns-then-numbers-count
returns-then-numbers-count c =
    let f = rw c.in_ok-count.ensures.ok_part at c.find.ensures in
    elim c.then-numbers-count.branch [
      | then-numbers-count-via-then-numbers-count w ↦ reads_room _ _ f.0 f.1 (inl (omega (arith, f.2)))
      | then-numbers-count-via-else-numbers-count+then-content-before w ↦
          reads_room _ _ f.0 f.1 (inr (omega (arith, f.2, record_octets _ _ f.1)))
    ]

pub overflow_sub-before-else-numbers-count : goal.overflow_sub-before-else-numbers-count
overflow_sub-before-else-numbers-count c =
    let f = rw c.in_ok-count.ensures.ok_part at c.find.ensures in
    omega (arith, record_octets _ _ f.1, f.2)

pub deliver-requires : goal.deliver-requires
deliver-requires c =
    let f = rw c.in_ok-count.ensures.ok_part at c.find.ensures in
    reads_deliverable _ _ f.0 f.1 (omega (arith, c.if-numbers-count.false, f.2))
    (omega (arith, c.if-content-before.false, f.2, record_octets _ _ f.1)) f.2

pub returns : goal.returns
returns c =
    let f = rw c.in_ok-count.ensures.ok_part at c.find.ensures in
    reads_delivered _ _ f.0 f.1 (omega (arith, c.if-numbers-count.false, f.2))
    (omega (arith, c.if-content-before.false, f.2, record_octets _ _ f.1)) _ _ _ f.2 c.deliver.ensures
