-- By what the list is, its channels, its octets and the room.
use Rattle.std.proofs.Common.{◌≡◌, ◌∙◌, ℕ, ap, arith, Err}
use Rattle.std.proofs.lemmas.Result.{err_from_is_err_and}
use Rattle.calls.specs.declared.Refusal.TheVariants.{NoPlace, BadLength, BadForm}
use Rattle.record.proofs.Admitting.{listed-none, many_so, few_so, long_so, ready_so, wrote-told}
use Rattle.record.proofs.Ending.{writes-none, writes_many, writes_long, writes_room}
use Rattle.record.proofs.Listing.{before-total}
use Rattle.record.specs.Walk.{trailer_from}
use Rattle.record.proofs.write.Goals as goal

pub returns-in_err-lent : goal.returns-in_err-lent
returns-in_err-lent c =
    let p = err_from_is_err_and c.from_residual.result c.from_residual.ensures.1 in
    let refused = rw c.in_err-lent.ensures.ok_part at c.in_err-lent.ensures.value in
    let which : c.from_residual.result ≡ Err BadForm = cc in
    rw which (writes-none _ _ _ (listed-none (rw c.in_err-lent.ensures.ok_part at c.of.ensures)))

pub returns-in_err-places : goal.returns-in_err-places
returns-in_err-places c =
    let x = rw c.in_ok-lent.ensures.ok_part at c.of.ensures in
    let p = err_from_is_err_and c.from_residual-in_err-places.result c.from_residual-in_err-places.ensures.1 in
    let which : c.from_residual-in_err-places.result ≡ Err NoPlace = p.1 ∙ ap Err (p.2 ∙ c.in_err-places.ensures.0) in
    rw (which, ← x.0, ← x.1) (writes_many _ _ _ x.2.list x.2.lent x.2.ranges (many_so x.2 c.in_err-places.ensures.1))

pub returns-in_err-before : goal.returns-in_err-before
returns-in_err-before c =
    let x = rw c.in_ok-lent.ensures.ok_part at c.of.ensures in
    let p = err_from_is_err_and c.from_residual-in_err-before.result c.from_residual-in_err-before.ensures.1 in
    let which : c.from_residual-in_err-before.result ≡ Err BadLength = p.1 ∙ ap Err (p.2 ∙ c.in_err-before.ensures.0) in
    rw (which, ← x.0, ← x.1)
    (writes_long _ _ _ x.2.list x.2.lent x.2.ranges (few_so x.2 c.in_ok-places.ensures) (long_so x.2 c.in_err-before.ensures.1))

pub returns-then-output-before : goal.returns-then-output-before
returns-then-output-before c =
    let x = rw c.in_ok-lent.ensures.ok_part at c.of.ensures in
    let b = c.in_ok-before.ensures in
    let total = before-total x.2.list _ _ x.2.lent in
    rw (← x.0, ← x.1)
    (writes_room _ _ _ x.2.list x.2.lent x.2.ranges (few_so x.2 c.in_ok-places.ensures) (omega (arith, total, b.0, b.1))
    (omega (arith, total, b.0, c.if-output-before.true)))

pub write-requires : goal.write-requires
write-requires c =
    let x = rw c.in_ok-lent.ensures.ok_part at c.of.ensures in
    ready_so x.2 c.in_ok-places.ensures c.in_ok-before.ensures (omega (arith, c.if-output-before.false))

pub returns : goal.returns
returns c =
    let x = rw c.in_ok-lent.ensures.ok_part at c.of.ensures in
    let end = c.trailer-trailer.ensures ∙ ap (λ (n : ℕ). trailer_from c.write.new.places n c.in_ok-before.before) c.units.ensures in
    rw (← x.0, ← x.1) (wrote-told c.write.ensures c.in_ok-before.ensures c.if-output-before.false end c.write-2.ensures)
