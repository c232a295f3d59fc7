-- By what the two walks found, and whether the trailer that would be written is there.
use Rattle.std.proofs.Common.{sym, ◌∙◌, arith}
use Rattle.record.proofs.Finding.{record_long, end-there, end_differs, survey-none, checked-none, checked_whole}
use Rattle.record.proofs.Forming.{whole_record, whole-none}
use Rattle.record.proofs.reader.find.Goals as goal

pub returns-in_err-before : goal.returns-in_err-before
returns-in_err-before c = rw c.from_residual.ensures (λ us r. omega (arith, (record_long us _ r).0, c.in_err-before.ensures))

pub returns-then-before-gt-MOST_BEFORE : goal.returns-then-before-gt-MOST_BEFORE
returns-then-before-gt-MOST_BEFORE c us r =
    omega (arith, (record_long us _ r).1, c.if-before-gt-MOST_BEFORE.true, c.in_ok-before.ensures)

pub returns-in_err-seen : goal.returns-in_err-seen
returns-in_err-seen c =
    rw c.from_residual-in_err-seen.ensures (survey-none c.args.input.now _ (omega (arith, c.in_ok-before.ensures)) c.in_err-seen.ensures)

pub returns-in_err-places : goal.returns-in_err-places
returns-in_err-places c =
    rw c.from_residual-in_err-places.ensures (checked-none c.args.input.now _ (omega (arith, c.in_ok-before.ensures)) c.in_err-places.ensures)

pub returns-then-same : goal.returns-then-same
returns-then-same c =
    let s = c.args.input.now in
    let w = checked_whole s _ (omega (arith, c.in_ok-before.ensures)) c.if-before-gt-MOST_BEFORE.false _ c.in_ok-seen.ensures _ c.in_ok-places.ensures in
    (_, whole_record w (end-there _ s _ _ c.same.ensures c.if-same.true ∙ c.trailer-end.ensures), w.count)

pub returns : goal.returns
returns c =
    let s = c.args.input.now in
    let w = checked_whole s _ (omega (arith, c.in_ok-before.ensures)) c.if-before-gt-MOST_BEFORE.false _ c.in_ok-seen.ensures _ c.in_ok-places.ensures in
    whole-none w (λ e. end_differs _ s _ _ c.same.ensures c.if-same.false (e ∙ sym c.trailer-end.ensures))
