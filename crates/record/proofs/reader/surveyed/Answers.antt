use Rattle.std.proofs.Common.{⊎_elim, arith}
use Rattle.octets.specs.Tests.{never}
use Rattle.record.proofs.Standing.{read_at}
use Rattle.record.proofs.Surveying.{seen_none, seen_next, seen_all, inserted, not_inserted, next_stored, next-header, next_ranges, next_whole, next_few}
use Rattle.record.proofs.reader.surveyed.Goals as goal

pub loop-at-init : goal.loop-at-init
loop-at-init c = seen_none _ _ c.none-places.ensures

pub returns-then-body-at-lt-HEADER_OCTETS : goal.returns-then-body-at-lt-HEADER_OCTETS
returns-then-body-at-lt-HEADER_OCTETS c =
    let i = c.loop-at.invariant in
    λ qs f. omega (arith, next-header (next_stored i c.loop-at-test.true qs f) i.here)

pub returns-then-not-are_in_range : goal.returns-then-not-are_in_range
returns-then-not-are_in_range c =
    let i = c.loop-at.invariant in
    let is = read_at c.args.body.now c.loop-at.at c.read.ensures in
    λ qs f.
    let next = next_stored i c.loop-at-test.true qs f in
    ⊎_elim (λ no. let so = c.are_in_range.ensures.1 (next_ranges next i.here c.read.result is) in never (cc))
    (λ yes. omega (arith, yes.1, next_whole next i.here c.read.result is)) c.then-not-are_in_range.either

pub returns-in_err-ok : goal.returns-in_err-ok
returns-in_err-ok c =
    let i = c.loop-at.invariant in
    let is = read_at c.args.body.now c.loop-at.at c.read.ensures in
    let none = not_inserted _ c.insert.new.self _ c.insert.result c.in_err-ok.ensures.variant c.insert.ensures in
    rw c.from_residual.ensures
    (λ qs f. omega (arith, none _ i.places, next_few (next_stored i c.loop-at-test.true qs f) i.here c.read.result is f.few))

pub loop-at-preserved : goal.loop-at-preserved
loop-at-preserved c =
    let is = read_at c.args.body.now c.loop-at.at c.read.ensures in
    seen_next c.loop-at.invariant c.read.result is (λ k. (c.type_inv.body k).fits) c.if-body-next.false
    (c.are_in_range.ensures.0 c.if-not-are_in_range.false) (inserted _ c.insert.new.self _ c.insert.result c.in_ok-ok.ensures.variant c.insert.ensures)

pub returns : goal.returns
returns c = seen_all c.loop-at.invariant c.loop-at-test.false
