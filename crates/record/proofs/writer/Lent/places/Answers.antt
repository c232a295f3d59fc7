use Rattle.std.proofs.Common.{◌≡◌, ◌∙◌, arith}
use Rattle.std.specs.Slice.Iter.{chunks_exact_rest, chunks_exact_size}
use Rattle.std.proofs.lemmas.Result.{err_from_is_err_and}
use Rattle.record.proofs.Using.{using_none, using_next, using-over, using-all}
use Rattle.record.proofs.writer.Lent.places.Goals as goal

pub loop-four-init : goal.loop-four-init
loop-four-init c =
    let given = c.chunks_exact-four-items.ensures in
    let all : chunks_exact_rest c.into_iter-four-iterator.result ≡ c.args.self.now.numbers.now = cc in
    let size : chunks_exact_size c.into_iter-four-iterator.result ≡ 4 = cc in
    (using_none c.args.self.now.numbers.now all c.none-places.ensures, size)

pub loop-four-preserved : goal.loop-four-preserved
loop-four-preserved c =
    let i = c.loop-four.invariant in
    let e = c.in-Some.ensures.steps in
    (using_next i.0 c.in-Some.four.now _ (e.1.1 ∙ i.1) e.1.0 c.in_ok-insert.ensures, e.0 ∙ i.1)

pub returns-in_err-insert : goal.returns-in_err-insert
returns-in_err-insert c =
    let i = c.loop-four.invariant in
    let e = c.in-Some.ensures.steps in
    let p = err_from_is_err_and c.from_residual.result c.from_residual.ensures.1 in
    rw p.1 (p.2 ∙ c.in_err-insert.ensures.0, using-over i.0 c.in-Some.four.now _ (e.1.1 ∙ i.1) e.1.0 c.in_err-insert.ensures.1)

pub returns : goal.returns
returns c =
    let i = c.loop-four.invariant in
    let e = c.in-None.ensures.steps in
    using-all i.0 (omega (arith, e.1.0, i.1))
