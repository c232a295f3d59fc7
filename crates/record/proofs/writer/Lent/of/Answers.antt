use Rattle.std.proofs.Common.{◌≡◌, ap, arith, length}
use Rattle.std.specs.Slice.Iter.{chunks_exact_rest, chunks_exact_size}
use Rattle.record.proofs.Good.{good_iff}
use Rattle.record.proofs.Listing.{numbers-length}
use Rattle.record.proofs.writer.Lent.of.Goals as goal

pub returns-then-numbers-ne0 : goal.returns-then-numbers-ne0
returns-then-numbers-ne0 c = λ l. omega (arith, ap length l.lent.numbers, numbers-length l.list)

pub loop-four-init : goal.loop-four-init
loop-four-init c =
    let given = c.chunks_exact-four-items.ensures in
    let all : chunks_exact_rest c.into_iter-four-iterator.result ≡ c.args.numbers.now = cc in
    let size : chunks_exact_size c.into_iter-four-iterator.result ≡ 4 = cc in
    let so = good_iff c.args.numbers.now c.args.content.now (λ k. (c.type_inv.numbers k).fits) (λ k. (c.type_inv.content k).fits) in
    (rw all so, rw all c.if-numbers-ne0.false, size)
