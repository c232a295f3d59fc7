-- What place p holds is written behind the others, and noted.
use Rattle.std.proofs.Common.{◌+◌, ◌*◌, ◌≤◌, arith, length}
use Rattle.channels.specs.Channels.{channel_at, place_octets}
use Rattle.multiplex.proofs.Pouring.{part_exact, part_length, finishes}
use Rattle.multiplex.proofs.demultiplexer.Tally.finish.Goals as goal

pub returns : goal.returns
returns c =
    let h = c.args.held.now in
    let n = (channel_at c.args.self.now.channels c.args.p).held in
    let at = place_octets * c.args.p in
    let within : at + n ≤ length h = omega (arith, c.requires.whole, c.requires.small.near, c.requires.within) in
    let exact = part_length h at n within in
    rw c.close.ensures
    (finishes exact (rw (c.from.ensures, part_exact h at n) at c.put_unit.ensures.output) (rw (c.from.ensures, part_exact h at n, exact) at c.put_unit.ensures.units))
