-- The walk goes on while pieces are sent; each stands in the lists where its slot stood.
use Rattle.std.proofs.Common.{◌≡◌}
use Rattle.channels.proofs.Laws.{seats}
use Rattle.multiplex.proofs.Steps.{Walking}
use Rattle.multiplex.proofs.multiplexer.walk.Given as goal

abbrev pub invariant-loop-j : goal.invariant-loop-j
invariant-loop-j l =
    Walking l.n l.initial.numbers l.initial.lengths l.s l.numbers l.lengths l.channels l.octets l.j × (seats l.channels ≡ seats l.s)
