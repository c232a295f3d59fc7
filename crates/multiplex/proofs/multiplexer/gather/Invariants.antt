-- Each piece's octets are written behind those before it.
use Rattle.std.proofs.Common.{length, drop}
use Rattle.multiplex.proofs.Gathering.{Gathering}
use Rattle.multiplex.specs.Pieces.{laid}
use Rattle.multiplex.proofs.multiplexer.gather.Given as goal

abbrev pub invariant-loop-place : goal.invariant-loop-place
invariant-loop-place l =
    Gathering l.initial.s l.waiting (laid l.places l.lengths) l.initial.payload l.payload l.s l.at (drop (length l.yielded) (laid l.places l.lengths))
