-- After so many turns the pieces before are written, and what is left depends on those behind.
use Rattle.std.proofs.Common.{◌≡◌, List, ℕ, ◌+◌, ◌≤◌, length, true, drop}
use Rattle.channels.specs.declared.Channels.{Channels}
use Rattle.multiplex.proofs.Tallying.{Way}
use Rattle.multiplex.specs.Demultiplexer.{Delivery, fits}
use Rattle.multiplex.specs.Pieces.{Piece, laid}
use Rattle.multiplex.specs.Tally.{Shows}
use Rattle.multiplex.specs.declared.demultiplexer.Tally.{Tally}
use Rattle.multiplex.proofs.demultiplexer.pour.Given as goal

pub record Pouring (s : Channels) (h : List ℕ) (l : List Piece) (xs o u h' o' u' : List ℕ) (t : Tally) (rest : List ℕ) (j : ℕ) : Type 0 where
  pub far : Delivery
  pub way : Way s h l xs j t far rest
  pub shows : Shows o u far h' o' u'
  pub fit : fits t.channels (drop j l) ≡ true
  pub octets_most : t.octets + length rest ≤ length xs
  pub units_most : t.units ≤ j
  pub same_held : length h' ≡ length h
  pub same_output : length o' ≡ length o
  pub same_units : length u' ≡ length u

abbrev pub invariant-loop-place : goal.invariant-loop-place
invariant-loop-place l =
    Pouring l.s l.initial.held (laid l.places l.lengths) l.payload l.initial.output l.initial.units l.held l.output l.units l.tally l.rest (length l.yielded)
