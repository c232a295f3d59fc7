-- After so many turns the pieces before are counted, and what they come to depends on those behind.
use Rattle.std.proofs.Common.{◌≡◌, List, ℕ, ◌*◌, ◌≤◌, length, drop}
use Rattle.multiplex.proofs.Tallying.{Way}
use Rattle.multiplex.specs.Demultiplexer.{Delivery, fits}
use Rattle.multiplex.specs.Pieces.{laid, total}
use Rattle.multiplex.proofs.demultiplexer.count_all.Given as goal

abbrev pub invariant-loop-place : goal.invariant-loop-place
invariant-loop-place l =
    (fits l.s (laid l.places l.lengths) ≡ fits l.tally.channels (drop (length l.yielded) (laid l.places l.lengths)))
    × ((h xs : List ℕ) → total (laid l.places l.lengths) ≤ length xs
    → (far : Delivery) × (rest : List ℕ) × Way l.s h (laid l.places l.lengths) xs (length l.yielded) l.tally far rest)
    × (l.tally.octets ≤ 65535 * length l.yielded) × (l.tally.units ≤ length l.yielded)
