-- After so many turns the numbers before are places, and all depends on those behind.
use Rattle.std.proofs.Common.{◌≡◌, map, ◌++◌, ◌&&◌, length, take, drop}
use Rattle.channels.specs.Channels.{all_open, place_of}
use Rattle.channels.proofs.Channels.find.Given as goal

abbrev pub invariant-loop-n : goal.invariant-loop-n
invariant-loop-n l =
    (all_open l.self l.initial.numbers ≡ (l.all && all_open l.self (drop l.n-index l.numbers)))
    × (map (place_of l.self) l.initial.numbers ≡ take l.n-index l.numbers ++ map (place_of l.self) (drop l.n-index l.numbers))
    × (length l.numbers ≡ length l.initial.numbers)
