-- After j turns the first 14 * j octets, with those of the places from j on behind them, are those of all places.
use Rattle.std.proofs.Common.{◌≡◌, ◌++◌, ◌*◌, length, take, drop}
use Rattle.record.specs.Recorded.{flat}
use Rattle.record.specs.Walk.{place_octets}
use Rattle.record.proofs.places.Places.trailer.Given as goal

abbrev pub invariant-loop-j : goal.invariant-loop-j
invariant-loop-j l =
    (length l.trailer ≡ 236) × (take (14 * l.j) l.trailer ++ flat place_octets (drop l.j l.self.all) ≡ flat place_octets l.self.all)
