-- After r turns c is the shortest recurrence for the first r syndromes, times a constant, and not longer than e.
use Rattle.std.proofs.Common.{◌≡◌, ◌*◌, ◌≤◌, length}
use Rattle.codeword.specs.Locator.{room, MasseyStateIs}
use Rattle.codeword.proofs.locator.locator.Given as goal

abbrev pub invariant-loop-r : goal.invariant-loop-r
invariant-loop-r l =
    let a = l.state in
    (a.long ≤ l.e) × (length a.z ≡ room) × MasseyStateIs (2 * l.e) l.s a.z a.v l.r a.long a.shift a.failed
