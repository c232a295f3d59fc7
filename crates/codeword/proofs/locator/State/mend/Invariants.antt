-- The blocks from i on have been mended, and were kept where the length grows.
use Rattle.std.proofs.Common.{◌≡◌}
use Rattle.codeword.specs.Locator.{block_at, Mended, Kept}
use Rattle.codeword.proofs.locator.State.mend.Given as goal

abbrev pub invariant-loop-i : goal.invariant-loop-i
invariant-loop-i l =
    let s = l.initial.self in
    let t = l.self in
    Mended l.low l.high (block_at l.low l.i) s.shift s.failed l.q s.z s.v t.z
    × Kept l.grows l.low l.high (block_at l.low l.i) s.z s.v t.v
    × (t.long ≡ s.long) × (t.shift ≡ s.shift) × (t.failed ≡ s.failed)
