-- The least of the block is not zero, or its places are gathered.
use Rattle.std.proofs.Common.{rules, ◌≡◌, ◌+◌, ◌-◌, arith}
use Rattle.codeword.proofs.Searching.{gathered-skip}
use Rattle.codeword.proofs.search.block.Goals as goal

pub returns-then-least-ne0 : goal.returns-then-least-ne0
returns-then-least-ne0 c =
    let a = c.args in
    gathered-skip (search rules) (λ p m k e.
    let s : a.from + (p - a.from) ≡ p = omega arith in
    let z = rw s at (c.least.ensures.least (p - a.from) (omega arith)) in
    c.if-least-ne0.true (omega (arith, z, e))) c.requires.0
