-- By the test.
use Rattle.std.proofs.Common.{sym}
use Rattle.codeword.proofs.Mending.{block-low, block-high}
use Rattle.codeword.proofs.locator.block_at.Goals as goal

pub returns-then-i-low-clause-at : goal.returns-then-i-low-clause-at
returns-then-i-low-clause-at c = sym (block-low _ _ c.if-i-low.true)

pub returns-clause-at : goal.returns-clause-at
returns-clause-at c = sym (block-high _ _ c.if-i-low.false)
