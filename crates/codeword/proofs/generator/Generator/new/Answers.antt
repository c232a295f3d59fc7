-- The upper half, the lower half, and zeros behind.
use Rattle.std.proofs.Common.{rules}
use Rattle.codeword.proofs.Generating.{upper_start, generator-end}
use Rattle.codeword.proofs.generator.Generator.new.Goals as goal

pub ratios-requires : goal.ratios-requires
ratios-requires c = (search rules, upper_start _)

pub invariant_of-result-clause-made : goal.invariant_of-result-clause-made
invariant_of-result-clause-made c = generator-end c.mirror.ensures c.store.ensures
