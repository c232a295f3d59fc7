-- The values of the columns are spread, or the root is past m.
use Rattle.std.proofs.Common.{rules}
use Rattle.codeword.proofs.Filling.{filling_spread, filling-past}
use Rattle.codeword.proofs.rows.fill.Goals as goal

pub returns-then-r-m : goal.returns-then-r-m
returns-then-r-m c = filling_spread (search rules) c.at.ensures c.columns_at.ensures c.spread.ensures

pub returns-else-r-m : goal.returns-else-r-m
returns-else-r-m c = filling-past (search rules)
