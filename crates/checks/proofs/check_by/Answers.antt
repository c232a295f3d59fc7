-- What the register holds in the end, less what it started with, is the check.
use Rattle.std.proofs.Common.{◌∙◌}
use Rattle.checks.proofs.Residue.{check-by}
use Rattle.checks.proofs.check_by.Goals as goal

pub returns : goal.returns
returns g c = c.add.ensures ∙ check-by g.R.Rule.kind g.row.N c.ones-start.result _ c.args.content.now c.ones-start.ensures c.divide-held.ensures
