-- Document 01's numbers of the multiplex table, proved of the definitions.
--
--   table_limits     each of them
--
-- Assumes nothing.
use native.Mathlib.Omega.{arith}
use Rattle.table.specs.Limits.{TableLimits}
use Rattle.table.proofs.Entries.{defined-not, replaced-none, replaced_done}
use Rattle.table.proofs.Allowed.{tree_limits}

pub table_limits : TableLimits
table_limits = record {
  trees = tree_limits;
  taken = λ t s c some most e. replaced_done t c s most (λ z. omega arith) e;
  past = λ t s c h. (replaced-none t c s h, defined-not t c h);
}
