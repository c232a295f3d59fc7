-- Document 01's numbers, proved of the definitions.
--
--   limits     each of them
--
-- Assumes nothing.
use mathlib.Core.Path.{refl}
use Prim.Native.Nat.{◌+◌}
use Rattle.octets.specs.Exact.{at_most}
use Rattle.adaptation.proofs.Laws.{adaptation_limits}
use Rattle.table.proofs.Laws.{table_limits}
use Rattle.channels.specs.Channels.{start}
use Rattle.multiplex.proofs.Laws as multiplex
use Rattle.demands.specs.Limits.{Limits}

pub limits : Limits
unfolding start
limits = record {
  adaptation = adaptation_limits;
  table = table_limits;
  places = refl;
  held = λ c n g. rw g (at_most (c.held + n) 1024);
  enough = multiplex.enough;
}
