-- What the crates above take from the proofs about runs, and nothing else.
--
--   demand_met, wrong_fail, unit_to-unit, over-packets   the claims (Theorems)
--   missing_over_runs                                    .. and what is told as missing (Missing)
--
-- Assumes nothing.
pub use Rattle.runs.proofs.Theorems.{demand_met, wrong_fail, unit_to-unit, over-packets}
pub use Rattle.runs.proofs.Missing.{missing_over_runs}
