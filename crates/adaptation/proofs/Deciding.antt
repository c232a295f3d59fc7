-- What the search takes for the tests of the code, which are those of the definitions.
--
--   decides   what a test of numbers says; and that a check has at most two octets
--
-- Assumes nothing.
use Rattle.std.proofs.lemmas.Bool.Decides.{nat_tests}
use Rattle.checks.proofs.Laws.{octets_most}

pub ruleset decides = (nat_tests, octets_most)
