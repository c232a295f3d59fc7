-- The octets at the front of a text that pass a test: no more than there are.
--
--   leading   what the library has of them, for tactics
--
-- Assumes nothing.
use Rattle.std.proofs.lemmas.List.Folds.{length-prefix_len}
use Rattle.std.proofs.lemmas.List.Sums.{prefix_len-le-length}

pub ruleset leading = (length-prefix_len, prefix_len-le-length)
