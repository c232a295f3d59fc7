-- After n turns the first n pairs are digits, so that all depends on what stands behind them.
use Rattle.std.proofs.Common.{◌≡◌, ◌*◌, drop}
use Rattle.text.specs.Hex.{is_hex}
use Rattle.text.proofs.hex.is_hex.Given as goal

abbrev pub invariant-loop-n : goal.invariant-loop-n
invariant-loop-n l = is_hex l.text ≡ is_hex (drop (2 * l.n) l.text)
