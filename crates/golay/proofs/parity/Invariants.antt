-- The sum so far, and what the bits left still have to give, are the parity.
use Rattle.std.proofs.Common.{◌≡◌, bit_xor, drop}
use Rattle.golay.specs.Code.{product, parity}
use Rattle.golay.specs.Matrix.{matrix}
use Rattle.golay.proofs.parity.Given as goal

abbrev pub invariant-loop-row : goal.invariant-loop-row
invariant-loop-row l = bit_xor l.sum (product (drop l.row-index matrix) l.bits) ≡ parity l.message
