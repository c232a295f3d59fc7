-- Signed numbers of 32 bits that are small.
--
--   minus_is      0 less a small number
--   minus-fits    .. is one of 32 bits
--
-- Assumes nothing.
use mathlib.Core.Path.{◌≡◌, ap, ◌∙◌}
use Prim.Native.Nat.{ℕ, zero, suc, ◌<◌}
use native.Mathlib.Omega.{arith}
use lib.IntN.{ℤ, pos, neg_ℤ, ◌-ℤ◌, +ℤ_idl}
use mir.Syntax.{w32}
use mir.Val.{SFits, to_z}
use mir.Facts.{to_z_pos}

pub minus_is : (k : ℕ) → k < 256 → pos 0 -ℤ to_z w32 k ≡ neg_ℤ (pos k)
minus_is k h = ap (λ (z : ℤ). pos 0 -ℤ z) (to_z_pos w32 {n = k} (omega arith)) ∙ +ℤ_idl (neg_ℤ (pos k))

pub minus-fits : (k : ℕ) → k < 256 → SFits w32 (neg_ℤ (pos k))
minus-fits zero h = record { sfits = omega arith }
minus-fits (suc k) h = record { sfits = omega arith }
