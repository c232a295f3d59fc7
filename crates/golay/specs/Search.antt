-- What the search for wrong bits promises, inside the crate. With s the syndrome of a word, its parity plus the parity of its data, the code word of
-- the data changed at the ones of u differs from the word at the ones of u and at those of s plus the parity of u.
--
--   Mends s from left u    u has ones at places from `from` on alone, and no more than `left` bits are wrong then
--   Searched s from left r    r is data that mend, or there are none
--
-- Assumes nothing.
use Rattle.std.specs.Prelude.{◌≡◌, ℕ, ◌+◌, ◌%◌, ◌^◌, ◌≤◌, ◌<◌, Option, Some, None}
use Rattle.std.specs.Int.Bits.{bit_xor}
use Rattle.std.specs.Int.Count.{ones}
use Rattle.golay.specs.Code.{parity}

pub record Mends (s from left u : ℕ) : Type 0 where
  pub small : u < 2 ^ 12
  pub behind : u % 2 ^ from ≡ 0
  pub few : ones u + ones (bit_xor s (parity u)) ≤ left

abbrev pub Searched : ℕ → ℕ → ℕ → Option ℕ → Type 0
Searched s from left (Some u) = Mends s from left u
Searched s from left None = (u : ℕ) → Mends s from left u → ⊥
