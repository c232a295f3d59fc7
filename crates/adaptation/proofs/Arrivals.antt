-- The rule for numbers (document 01, "AL1 and AL2", house; document 02, ticket 5), by how far a unit is past the one expected, modulo 256.
--
--   distance_of       of the number d past e, the distance is d
--   less-is           what is d less c, and 0 if that is below zero, is the difference of natural numbers
--   arrival-taken     up to 127 past it: d less the failed units are missing, the number behind is expected next, and none has failed since
--   arrival_late      from 128 on: misdelivered
--
-- Assumes nothing.
use mathlib.Core.Path.{◌≡◌}
use mathlib.Core.Logic.{inl, inr}
use Prim.Native.Nat.{ℕ, ◌+◌, ◌-◌, ◌%◌, ◌≤◌, ◌<◌}
use native.Mathlib.Omega.{arith}
use borrow.Author.Tests.{le-leb, lt-leb}
use Rattle.adaptation.specs.AL2.{distance, arrival}
use Rattle.adaptation.specs.AL2Claims.{Less}
use Rattle.adaptation.specs.declared.al2.Due.{Due}
use Rattle.std.specs.Prelude.{Some, None}

pub less-is : (d c k : ℕ) → Less d c k → d - c ≡ k
less-is d c k (inl e) = omega arith
less-is d c k (inr (l, e)) = omega arith

module _ (e : Due) (d : ℕ) (he : e.expected < 256) (hd : d < 256) where
  abbrev n : ℕ
  n = (e.expected + d) % 256

  pub distance_of : distance n e.expected ≡ d
  distance_of = omega arith

  pub arrival-taken : (k : ℕ) → Less d e.failed k → d ≤ 127 → arrival n e ≡ Some (record { missing = k; due = record { expected = (n + 1) % 256; failed = 0 } })
  unfolding arrival
  arrival-taken k h l = rw (distance_of, le-leb d 127 l, less-is d e.failed k h)

  pub arrival_late : 127 < d → arrival n e ≡ None
  unfolding arrival
  arrival_late l = rw (distance_of, lt-leb d 127 l)
