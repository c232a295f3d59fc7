-- 1, doubled over and over, worked out: α's order is told from it (`proofs/Octet/Order.antt`).
--
--   doubled k        1, doubled k times
--   around           .. it is 1 again, where k is the order
--   is_other k       whether 1, doubled k + 1 times, is not 1
--   other_test       .. it is not, for each k + 1 below the order
--   sought n x a k   the first of the n numbers from k on to which a belongs, where x belongs to k
--   sought-below     .. it is at most n + k
--   is_power a       whether a + 1 is 1, doubled as often as was sought
--   power_test       .. each octet but 0 is
--
-- Assumes nothing.
use Rattle.std.specs.Prelude.{◌≡◌, refl, ℕ, zero, suc, ◌+◌, ◌-◌, ◌≤◌, T, eqb}
use Rattle.std.proofs.Common.{arith}
use mathlib.Core.Bool.{Bool, cond, not}
use Rattle.octets.specs.Every.{every}
use Rattle.field.specs.Octet.{sum, modulus, double, order}

-- 1, doubled k times
unfoldable pub doubled : ℕ → ℕ
doubled zero = 1
doubled (suc k) = double (doubled k)

pub around : doubled order ≡ 1
unfolding sum modulus double doubled
around = refl

-- ---- nothing before is 1

unfoldable pub is_other : ℕ → Bool
is_other k = not (eqb (doubled (suc k)) 1)

pub other_test : T (every is_other (order - 1))
unfolding sum modulus double doubled is_other
other_test = tt

-- ---- each octet but 0 comes

-- the first of the n numbers from k on to which a belongs, where x belongs to k
pub sought : ℕ → ℕ → ℕ → ℕ → ℕ
sought zero x a k = k
sought (suc n) x a k = cond (eqb x a) k (sought n (double x) a (suc k))

pub sought-below : (n x a k : ℕ) → sought n x a k ≤ n + k
unfolding sought
sought-below zero x a k = omega arith
sought-below (suc n) x a k = go (eqb x a) (sought-below n (double x) a (suc k))
  where
    go : (b : Bool) → sought n (double x) a (suc k) ≤ n + suc k → cond b k (sought n (double x) a (suc k)) ≤ suc n + k
    go mathlib.Core.Bool.true h = omega arith
    go mathlib.Core.Bool.false h = omega arith

unfoldable pub is_power : ℕ → Bool
is_power a = eqb (doubled (sought (order - 1) 1 (suc a) 0)) (suc a)

pub power_test : T (every is_power order)
unfolding sum modulus double doubled sought is_power
power_test = tt
