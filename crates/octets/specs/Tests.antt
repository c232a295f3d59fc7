-- Two or three tests at once, and what follows from a contradiction.
--
--   never                                0 is not 1, so that whatever is asked follows; `cc` finds it where two cases cannot both be
--   both_true                            both passed, so each did
--   three_true                           all of them passed, so each did
--   first_false, second_false, third_false   one of them failed, so not all passed
--
-- Assumes nothing.
use Rattle.std.specs.Prelude.{◌≡◌, refl, Bool, true, false, ◌&&◌, ℕ}
use Rattle.std.proofs.Common.{arith}

pub never : {A : Type 0} → ◌≡◌ {A = ℕ} 0 1 → A
never z = absurd (omega arith)

pub both_true : (a b : Bool) → a && b ≡ true → (a ≡ true) × (b ≡ true)
both_true true true h = (refl, refl)
both_true true false h = never (cc)
both_true false b h = never (cc)

pub three_true : (a b c : Bool) → a && b && c ≡ true → (a ≡ true) × (b ≡ true) × (c ≡ true)
three_true true true true h = (refl, refl, refl)
three_true true true false h = never (cc)
three_true true false c h = never (cc)
three_true false b c h = never (cc)

pub first_false : (a b c : Bool) → a ≡ false → a && b && c ≡ false
first_false a b c e = rw e

pub second_false : (a b c : Bool) → b ≡ false → a && b && c ≡ false
second_false true b c e = rw e
second_false false b c e = refl

pub third_false : (a b c : Bool) → c ≡ false → a && b && c ≡ false
third_false true true c e = e
third_false true false c e = refl
third_false false b c e = refl
