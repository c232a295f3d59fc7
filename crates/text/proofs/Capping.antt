-- Decimal numbers that are capped as they are read.
--
--   capped_most   a capped number is at most 4,294,967,296
--   capped_small  what is so is not changed by capping
--   one_more      a number with one more digit, capped
--   read-capped   digits that are read one by one, each number capped, make the number of all of them, capped
--
-- Assumes nothing.
use Rattle.std.proofs.Common.{◌≡◌, refl, sym, ◌∙◌, Bool, true, false, cond, List, [], ◌∷◌, ℕ, ◌+◌, ◌-◌, ◌*◌, ◌≤◌, ◌<◌, ltb, arith}
use borrow.Author.Tests.{ltb-true, ltb-false}
use Rattle.std.specs.List.{fold}
use Rattle.std.proofs.lemmas.Bool.Decides.{nat_tests}
use Rattle.text.specs.Numbers.{decimal_on, capped}

pub capped_most : (v : ℕ) → capped v ≤ 4294967296
capped_most v = go (ltb 4294967295 v) refl
  where
    go : (t : Bool) → ltb 4294967295 v ≡ t → cond t 4294967296 v ≤ 4294967296
    go false e = omega (arith, ltb-false 4294967295 v e)
    go true e = omega arith

pub capped_small : (v : ℕ) → v ≤ 4294967296 → capped v ≡ v
capped_small v h = go (ltb 4294967295 v) refl
  where
    go : (t : Bool) → ltb 4294967295 v ≡ t → cond t 4294967296 v ≡ v
    go false e = refl
    go true e = omega (arith, ltb-true 4294967295 v e)

abbrev pub one_more : ℕ → ℕ → ℕ
one_more v c = capped (v * 10 + (c - 48))

more : (v : ℕ) (s : List ℕ) → v ≤ decimal_on v s
unfolding decimal_on
more v [] = omega arith
more v (c ∷ s) = omega (arith, more (v * 10 + (c - 48)) s)

past : (v : ℕ) (s : List ℕ) → 4294967295 < v → capped (decimal_on v s) ≡ 4294967296
past v s h = grind (arith, nat_tests, more v s)

before : (v : ℕ) (s : List ℕ) → capped (decimal_on (capped v) s) ≡ capped (decimal_on v s)
before v s = go (ltb 4294967295 v) refl
  where
    go : (t : Bool) → ltb 4294967295 v ≡ t → capped (decimal_on (cond t 4294967296 v) s) ≡ capped (decimal_on v s)
    go false e = refl
    go true e = past 4294967296 s (omega arith) ∙ sym (past v s (grind (arith, nat_tests)))

pub read-capped : (v : ℕ) (s : List ℕ) → v ≡ capped v → fold one_more v s ≡ capped (decimal_on v s)
unfolding decimal_on
read-capped v [] e = e
read-capped v (c ∷ s) e = read-capped (one_more v c) s (grind (arith, nat_tests)) ∙ before (v * 10 + (c - 48)) s
