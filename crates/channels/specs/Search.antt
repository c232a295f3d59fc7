-- The first place of a list at which a test holds.
--
--   first f l   that place, or the length of l where there is none
--
-- Assumes nothing.
use Rattle.std.specs.Prelude.{Bool, cond, List, [], ◌∷◌, ℕ, zero, suc}

unfoldable pub first : {A : Type 0} → (A → Bool) → List A → ℕ
first f [] = zero
first f (a ∷ l) = cond (f a) zero (suc (first f l))
