-- A line that is read octet by octet.
--
--   SoFar r line s               of the octets s of a line the lent line has the front, as far as it goes, and r says how many they are
--                                and whether there are more
--   with_octet s x                the line's octets with one more, a newline being none
--   Takes r line x r' line'      so it is with one octet more, and the line has come to its end where it had, or this is a newline
--
-- Assumes nothing.
use Rattle.std.specs.Prelude.{◌≡◌, cond, ◌||◌, List, [], ◌∷◌, ◌++◌, ℕ, eqb, ltb, length, take}
use Rattle.text.specs.declared.lines.Reading.{Reading}

pub record SoFar (r : Reading) (line s : List ℕ) : Type 0 where
  pub over : r.over ≡ ltb (length line) (length s)
  pub count : r.length ≡ length (take (length line) s)
  pub stands : take r.length line ≡ take (length line) s

abbrev pub with_octet : List ℕ → ℕ → List ℕ
with_octet s x = cond (eqb x 10) s (s ++ x ∷ [])

abbrev pub Takes : Reading → List ℕ → ℕ → Reading → List ℕ → Type 0
Takes r line x r' line' = ((s : List ℕ) → SoFar r line s → SoFar r' line' (with_octet s x)) × (r'.whole ≡ (r.whole || eqb x 10))
