-- The tree that numbers are read as, whatever they are, and which of them are an entry (000, 6.4.1.1; document 01, "Multiplex table").
-- That the reading gives back the tree of an entry's numbers is the claim NumbersRead, in specs/Claims.antt.
--
--   count_as k       a number as a repeat count: 0 is until closing
--   element_with     the element that stands at `at`, before the elements l, where `inner` is its list
--   in_turn one next n at   n elements from `at` on, one behind another
--   element_as       the element at `at`, of a list from which lists may go `deeper` levels down, before the elements l
--   list_as          n elements from `at` on
--   tree_of s        the tree that the numbers s are read as
--   is_entry s       s is an entry: its tree is one, and s has the tree's numbers and no more
--
-- Assumes nothing.
use Rattle.std.specs.Prelude.{Bool, cond, ◌&&◌, List, ℕ, zero, suc, ◌+◌, eqb, get_or}
use Rattle.octets.specs.Same.{same}
use Rattle.table.specs.Entry.{Count, times, until_closing, Elements, none, channel, list, is_entry_tree, numbers}
use Rattle.table.specs.Cursor.{skip}

abbrev pub count_as : ℕ → Count
count_as k = cond (eqb k 0) until_closing (times k)

-- the element's numbers are its repeat count, how many inner elements it has, and its channel if it has none
abbrev pub element_with : Elements → List ℕ → ℕ → Elements → Elements
element_with inner s at l =
    cond (eqb (get_or s (at + 1) 0) 0) (channel (count_as (get_or s at 0)) (get_or s (at + 2) 0) l) (list (count_as (get_or s at 0)) inner l)

unfoldable pub in_turn : (ℕ → Elements → Elements) → (ℕ → ℕ) → ℕ → ℕ → Elements
in_turn one next zero at = none
in_turn one next (suc n) at = one at (in_turn one next n (next at))

unfoldable pub element_as : List ℕ → ℕ → ℕ → Elements → Elements
element_as s zero at l = element_with none s at l
element_as s (suc deeper) at l =
    element_with (in_turn (element_as s deeper) (skip s deeper) (get_or s (at + 1) 0) (at + 2)) s at l

unfoldable pub list_as : List ℕ → ℕ → ℕ → ℕ → Elements
list_as s deeper n at = in_turn (element_as s deeper) (skip s deeper) n at

unfoldable pub tree_of : List ℕ → Elements
tree_of s = list_as s 2 (get_or s 0 0) 1

unfoldable pub is_entry : List ℕ → Bool
is_entry s = is_entry_tree (tree_of s) && same (numbers (tree_of s)) s
