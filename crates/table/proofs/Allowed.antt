-- Which trees are entries, by document 01's numbers, and where replacing is refused: worked out on the definitions alone.
--
--   tree_limits     the numbers of an entry
--   tree_sizes      what is counted of a tree
--   tree_exactly    .. and which trees are entries, exactly
--   defined-exactly   where an entry is defined
--   of_table        the refusals of replacing, exactly
--
-- Assumes nothing.
use mathlib.Core.Path.{◌≡◌, refl}
use mathlib.Core.Logic.{◌↔◌}
use mathlib.Core.Bool.{Bool, true, false, not, ◌&&◌}
use mathlib.Core.List.{List}
use Prim.Native.Nat.{ℕ, ◌≤◌}
use native.Mathlib.Omega.{arith}
use borrow.Author.Tests.{le-leb, leb-true}
use lib.Dec.{leb, eqb}
use lib.ListN.{get_or}
use Rattle.octets.specs.Tests.{both_true, never}
use Rattle.octets.specs.Exact.{chain, both_of, is_false, denied, less, not-less, at_most, two-at_most, equal, not_equal}
use Rattle.calls.proofs.Laws.{given_exactly}
use Rattle.table.specs.Entry.{Count, times, until_closing, Elements, none, channel, list, size, all_elements, depth, is_none, is_count, is_list, is_entry_tree}
use Rattle.table.specs.Form.{is_entry}
use Rattle.table.specs.Table.{entry_of, is_defined, replace_tests}
use Rattle.table.specs.Limits.{TreeLimits}
use Rattle.table.specs.Claims.{DefinedExactly}
use Rattle.table.specs.Exactly.{Counted, Well, TreeSizes, TreeExactly, OfTable}

-- two tests, each of which says something exactly
both : {A B : Type 0} (a b : Bool) → a ≡ true ↔ A → b ≡ true ↔ B → (a && b) ≡ true ↔ (A × B)
both a b p q = chain (both_true a b, λ h. rw h.0 h.1) (both_of p q)

-- a count and nothing else to be tested
count_limits : (k : ℕ) → ((leb 1 k && leb k 65535) && true) ≡ true ↔ ((1 ≤ k) × (k ≤ 65535))
count_limits k = (λ e. (two-at_most 1 k k 65535).0 (both_true (leb 1 k && leb k 65535) true e).0, λ h. rw (le-leb 1 k h.0, le-leb k 65535 h.1))

pub tree_limits : TreeLimits
unfolding size all_elements depth is_list is_entry_tree
tree_limits = record {
  elements = (refl, refl, refl, refl);
  every_depth = (refl, refl);
  depths = (refl, refl);
  inner = (refl, refl, refl, refl);
  besides = refl;
  counts = count_limits;
  list_counts = count_limits;
  numbers = λ n. (λ e. leb-true n 65535 (both_true (leb n 65535) true e).0, λ h. rw (le-leb n 65535 h));
  closing = (refl, refl, refl, refl, refl);
}

-- ---- trees

last_exactly : (l : Elements) → is_none l ≡ true ↔ (l ≡ none)
last_exactly none = (λ e. refl, λ e. refl)
last_exactly (channel r c l) = (λ e. never (cc), λ e. never (cc))
last_exactly (list r i l) = (λ e. never (cc), λ e. never (cc))

count_exactly : (top : Bool) (r : Count) (l : Elements) → is_count (top && is_none l) r ≡ true ↔ Counted ((top ≡ true) × (l ≡ none)) r
count_exactly top (times k) l = two-at_most 1 k k 65535
count_exactly top until_closing l = both top (is_none l) (λ e. e, λ e. e) (last_exactly l)

list_exactly : (top : Bool) (l : Elements) → is_list top l ≡ true ↔ Well top l
unfolding is_list
list_exactly top none = (λ e. tt, λ w. refl)
list_exactly top (channel r c l) = both _ _ (count_exactly top r l) (both _ _ (at_most c 65535) (list_exactly top l))
list_exactly top (list r i l) =
    both _ _ (count_exactly top r l) (both _ _ (at_most 2 (size i)) (both _ _ (list_exactly false i) (list_exactly top l)))

pub tree_sizes : (r : Count) (c : ℕ) (i l : Elements) → TreeSizes r c i l
unfolding size all_elements depth
tree_sizes r c i l = record { size = (refl, omega arith, omega arith); all = (refl, refl, refl); depth = (refl, refl, refl) }

pub tree_exactly : TreeExactly
unfolding is_entry_tree
tree_exactly l = both _ _ (at_most 1 (all_elements l)) (both _ _ (at_most (all_elements l) 32) (both _ _ (at_most (depth l) 3) (list_exactly true l)))

-- ---- replacing

pub defined-exactly : DefinedExactly
unfolding is_defined
defined-exactly t c =
    both (leb c 15) (not (eqb (get_or (entry_of t c) 0 0) 0)) (at_most c 15) (denied (eqb (get_or (entry_of t c) 0 0) 0) (equal (get_or (entry_of t c) 0 0) 0))

pub of_table : (c : ℕ) (s : List ℕ) → OfTable c s
of_table c s = record {
  replace4 = chain (given_exactly 4 (replace_tests c s) refl) (less 15 c);
  replace14 = chain (chain (given_exactly 14 (replace_tests c s) refl) (both_of (not-less 15 c) (equal c 0))) (λ h. h.1, λ z. (omega arith, z));
  replace10 = chain (given_exactly 10 (replace_tests c s) refl) (both_of (not-less 15 c) (both_of (not_equal c 0) (is_false (is_entry s))));
}
