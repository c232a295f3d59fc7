-- What document 01 says of the multiplex table ("Multiplex table"), exactly: which trees are entries, and where replacing is refused. A limit
-- or a test that a definition and its code had otherwise, at whatever place of a tree, would be refused here.
--
--   Counted may r    a repeat count: 1 to 65,535; until closing only where it may be
--   Well top l       each element of l, at every depth, has a count and is a channel of at most 65,535 or an inner list of at least two;
--                    only the last at the top may repeat until closing
--   TreeSizes r c i l   the elements that a list has, and those counted at every depth; how deep lists go: the deepest of those in it, and the list itself is
--                    at depth 1
--   TreeExactly      an entry has 1 to 32 elements counted at every depth, lists to depth 3, and elements as these
--   OfTable c s      entry c replaced by the numbers s: each refusal where the tests before it do not hold
--
-- proofs/Allowed.antt proves each. Assumes nothing.
use Rattle.std.specs.Prelude.{◌≡◌, ◌↔◌, Bool, true, false, List, ℕ, ◌+◌, ◌≤◌, ◌<◌, max}
use Rattle.calls.specs.Refusal.{Gives}
use Rattle.table.specs.Entry.{Count, times, until_closing, Elements, none, channel, list, size, all_elements, depth, is_entry_tree}
use Rattle.table.specs.Form.{is_entry}
use Rattle.table.specs.Table.{replace_tests}

abbrev pub Counted : Type 0 → Count → Type 0
Counted may (times k) = (1 ≤ k) × (k ≤ 65535)
Counted may until_closing = may

abbrev pub Well : (top : Bool) → Elements → Type 0
Well top none = Unit {0}
Well top (channel r c l) = Counted ((top ≡ true) × (l ≡ none)) r × ((c ≤ 65535) × Well top l)
Well top (list r i l) = Counted ((top ≡ true) × (l ≡ none)) r × ((2 ≤ size i) × (Well false i × Well top l))

pub record TreeSizes (r : Count) (c : ℕ) (i l : Elements) : Type 0 where
  pub size : (size none ≡ 0) × (size (channel r c l) ≡ 1 + size l) × (size (list r i l) ≡ 1 + size l)
  pub all : (all_elements none ≡ 0) × (all_elements (channel r c l) ≡ 1 + all_elements l) × (all_elements (list r i l) ≡ 1 + all_elements i + all_elements l)
  pub depth : (depth none ≡ 1) × (depth (channel r c l) ≡ depth l) × (depth (list r i l) ≡ max (1 + depth i) (depth l))

abbrev pub TreeExactly : Type 0
TreeExactly = (l : Elements) → is_entry_tree l ≡ true ↔ ((1 ≤ all_elements l) × ((all_elements l ≤ 32) × ((depth l ≤ 3) × Well true l)))

pub record OfTable (c : ℕ) (s : List ℕ) : Type 0 where
  pub replace4 : Gives (replace_tests c s) 4 ↔ (15 < c)
  pub replace14 : Gives (replace_tests c s) 14 ↔ (c ≡ 0)
  pub replace10 : Gives (replace_tests c s) 10 ↔ ((c ≤ 15) × ((c ≡ 0 → ⊥) × (is_entry s ≡ false)))
