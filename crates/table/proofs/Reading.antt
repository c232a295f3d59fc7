-- What reading an element, a list and an entry gives in each case that the code tells apart, and a measure that falls.
--
--   is-channel, is_malformed, too_deep, is-list   an element, by its own numbers
--   none_left, one_more, list_turn   a list of no elements, and one of more: its first element, and those behind it
--   deeper, onward           a measure falls from an element to its list, and from a list to those behind its first element
--   number_inside            a number that is not 0 stands inside the entry
--   tree-none, tree_first    the tree of no elements, and of more: the first, and those behind it
--   tree-channel, tree_inner, tree_flat   the element that stands at a place, by its second number: a channel, a list, a list that is too deep
--   entry_none, entry_some   numbers that name no element are not read as an entry, and others as their elements are
--   readings         the four of an element, for the search
--   read_some        .. so that numbers which are read as one name some
--
-- Assumes nothing.
use mathlib.Core.Path.{◌≡◌, refl, sym, ap₂, ◌∙◌}
use mathlib.Core.List.{List}
use Prim.Native.Nat.{ℕ, zero, suc, ◌+◌, ◌-◌, ◌*◌, ◌≤◌, ◌<◌}
use native.Mathlib.Numerals.{sub-one}
use native.Mathlib.Omega.{arith}
use native.Mathlib.Decide.{dec_le}
use borrow.Author.Tests.{eq-eqb, ne_eqb}
use lib.ListN.{length, get_or, get_or-eq_default}
use Rattle.octets.specs.Tests.{never}
use Rattle.table.specs.declared.form.Head.TheVariants.{Channel, Inner}
use Rattle.table.specs.declared.form.Cursor.{Cursor}
use Rattle.std.specs.Prelude.{Option, Some, None}
use Rattle.table.specs.Entry.{Elements, none, channel, list, most_elements}
use Rattle.table.specs.Cursor.{next, and_then, many, head_at, element_at, list_at, entry_read, skip}
use Rattle.table.specs.Form.{count_as, in_turn, element_as, list_as}

module _ (s : List ℕ) (at left least : ℕ) where
  pub is-channel : (d : ℕ) (r : Cursor) → head_at s at left least ≡ Some (Channel r) → element_at s d at left least ≡ Some r
  unfolding element_at
  is-channel zero r e = rw e
  is-channel (suc d) r e = rw e

  pub is_malformed : (d : ℕ) → head_at s at left least ≡ None → element_at s d at left least ≡ None
  unfolding element_at
  is_malformed zero e = rw e
  is_malformed (suc d) e = rw e

  pub too_deep : (d n : ℕ) (r : Cursor) → (1 ≤ d → ⊥) → head_at s at left least ≡ Some (Inner n r) → element_at s d at left least ≡ None
  unfolding element_at
  too_deep zero n r z e = rw e
  too_deep (suc d) n r z e = absurd (z (omega arith))

  pub is-list : (d n : ℕ) (r : Cursor) → 1 ≤ d → head_at s at left least ≡ Some (Inner n r) → element_at s d at left least ≡ list_at s (d - 1) n r.at r.left
  unfolding element_at list_at
  is-list zero n r z e = absurd (omega arith)
  is-list (suc d) n r z e = rw (sub-one (suc d), e)

pub ruleset readings = (is-channel, is_malformed, too_deep, is-list)

pub none_left : (s : List ℕ) (d n at left : ℕ) → n ≡ 0 → list_at s d n at left ≡ next at left
unfolding list_at many
none_left s d zero at left z = refl
none_left s d (suc n) at left z = absurd (omega arith)

pub one_more : (s : List ℕ) (d n at left : ℕ) → (n ≡ 0 → ⊥)
    → list_at s d n at left ≡ and_then (element_at s d at left 1) (list_at s d (n - 1))
unfolding list_at many
one_more s d zero at left z = absurd (z refl)
one_more s d (suc n) at left z = rw (sub-one (suc n))

-- .. and what is left of them once t were read
pub list_turn : (s : List ℕ) (d n t at left : ℕ) (r : Option Cursor) → t < n → r ≡ element_at s d at left 1
    → list_at s d (n - t) at left ≡ and_then r (list_at s d (n - (t + 1)))
list_turn s d n t at left r h e =
    let m : n - t - 1 ≡ n - (t + 1) = omega arith in
    one_more s d (n - t) at left (λ z. omega arith) ∙ ap₂ (λ (o : Option Cursor) (k : ℕ). and_then o (list_at s d k)) (sym e) m

-- a measure: 2^17 for each level, and one for each element of a list
pub deeper : (d n : ℕ) → (d ≡ 0 → ⊥) → n < 65536 → (d - 1) * 131072 + n + 1 < d * 131072
deeper zero n z h = absurd (z refl)
deeper (suc d) n z h = rw (sub-one (suc d)) (omega arith)

pub onward : (d n : ℕ) → (n ≡ 0 → ⊥) → d * 131072 + (n - 1) + 1 < d * 131072 + n + 1
onward d zero z = absurd (z refl)
onward d (suc n) z = omega arith

-- ---- the tree

pub number_inside : (s : List ℕ) (k : ℕ) → (get_or s k 0 ≡ 0 → ⊥) → k < length s
number_inside s k h = go (dec_le (length s) k)
  where
    go : Dec (length s ≤ k) → k < length s
    go (yes l) = absurd (h (get_or-eq_default s 0 l))
    go (no l) = omega arith

module _ (s : List ℕ) where
  pub tree-none : (d n at : ℕ) → n ≡ 0 → list_as s d n at ≡ none
  unfolding list_as in_turn
  tree-none d zero at z = refl
  tree-none d (suc n) at z = absurd (omega arith)

  pub tree_first : (d n at : ℕ) → (n ≡ 0 → ⊥) → list_as s d n at ≡ element_as s d at (list_as s d (n - 1) (skip s d at))
  unfolding list_as in_turn
  tree_first d zero at z = absurd (z refl)
  tree_first d (suc n) at z = rw (sub-one (suc n))

  pub tree-channel : (d at : ℕ) (l : Elements) → get_or s (at + 1) 0 ≡ 0 → element_as s d at l ≡ channel (count_as (get_or s at 0)) (get_or s (at + 2) 0) l
  unfolding element_as
  tree-channel zero at l e = rw (eq-eqb _ _ e)
  tree-channel (suc d) at l e = rw (eq-eqb _ _ e)

  pub tree_inner : (d at : ℕ) (l : Elements) → (get_or s (at + 1) 0 ≡ 0 → ⊥)
      → element_as s (suc d) at l ≡ list (count_as (get_or s at 0)) (list_as s d (get_or s (at + 1) 0) (at + 2)) l
  unfolding element_as list_as
  tree_inner d at l e = rw (ne_eqb _ _ e)

  pub tree_flat : (at : ℕ) (l : Elements) → (get_or s (at + 1) 0 ≡ 0 → ⊥) → element_as s zero at l ≡ list (count_as (get_or s at 0)) none l
  unfolding element_as
  tree_flat at l e = rw (ne_eqb _ _ e)

-- ---- the whole entry

module _ (s : List ℕ) where
  pub entry_none : get_or s 0 0 ≡ 0 → entry_read s ≡ None
  unfolding entry_read
  entry_none e = rw (eq-eqb _ _ e)

  pub entry_some : 1 ≤ get_or s 0 0 → entry_read s ≡ and_then (list_at s 2 (get_or s 0 0 - 1) 1 most_elements) (λ a l. element_at s 2 a l 0)
  unfolding entry_read
  entry_some h = let z : get_or s 0 0 ≡ 0 → ⊥ = λ e. omega arith in rw (ne_eqb _ _ z)

  pub read_some : {r : Cursor} → entry_read s ≡ Some r → 1 ≤ get_or s 0 0
  read_some {r} e = go (dec_le (get_or s 0 0) 0)
    where
      go : Dec (get_or s 0 0 ≤ 0) → 1 ≤ get_or s 0 0
      go (yes h) = let z = entry_none (omega arith) in never (cc)
      go (no h) = omega arith
