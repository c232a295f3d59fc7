-- A list of elements, and an entry, by the parts of what the paper says of them.
--
--   Once r             an element with the count r is passed at least once
--   count-once         .. which is so of each count that the paper has
--   count_least        one that may not repeat until closing has a number of at least 1
--   count-number       a repeat count is what its number is read as
--   ChannelIs, channel_is   a channel element and those behind it
--   ListIs, list_is    .. and an inner list
--   EntryIs, entry_is, is_tree   an entry
--   some-none, some_size, entry_some   an entry has an element
--   size_elements      counted at every depth, there are no fewer elements than in the list itself
--   depth_least        a list is at depth 1 at least
--   numbers_least      a list has at least as many numbers as elements
--   numbers_most       .. and at most three for each, counted at every depth
--
-- Assumes nothing.
use mathlib.Core.Path.{◌≡◌, refl}
use mathlib.Core.Bool.{Bool, true, false, ◌&&◌}
use Prim.Native.Nat.{ℕ, ◌*◌, ◌≤◌}
use native.Mathlib.Omega.{arith}
use borrow.Author.Tests.{ne_eqb, le-leb, leb-true}
use lib.Dec.{leb}
use lib.ListN.{length, length-append}
use Rattle.octets.specs.Tests.{both_true, never}
use Rattle.table.specs.Entry.{Count, times, until_closing, Elements, none, channel, list, size, all_elements, depth, is_none, highest, is_count, is_list, most_elements, deepest, is_entry_tree, count_number, element_numbers}
use Rattle.table.specs.Form.{count_as}

-- ---- repeat counts

abbrev pub Once : Count → Type 0
Once (times k) = 1 ≤ k
Once until_closing = Unit {0}

pub count-once : (may : Bool) (r : Count) → is_count may r ≡ true → Once r
count-once may (times k) e = leb-true 1 k (both_true (leb 1 k) (leb k highest) e).0
count-once may until_closing e = tt

pub count_least : (may : Bool) (r : Count) → is_count may r ≡ true → may ≡ false → 1 ≤ count_number r
count_least may (times k) e z = count-once may (times k) e
count_least may until_closing e z = never (cc)

pub count-number : (may : Bool) (r : Count) → is_count may r ≡ true → count_as (count_number r) ≡ r
count-number may (times k) e = let h = count-once may (times k) e in rw (ne_eqb k 0 (λ z. omega arith))
count-number may until_closing e = refl

-- ---- lists

pub record ChannelIs (top : Bool) (r : Count) (c : ℕ) (l : Elements) : Type 0 where
  pub count : is_count (top && is_none l) r ≡ true
  pub behind : is_list top l ≡ true

pub record ListIs (top : Bool) (r : Count) (i l : Elements) : Type 0 where
  pub count : is_count (top && is_none l) r ≡ true
  pub pair : 2 ≤ size i
  pub inner : is_list false i ≡ true
  pub behind : is_list top l ≡ true

pub channel_is : (top : Bool) (r : Count) (c : ℕ) (l : Elements) → is_list top (channel r c l) ≡ true → ChannelIs top r c l
unfolding is_list
channel_is top r c l e =
    let p = both_true (is_count (top && is_none l) r) (leb c highest && is_list top l) e in
    record { count = p.0; behind = (both_true (leb c highest) (is_list top l) p.1).1 }

pub list_is : (top : Bool) (r : Count) (i l : Elements) → is_list top (list r i l) ≡ true → ListIs top r i l
unfolding is_list
list_is top r i l e =
    let p = both_true (is_count (top && is_none l) r) (leb 2 (size i) && (is_list false i && is_list top l)) e in
    let q = both_true (leb 2 (size i)) (is_list false i && is_list top l) p.1 in
    let o = both_true (is_list false i) (is_list top l) q.1 in
    record { count = p.0; pair = leb-true 2 (size i) q.0; inner = o.0; behind = o.1 }

-- ---- entries

pub record EntryIs (l : Elements) : Type 0 where
  pub some : 1 ≤ all_elements l
  pub few : all_elements l ≤ most_elements
  pub shallow : depth l ≤ deepest
  pub sound : is_list true l ≡ true

pub entry_is : (l : Elements) → is_entry_tree l ≡ true → EntryIs l
unfolding is_entry_tree
entry_is l e =
    let p = both_true (leb 1 (all_elements l)) (leb (all_elements l) most_elements && (leb (depth l) deepest && is_list true l)) e in
    let q = both_true (leb (all_elements l) most_elements) (leb (depth l) deepest && is_list true l) p.1 in
    let o = both_true (leb (depth l) deepest) (is_list true l) q.1 in
    record { some = leb-true _ _ p.0; few = leb-true _ _ q.0; shallow = leb-true _ _ o.0; sound = o.1 }

pub is_tree : (l : Elements) → EntryIs l → is_entry_tree l ≡ true
unfolding is_entry_tree
is_tree l p = rw (le-leb _ _ p.some, le-leb _ _ p.few, le-leb _ _ p.shallow) p.sound

pub some-none : (l : Elements) → 1 ≤ all_elements l → is_none l ≡ false
unfolding all_elements
some-none none h = absurd (omega arith)
some-none (channel r c l) h = refl
some-none (list r i l) h = refl

pub some_size : (l : Elements) → is_none l ≡ false → 1 ≤ size l
unfolding size
some_size none e = never (cc)
some_size (channel r c l) e = omega arith
some_size (list r i l) e = omega arith

pub entry_some : (l : Elements) → is_entry_tree l ≡ true → 1 ≤ size l
entry_some l e = some_size l (some-none l (entry_is l e).some)

-- ---- how many, how deep

pub size_elements : (l : Elements) → size l ≤ all_elements l
unfolding size all_elements
size_elements none = omega arith
size_elements (channel r c l) = omega (arith, size_elements l)
size_elements (list r i l) = omega (arith, size_elements l)

pub depth_least : (l : Elements) → 1 ≤ depth l
unfolding depth
depth_least none = omega arith
depth_least (channel r c l) = depth_least l
depth_least (list r i l) = omega (arith, depth_least l)

pub numbers_least : (l : Elements) → size l ≤ length (element_numbers l)
unfolding size element_numbers
numbers_least none = omega arith
numbers_least (channel r c l) = omega (arith, numbers_least l)
numbers_least (list r i l) = omega (arith, numbers_least l, length-append (element_numbers i) (element_numbers l))

pub numbers_most : (l : Elements) → length (element_numbers l) ≤ 3 * all_elements l
unfolding element_numbers all_elements
numbers_most none = omega arith
numbers_most (channel r c l) = omega (arith, numbers_most l)
numbers_most (list r i l) = omega (arith, numbers_most i, numbers_most l, length-append (element_numbers i) (element_numbers l))
