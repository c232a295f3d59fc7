-- An entry of the multiplex table as the paper has it (000, 6.4.1.1; document 01, "Multiplex table"): a list of elements, each a
-- channel or an inner list with a repeat count; and the numbers by which it is handed over.
--
--   Count           how often an element repeats: so many times, or until closing
--   Elements        a list of elements: none; or a channel with its count, or an inner list with its count, before the others
--   size l          how many elements the list l has
--   all_elements l   .. and how many counted at every depth: an inner list is an element, and so is each of those in it
--   depth l         how deep lists go: the list itself is at depth 1
--   is_none l        it is the empty list
--   highest         the highest repeat count, and the highest channel
--   is_count may r   a repeat count: 1 to 65,535; or, where it may be, until closing
--   is_list top l    each element has a count and is a channel or an inner list of at least two; only the last at the top may repeat until closing
--   most_elements, deepest   the most elements, counted at every depth; and the deepest list
--   is_entry_tree l   l is an entry
--   count_number r   a count as a number: 0 is until closing
--   element_numbers l   the elements' numbers in prefix order: the count; then 0 and the channel, or how many inner elements there are, and those
--   numbers l       the numbers of an entry: how many elements it has, and theirs
--   is_times r, is_finite l   nothing repeats until closing
--   is_closing l     the last element of l repeats until closing
--   octets_in l      how many octets a finite entry has: a channel one for each time, an inner list all of its own each time
--   fixed_tree       entry 0: channel 0 until closing
--
-- Assumes nothing.
use Rattle.std.specs.Prelude.{Bool, true, false, cond, not, ◌&&◌, List, [], ◌∷◌, ◌++◌, ℕ, suc, ◌+◌, ◌*◌, max, leb}

pub data Count : Type 0 where
  times : ℕ → Count
  until_closing : Count

pub data Elements : Type 0 where
  none : Elements
  channel : Count → ℕ → Elements → Elements
  list : Count → Elements → Elements → Elements

unfoldable pub size : Elements → ℕ
size none = 0
size (channel r c l) = suc (size l)
size (list r i l) = suc (size l)

unfoldable pub all_elements : Elements → ℕ
all_elements none = 0
all_elements (channel r c l) = 1 + all_elements l
all_elements (list r i l) = 1 + all_elements i + all_elements l

unfoldable pub depth : Elements → ℕ
depth none = 1
depth (channel r c l) = depth l
depth (list r i l) = max (1 + depth i) (depth l)

abbrev pub is_none : Elements → Bool
is_none none = true
is_none (channel r c l) = false
is_none (list r i l) = false

abbrev pub highest : ℕ
highest = 65535

abbrev pub is_count : Bool → Count → Bool
is_count may (times k) = leb 1 k && leb k highest
is_count may until_closing = may

unfoldable pub is_list : (top : Bool) → Elements → Bool
is_list top none = true
is_list top (channel r c l) = is_count (top && is_none l) r && (leb c highest && is_list top l)
is_list top (list r i l) = is_count (top && is_none l) r && (leb 2 (size i) && (is_list false i && is_list top l))

abbrev pub most_elements : ℕ
most_elements = 32

abbrev pub deepest : ℕ
deepest = 3

unfoldable pub is_entry_tree : Elements → Bool
is_entry_tree l = leb 1 (all_elements l) && (leb (all_elements l) most_elements && (leb (depth l) deepest && is_list true l))

-- ---- its numbers

abbrev pub count_number : Count → ℕ
count_number (times k) = k
count_number until_closing = 0

unfoldable pub element_numbers : Elements → List ℕ
element_numbers none = []
element_numbers (channel r c l) = count_number r ∷ 0 ∷ c ∷ element_numbers l
element_numbers (list r i l) = count_number r ∷ size i ∷ element_numbers i ++ element_numbers l

abbrev pub numbers : Elements → List ℕ
numbers l = size l ∷ element_numbers l

-- ---- finite entries

abbrev pub is_times : Count → Bool
is_times (times k) = true
is_times until_closing = false

unfoldable pub is_finite : Elements → Bool
is_finite none = true
is_finite (channel r c l) = is_times r && is_finite l
is_finite (list r i l) = is_times r && (is_finite i && is_finite l)

unfoldable pub is_closing : Elements → Bool
is_closing none = false
is_closing (channel r c l) = cond (is_none l) (not (is_times r)) (is_closing l)
is_closing (list r i l) = cond (is_none l) (not (is_times r)) (is_closing l)

unfoldable pub octets_in : Elements → ℕ
octets_in none = 0
octets_in (channel r c l) = count_number r + octets_in l
octets_in (list r i l) = count_number r * octets_in i + octets_in l

abbrev pub fixed_tree : Elements
fixed_tree = channel until_closing 0 none
