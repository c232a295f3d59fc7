-- How the code reads an entry's numbers, from a place on: what the functions that read it promise one another, `form::element` among
-- them. What `is_entry`, `replace` and `payload_slots` promise is said of trees (Entry, Form, Slots). The tree that numbers are read as goes by `skip` from element to element, whatever they are; that an
-- entry's numbers are read as that entry is the claim NumbersRead, and proofs/Joining.antt joins the two.
--
--   cursor at left   a place, and how many elements may still come
--   next at left     a reading that ended there
--   and_then r f     what comes after a reading, where it is good
--   many one n      n elements, each read by `one`
--   head_at          an element's own numbers: a channel, the start of an inner list of at least two, or nothing good
--   on_head inner    an element by its numbers; `inner` reads its list, where it is one
--   element_at       an element of a list from which lists may go `deeper` levels down, where `left` elements may still come, and which
--                   repeats at least `least` times
--   list_at          n elements that repeat at least once
--   ends_at n r      a reading ended at place n
--   entry_read s    what reading s as an entry gives: as many elements as it says, the last of which may repeat until closing
--   reads s         all of s is read as an entry: every element but the last repeats at least once, and nothing stands behind it
--   place_after r at the place after what was read, or `at` where it is malformed
--   skip            the place after an element
--
-- Assumes nothing.
use Rattle.std.specs.Prelude.{Bool, false, cond, List, ℕ, zero, suc, ◌+◌, ◌-◌, ltb, eqb, length, get_or, Option, Some, None}
use Rattle.table.specs.declared.form.Head.{Head}
use Rattle.table.specs.declared.form.Head.TheVariants.{Channel, Inner}
use Rattle.table.specs.declared.form.Cursor.{Cursor}
use Rattle.table.specs.Entry.{most_elements}

abbrev pub cursor : (at left : ℕ) → Cursor
cursor at left = record { at = at; left = left }

abbrev pub next : (at left : ℕ) → Option Cursor
next at left = Some (cursor at left)

abbrev pub and_then : Option Cursor → (ℕ → ℕ → Option Cursor) → Option Cursor
and_then (Some r) f = f r.at r.left
and_then None f = None

unfoldable pub many : (ℕ → ℕ → Option Cursor) → ℕ → ℕ → ℕ → Option Cursor
many one zero at left = next at left
many one (suc n) at left = and_then (one at left) (many one n)

unfoldable pub head_at : List ℕ → ℕ → ℕ → ℕ → Option Head
head_at s at left least =
    cond (ltb (length s) 3) None
    (cond (ltb (length s - 3) at) None
    (cond (eqb left 0) None
    (cond (ltb (get_or s at 0) least) None
    (cond (eqb (get_or s (at + 1) 0) 0) (Some (Channel (cursor (at + 3) (left - 1))))
    (cond (eqb (get_or s (at + 1) 0) 1) None
    (Some (Inner (get_or s (at + 1) 0) (cursor (at + 2) (left - 1)))))))))

abbrev pub on_head : (ℕ → ℕ → ℕ → Option Cursor) → Option Head → Option Cursor
on_head inner (Some (Channel r)) = Some r
on_head inner (Some (Inner n r)) = inner n r.at r.left
on_head inner None = None

unfoldable pub element_at : List ℕ → ℕ → ℕ → ℕ → ℕ → Option Cursor
element_at s zero at left least = on_head (λ n a l. None) (head_at s at left least)
element_at s (suc deeper) at left least = on_head (many (λ a l. element_at s deeper a l 1)) (head_at s at left least)

unfoldable pub list_at : List ℕ → ℕ → ℕ → ℕ → ℕ → Option Cursor
list_at s deeper n at left = many (λ a l. element_at s deeper a l 1) n at left

abbrev pub ends_at : ℕ → Option Cursor → Bool
ends_at n (Some r) = eqb r.at n
ends_at n None = false

unfoldable pub entry_read : List ℕ → Option Cursor
entry_read s = cond (eqb (get_or s 0 0) 0) None (and_then (list_at s 2 (get_or s 0 0 - 1) 1 most_elements) (λ a l. element_at s 2 a l 0))

unfoldable pub reads : List ℕ → Bool
reads s = ends_at (length s) (entry_read s)

abbrev pub place_after : Option Cursor → ℕ → ℕ
place_after (Some r) at = r.at
place_after None at = at

unfoldable pub skip : List ℕ → ℕ → ℕ → ℕ
skip s deeper at = place_after (element_at s deeper at most_elements 0) at
