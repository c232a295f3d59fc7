-- The numbers of a tree, read where they stand.
--
--   list-reads       the elements of an inner list are read, whatever stands before and behind them
--   top-reads        .. and those of an entry, as the code reads them: the last apart
--   tree-reads       .. and they are read as that tree
--
-- Assumes nothing.
use mathlib.Core.Path.{◌≡◌, refl, sym, ap, ap₂, ◌∙◌}
use mathlib.Core.Bool.{Bool, true, false, ◌&&◌}
use mathlib.Core.List.{List, [], ◌∷◌, ◌++◌, append_assoc}
use Prim.Native.Nat.{ℕ, zero, suc, ◌+◌, ◌-◌, ◌≤◌}
use native.Mathlib.Nat.{add-zero}
use native.Mathlib.Omega.{arith}
use lib.ListN.{length, get_or, drop, length-append, length-drop}
use lib.Seq.{get_or-drop, drop-drop, drop_at}
use Rattle.octets.specs.Tests.{never}
use Rattle.std.specs.Prelude.{Option}
use Rattle.table.specs.declared.form.Cursor.{Cursor}
use Rattle.table.specs.Entry.{Count, Elements, none, channel, list, size, all_elements, depth, is_none, is_list, most_elements, count_number, element_numbers}
use Rattle.table.specs.Cursor.{cursor, next, and_then, many, element_at, skip}
use Rattle.table.specs.Form.{count_as, in_turn, list_as}
use Rattle.table.proofs.Parts.{count_least, count-number, ListIs, channel_is, list_is, depth_least, numbers_least}
use Rattle.table.proofs.Reading.{is-channel, tree-channel, tree_inner}
use Rattle.table.proofs.Heads.{GoodNumbers, head-channel, head_inner}

-- ---- what stands at a place

module _ (s : List ℕ) where
  behind : (at n : ℕ) (x z : List ℕ) → drop at s ≡ x ++ z → length x ≡ n → drop (at + n) s ≡ z
  behind at n x z e h = sym (drop-drop n at s) ∙ ap (drop n) e ∙ drop_at x z n h

  module _ (at r k : ℕ) (y : List ℕ) (e : drop at s ≡ r ∷ k ∷ y) where
    first_at : get_or s at 0 ≡ r
    first_at = sym (get_or-drop at s 0 0 ∙ ap (λ (n : ℕ). get_or s n 0) (add-zero at)) ∙ ap (λ (l : List ℕ). get_or l 0 0) e

    second_at : get_or s (at + 1) 0 ≡ k
    second_at = sym (get_or-drop at s 1 0) ∙ ap (λ (l : List ℕ). get_or l 1 0) e

    good_at : (left least : ℕ) → 1 ≤ length y → 1 ≤ left → least ≤ r → GoodNumbers s at left least
    good_at left least h b o = record {
      inside = omega (arith, length-drop at s, ap (λ (l : List ℕ). length l) e);
      budget = b;
      often = omega (arith, first_at);
    }

  third_at : (at r k c : ℕ) (z : List ℕ) → drop at s ≡ r ∷ k ∷ c ∷ z → get_or s (at + 2) 0 ≡ c
  third_at at r k c z e = sym (get_or-drop at s 2 0) ∙ ap (λ (l : List ℕ). get_or l 2 0) e

  channel-reads : (d at left least r c : ℕ) (z : List ℕ) → drop at s ≡ r ∷ 0 ∷ c ∷ z → 1 ≤ left → least ≤ r
      → element_at s d at left least ≡ next (at + 3) (left - 1)
  channel-reads d at left least r c z e b o =
      is-channel s at left least d (cursor (at + 3) (left - 1))
      (head-channel s at left least (good_at at r 0 (c ∷ z) e left least (omega arith) b o) (second_at at r 0 (c ∷ z) e))

  -- an inner list and what stands behind it
  module _ (r : Count) (i l : Elements) (at : ℕ) (z : List ℕ) (e : drop at s ≡ element_numbers (list r i l) ++ z) where
    whole_at : drop at s ≡ count_number r ∷ size i ∷ element_numbers i ++ (element_numbers l ++ z)
    unfolding element_numbers
    whole_at = e ∙ ap (λ (u : List ℕ). count_number r ∷ size i ∷ u) (append_assoc (element_numbers i) (element_numbers l) z)

    inner_at : drop (at + 2) s ≡ element_numbers i ++ (element_numbers l ++ z)
    inner_at = behind at 2 (count_number r ∷ size i ∷ []) (element_numbers i ++ (element_numbers l ++ z)) whole_at refl

    rest_at : drop (at + 2 + length (element_numbers i)) s ≡ element_numbers l ++ z
    rest_at = behind (at + 2) (length (element_numbers i)) (element_numbers i) (element_numbers l ++ z) inner_at refl

    -- it is read as its elements are
    inner-reads : (d left least : ℕ) (q : Option Cursor) → 2 ≤ size i → 1 ≤ left → least ≤ count_number r
        → many (λ a b. element_at s d a b 1) (size i) (at + 2) (left - 1) ≡ q → element_at s (suc d) at left least ≡ q
    unfolding element_at
    inner-reads d left least q pair some o h =
        let y = element_numbers i ++ (element_numbers l ++ z) in
        let f = second_at at (count_number r) (size i) y whole_at in
        let m : 1 ≤ length y = omega (arith, length-append (element_numbers i) (element_numbers l ++ z), numbers_least i) in
        rw (head_inner s at left least (good_at at (count_number r) (size i) y whole_at left least m some o) (omega arith), f) h

  -- ---- elements

  pub list-reads : (l : Elements) (d at left : ℕ) (z : List ℕ) → is_list false l ≡ true → depth l ≤ suc d → all_elements l ≤ left → drop at s ≡ element_numbers l ++ z
      → many (λ a b. element_at s d a b 1) (size l) at left ≡ next (at + length (element_numbers l)) (left - all_elements l)
  unfolding many size all_elements element_numbers depth
  list-reads none d at left z sound low few e = ap₂ next (omega arith) (omega arith)
  list-reads (channel r c l) d at left z sound low few e =
      let p = channel_is false r c l sound in
      rw (channel-reads d at left 1 (count_number r) c (element_numbers l ++ z) e (omega arith) (count_least false r p.count refl))
      (list-reads l d (at + 3) (left - 1) z p.behind low (omega arith) (behind at 3 (count_number r ∷ 0 ∷ c ∷ []) (element_numbers l ++ z) e refl)
      ∙ ap₂ next (omega arith) (omega arith))
  list-reads (list r i l) zero at left z sound low few e = absurd (omega (arith, depth_least i))
  list-reads (list r i l) (suc d) at left z sound low few e =
      let p = list_is false r i l sound in
      let x = element_numbers i in
      rw (inner-reads r i l at z e d left 1 _ p.pair (omega arith) (count_least false r p.count refl)
      (list-reads i d (at + 2) (left - 1) (element_numbers l ++ z) p.inner (omega arith) (omega arith) (inner_at r i l at z e)))
      (list-reads l (suc d) (at + 2 + length x) (left - 1 - all_elements i) z p.behind (omega arith) (omega arith) (rest_at r i l at z e)
      ∙ ap₂ next (omega (arith, length-append x (element_numbers l))) (omega arith))

  -- an inner list as the paper has it
  inner_whole : (r : Count) (i l : Elements) (top : Bool) → ListIs top r i l → (d at : ℕ) (z : List ℕ) → depth i ≤ suc d
      → drop at s ≡ element_numbers (list r i l) ++ z → (left least : ℕ) → 1 + all_elements i ≤ left → least ≤ count_number r
      → element_at s (suc d) at left least ≡ next (at + 2 + length (element_numbers i)) (left - 1 - all_elements i)
  inner_whole r i l top p d at z low e left least few o =
      inner-reads r i l at z e d left least _ p.pair (omega arith) o
      (list-reads i d (at + 2) (left - 1) (element_numbers l ++ z) p.inner low (omega arith) (inner_at r i l at z e))

  -- ---- the tree

  pub tree-reads : (l : Elements) (top : Bool) (d at : ℕ) (z : List ℕ) → is_list top l ≡ true → depth l ≤ suc d → all_elements l ≤ most_elements
      → drop at s ≡ element_numbers l ++ z → list_as s d (size l) at ≡ l
  unfolding size all_elements element_numbers depth skip list_as in_turn
  tree-reads none top d at z sound low few e = refl
  tree-reads (channel r c l) top d at z sound low few e =
      let p = channel_is top r c l sound in
      let y = element_numbers l ++ z in
      let next = channel-reads d at most_elements 0 (count_number r) c y e (omega arith) (omega arith) in
      rw (next, tree-reads l top d (at + 3) z p.behind low (omega arith) (behind at 3 (count_number r ∷ 0 ∷ c ∷ []) y e refl))
      (tree-channel s d at l (second_at at (count_number r) 0 (c ∷ y) e)
      ∙ ap₂ (λ (x : Count) (n : ℕ). channel x n l) (ap count_as (first_at at (count_number r) 0 (c ∷ y) e) ∙ count-number (top && is_none l) r p.count)
      (third_at at (count_number r) 0 c y e))
  tree-reads (list r i l) top zero at z sound low few e = absurd (omega (arith, depth_least i))
  tree-reads (list r i l) top (suc d) at z sound low few e =
      let p = list_is top r i l sound in
      let x = element_numbers i in
      let y = element_numbers l ++ z in
      let w = whole_at r i l at z e in
      let k = second_at at (count_number r) (size i) (x ++ y) w in
      let next = inner_whole r i l top p d at z (omega arith) e most_elements 0 (omega arith) (omega arith) in
      rw (next, tree-reads l top (suc d) (at + 2 + length x) z p.behind (omega arith) (omega arith) (rest_at r i l at z e))
      (tree_inner s d at l (λ q. omega (arith, p.pair))
      ∙ ap₂ (λ (u : Count) (v : Elements). list u v l)
      (ap count_as (first_at at (count_number r) (size i) (x ++ y) w) ∙ count-number (top && is_none l) r p.count)
      (ap (λ (n : ℕ). list_as s d n (at + 2)) k ∙ tree-reads i false d (at + 2) y p.inner (omega arith) (omega arith) (inner_at r i l at z e)))

  -- ---- the top

  -- the last element is read apart: it may repeat until closing
  top_step : (d : ℕ) (l : Elements) (at left a b x y : ℕ) → element_at s d at left 0 ≡ next a b → (is_none l ≡ false → element_at s d at left 1 ≡ next a b)
      → (is_none l ≡ true → next a b ≡ next x y)
      → (is_none l ≡ false → and_then (many (λ p q. element_at s d p q 1) (size l - 1) a b) (λ p q. element_at s d p q 0) ≡ next x y)
      → and_then (many (λ p q. element_at s d p q 1) (size l) at left) (λ p q. element_at s d p q 0) ≡ next x y
  unfolding many size
  top_step d none at left a b x y p q o h = p ∙ o refl
  top_step d (channel r c l) at left a b x y p q o h = let z : suc (size l) - 1 ≡ size l = omega arith in rw (q refl) (rw z at (h refl))
  top_step d (list r i l) at left a b x y p q o h = let z : suc (size l) - 1 ≡ size l = omega arith in rw (q refl) (rw z at (h refl))

  none_elements : (l : Elements) → is_none l ≡ true → (length (element_numbers l) ≡ 0) × (all_elements l ≡ 0)
  unfolding element_numbers all_elements
  none_elements none e = (refl, refl)
  none_elements (channel r c l) e = never (cc)
  none_elements (list r i l) e = never (cc)

  pub top-reads : (l : Elements) (d at left : ℕ) (z : List ℕ) → is_none l ≡ false → is_list true l ≡ true → depth l ≤ suc d → all_elements l ≤ left
      → drop at s ≡ element_numbers l ++ z
      → and_then (many (λ p q. element_at s d p q 1) (size l - 1) at left) (λ p q. element_at s d p q 0) ≡ next (at + length (element_numbers l)) (left - all_elements l)
  unfolding size all_elements element_numbers depth
  top-reads none d at left z some sound low few e = never (cc)
  top-reads (channel r c l) d at left z some sound low few e =
      let p = channel_is true r c l sound in
      let y = element_numbers l ++ z in
      let n : suc (size l) - 1 ≡ size l = omega arith in
      rw n (top_step d l at left (at + 3) (left - 1) _ _ (channel-reads d at left 0 (count_number r) c y e (omega arith) (omega arith))
      (λ m. channel-reads d at left 1 (count_number r) c y e (omega arith) (count_least (is_none l) r p.count m))
      (λ m. let q = none_elements l m in ap₂ next (omega (arith, q.0)) (omega (arith, q.1)))
      (λ m. top-reads l d (at + 3) (left - 1) z m p.behind low (omega arith) (behind at 3 (count_number r ∷ 0 ∷ c ∷ []) y e refl)
      ∙ ap₂ next (omega arith) (omega arith)))
  top-reads (list r i l) zero at left z some sound low few e = absurd (omega (arith, depth_least i))
  top-reads (list r i l) (suc d) at left z some sound low few e =
      let p = list_is true r i l sound in
      let x = element_numbers i in
      let whole = inner_whole r i l true p d at z (omega arith) e left in
      let n : suc (size l) - 1 ≡ size l = omega arith in
      rw n (top_step (suc d) l at left (at + 2 + length x) (left - 1 - all_elements i) _ _ (whole 0 (omega arith) (omega arith))
      (λ m. whole 1 (omega arith) (count_least (is_none l) r p.count m))
      (λ m. let q = none_elements l m in ap₂ next (omega (arith, q.0, length-append x (element_numbers l))) (omega (arith, q.1)))
      (λ m. top-reads l (suc d) (at + 2 + length x) (left - 1 - all_elements i) z m p.behind (omega arith) (omega arith) (rest_at r i l at z e)
      ∙ ap₂ next (omega (arith, length-append x (element_numbers l))) (omega arith)))
