-- The slots of a tree.
--
--   Often l            each element of l, at every depth, is passed at least once
--   tree_often         .. which is so of whatever numbers are read as
--   passes_enough      what repeats until closing is passed as often as a payload has octets, at least
--   passes-once        what is to be passed at least once is, for any payload that is not empty
--   passes_most        what is read is passed at least once in the longest payload
--   slots_filled       then the slots are filled
--   slots_alike        .. and a cut leaves the same for any payload that has as many octets
--   element-before     an element's slots, and those of the elements behind it
--   element_often      the element that stands at a place is passed at least once
--   list-slots_filled, element-slots_filled   the slots that the inner functions lay down are filled
--   payload_slots_filled      the slots of a payload are filled
--   payload_slots_most        .. have at most its octets
--   payload_slots-cut         .. and what is cut from them are those of a shorter one
--
-- Assumes nothing.
use mathlib.Core.Path.{◌≡◌, refl, sym, ap, ap₂, ◌∙◌}
use mathlib.Core.Bool.{Bool, true, false, cond}
use mathlib.Core.List.{List, [], ◌∷◌, ◌++◌, append-nil}
use Prim.Native.Nat.{ℕ, zero, suc, ◌+◌, ◌-◌, ◌≤◌, min}
use native.Mathlib.Omega.{arith}
use borrow.Author.Tests.{ne_eqb}
use lib.Dec.{eqb}
use lib.ListN.{get_or}
use Rattle.table.specs.Entry.{Count, times, until_closing, Elements, none, channel, list}
use Rattle.table.specs.Cursor.{skip}
use Rattle.table.specs.Form.{count_as, element_with, in_turn, element_as, list_as, tree_of}
use Rattle.table.specs.Slots.{Slot, passes, copies, slots, cut, payload_slots, octets_of}
use Rattle.table.specs.Table.{longest_payload}
use Rattle.table.specs.Lays.{element_slots, list_slots}
use Rattle.table.proofs.Apart.{cut-none}
use Rattle.table.proofs.Cutting.{Filled, filled-append, by_octets, cut_most, cut_filled, cut-cut, copies_filled, cut-both, copies_alike, copies_enough}
use Rattle.table.proofs.Parts.{Once}

-- ---- passed at least once

unfoldable pub Often : Elements → Type 0
Often none = Unit {0}
Often (channel r c l) = Once r × Often l
Often (list r i l) = Once r × Often i × Often l

read-once : (k : ℕ) → Once (count_as k)
read-once zero = tt
read-once (suc k) = rw (ne_eqb (suc k) 0 (λ z. omega arith)) (omega arith)

with_often : (inner : Elements) (s : List ℕ) (at : ℕ) (l : Elements) → Often inner → Often l → Often (element_with inner s at l)
unfolding Often
with_often inner s at l p q = go (eqb (get_or s (at + 1) 0) 0)
  where
    go : (b : Bool) → Often (cond b (channel (count_as (get_or s at 0)) (get_or s (at + 2) 0) l) (list (count_as (get_or s at 0)) inner l))
    go true = (read-once (get_or s at 0), q)
    go false = (read-once (get_or s at 0), p, q)

turns_often : (one : ℕ → Elements → Elements) (next : ℕ → ℕ) → ((at : ℕ) (l : Elements) → Often l → Often (one at l)) → (n at : ℕ)
    → Often (in_turn one next n at)
unfolding in_turn Often
turns_often one next p zero at = tt
turns_often one next p (suc n) at = p at (in_turn one next n (next at)) (turns_often one next p n (next at))

pub element_often : (s : List ℕ) (deeper at : ℕ) (l : Elements) → Often l → Often (element_as s deeper at l)
unfolding element_as Often
element_often s zero at l p = with_often none s at l tt p
element_often s (suc d) at l p =
    with_often (in_turn (element_as s d) (skip s d) (get_or s (at + 1) 0) (at + 2)) s at l
    (turns_often (element_as s d) (skip s d) (element_often s d) (get_or s (at + 1) 0) (at + 2)) p

read_often : (s : List ℕ) (deeper n at : ℕ) → Often (list_as s deeper n at)
unfolding list_as
read_often s d = turns_often (element_as s d) (skip s d) (element_often s d)

pub tree_often : (s : List ℕ) → Often (tree_of s)
unfolding tree_of
tree_often s = read_often s 2 (get_or s 0 0) 1

-- ---- their slots

pub passes_enough : (n k : ℕ) → k ≤ n → k ≤ passes n until_closing
passes_enough n k h = omega arith

pub passes-once : (n : ℕ) (r : Count) → 1 ≤ n → Once r → 1 ≤ passes n r
passes-once n (times k) h p = p
passes-once n until_closing h p = passes_enough n 1 h

pub passes_most : (k : ℕ) → 1 ≤ passes longest_payload (count_as k)
passes_most k = passes-once longest_payload (count_as k) (omega arith) (read-once k)

pub slots_filled : (n : ℕ) (l : Elements) → 1 ≤ n → Often l → Filled (slots n l)
unfolding slots Often Filled
slots_filled n none h p = tt
slots_filled n (channel r c l) h p = (passes-once n r h p.0, slots_filled n l h p.1)
slots_filled n (list r i l) h p =
    filled-append (copies (passes n r) (slots n i)) (slots n l) (copies_filled (passes n r) (slots n i) (slots_filled n i h p.1)) (slots_filled n l h p.2)

head_alike : (k c m n : ℕ) (u v : List Slot) → min m k ≡ min n k → cut (k - m) u ≡ cut (k - n) v
    → cut k (record { channel = c; octets = m } ∷ u) ≡ cut k (record { channel = c; octets = n } ∷ v)
unfolding cut
head_alike k c m n u v p q = ap₂ (λ (x : ℕ) (y : List Slot). cond (eqb k 0) [] (record { channel = c; octets = x } ∷ y)) p q

-- what repeats until closing, where there are enough passes of it
endless_alike : (k a b : ℕ) (x y : List Slot) → ((j : ℕ) → j ≤ k → cut j x ≡ cut j y) → (1 ≤ k → Filled y) → k ≤ a → k ≤ b
    → cut k (copies a x) ≡ cut k (copies b y)
endless_alike k a b x y h f p q =
    copies_alike k a x y h k (omega arith)
    ∙ by_octets (λ (j : ℕ). j ≤ k → cut j (copies a y) ≡ cut j (copies b y)) k (λ l. cut-none (copies a y) ∙ sym (cut-none (copies b y)))
    (λ z l. copies_enough y (f (omega arith)) a b k p q) (omega arith)

pub slots_alike : (l : Elements) (a b k : ℕ) → Often l → k ≤ a → k ≤ b → cut k (slots a l) ≡ cut k (slots b l)
unfolding slots Often
slots_alike none a b k o p q = refl
slots_alike (channel (times m) c l) a b k o p q = head_alike k c m m (slots a l) (slots b l) refl (slots_alike l a b (k - m) o.1 (omega arith) (omega arith))
slots_alike (channel until_closing c l) a b k o p q =
    let u = passes_enough a k p in
    let v = passes_enough b k q in
    let x : k - passes a until_closing ≡ 0 = omega arith in
    let y : k - passes b until_closing ≡ 0 = omega arith in
    head_alike k c (passes a until_closing) (passes b until_closing) (slots a l) (slots b l) (omega arith)
    (rw (x, y) (cut-none (slots a l) ∙ sym (cut-none (slots b l))))
slots_alike (list (times m) i l) a b k o p q =
    cut-both k (copies m (slots a i)) (copies m (slots b i)) (slots a l) (slots b l)
    (copies_alike k m (slots a i) (slots b i) (λ j h. slots_alike i a b j o.1 (omega arith) (omega arith)) k (omega arith))
    (slots_alike l a b (k - octets_of (cut k (copies m (slots b i)))) o.2 (omega arith) (omega arith))
slots_alike (list until_closing i l) a b k o p q =
    cut-both k (copies (passes a until_closing) (slots a i)) (copies (passes b until_closing) (slots b i)) (slots a l) (slots b l)
    (endless_alike k (passes a until_closing) (passes b until_closing) (slots a i) (slots b i)
    (λ j h. slots_alike i a b j o.1 (omega arith) (omega arith)) (λ h. slots_filled b i (omega arith) o.1) (passes_enough a k p) (passes_enough b k q))
    (slots_alike l a b (k - octets_of (cut k (copies (passes b until_closing) (slots b i)))) o.2 (omega arith) (omega arith))

-- ---- the slots that the inner functions lay down

with-before : (n : ℕ) (inner : Elements) (s : List ℕ) (at : ℕ) (l : Elements) → slots n (element_with inner s at l) ≡ slots n (element_with inner s at none) ++ slots n l
unfolding slots
with-before n inner s at l = go (eqb (get_or s (at + 1) 0) 0)
  where
    go : (b : Bool) → slots n (cond b (channel (count_as (get_or s at 0)) (get_or s (at + 2) 0) l) (list (count_as (get_or s at 0)) inner l))
        ≡ slots n (cond b (channel (count_as (get_or s at 0)) (get_or s (at + 2) 0) none) (list (count_as (get_or s at 0)) inner none)) ++ slots n l
    go true = refl
    go false = ap (λ (x : List Slot). x ++ slots n l) (sym (append-nil (copies (passes n (count_as (get_or s at 0))) (slots n inner))))

pub element-before : (n : ℕ) (s : List ℕ) (deeper at : ℕ) (l : Elements) → slots n (element_as s deeper at l) ≡ slots n (element_as s deeper at none) ++ slots n l
unfolding element_as
element-before n s zero at l = with-before n none s at l
element-before n s (suc d) at l = with-before n (in_turn (element_as s d) (skip s d) (get_or s (at + 1) 0) (at + 2)) s at l

pub element-slots_filled : (s : List ℕ) (deeper at : ℕ) → Filled (element_slots s deeper at)
unfolding element_slots Often
element-slots_filled s d at = slots_filled longest_payload (element_as s d at none) (omega arith) (element_often s d at none tt)

pub list-slots_filled : (s : List ℕ) (deeper n at : ℕ) → Filled (list_slots s deeper n at)
unfolding list_slots
list-slots_filled s d n at = slots_filled longest_payload (list_as s d n at) (omega arith) (read_often s d n at)

-- ---- the slots of a payload

pub payload_slots_filled : (s : List ℕ) (n : ℕ) → Filled (payload_slots s n)
unfolding payload_slots Filled
payload_slots_filled s n =
    by_octets (λ (m : ℕ). m ≤ n → Filled (cut m (slots n (tree_of s)))) n (λ h. rw (cut-none (slots n (tree_of s))) tt)
    (λ z h. cut_filled n (slots n (tree_of s)) (slots_filled n (tree_of s) (omega arith) (tree_often s))) (omega arith)

pub payload_slots_most : (s : List ℕ) (n : ℕ) → octets_of (payload_slots s n) ≤ n
unfolding payload_slots
payload_slots_most s n = cut_most n (slots n (tree_of s))

pub payload_slots-cut : (s : List ℕ) (m n : ℕ) → cut m (payload_slots s n) ≡ payload_slots s (min m n)
unfolding payload_slots
payload_slots-cut s m n = cut-cut m n (slots n (tree_of s)) ∙ slots_alike (tree_of s) n (min m n) (min m n) (tree_often s) (omega arith) (omega arith)
