-- The slots of an element and of a list in each case that the code tells apart.
--
--   as-channel, as_flat, as_inner   an element by its numbers: a channel, a list that is too deep, a list
--   inner_inside               an inner list starts inside the entry
--   list_rest, list_done       the elements that a loop has still to pass: one and those behind it, or none
--   copies_rest, copies_done   .. and so the passes
--   copies_idle                passes of no slots have none
--   list_idle                  an element without a slot is no element, and those behind it have none either
--
-- Assumes nothing.
use mathlib.Core.Path.{◌≡◌, refl, sym, ap, ap₂, ◌∙◌}
use mathlib.Core.List.{List, [], ◌∷◌, ◌++◌, append-nil, append-eq-nil_iff}
use Prim.Native.Nat.{ℕ, zero, suc, ◌+◌, ◌-◌, ◌≤◌, ◌<◌}
use native.Mathlib.Nat.{add-zero}
use native.Mathlib.Numerals.{sub-one}
use native.Mathlib.Omega.{arith}
use lib.ListN.{length, get_or}
use Rattle.octets.specs.Tests.{never}
use Rattle.table.specs.declared.form.Head.{Head}
use Rattle.table.specs.declared.form.Head.TheVariants.{Channel, Inner}
use Rattle.table.specs.declared.form.Cursor.{Cursor}
use Rattle.std.specs.Prelude.{Option, Some, None}
use Rattle.table.specs.Entry.{none, most_elements}
use Rattle.table.specs.Cursor.{cursor, many, head_at, on_head, element_at, skip}
use Rattle.table.specs.Form.{count_as, list_as}
use Rattle.table.specs.Slots.{Slot, passes, copies, slots}
use Rattle.table.specs.Table.{longest_payload}
use Rattle.table.specs.Lays.{element_slots, list_slots}
use Rattle.table.proofs.Cutting.{copies_nothing}
use Rattle.table.proofs.Expanding.{passes_most, element-before}
use Rattle.table.proofs.Heads.{HeadIs, is_malformed, is-channel, is_inner, head_is}
use Rattle.table.proofs.Reading.{number_inside, tree-none, tree_first, tree-channel, tree_inner, tree_flat}

module _ (s : List ℕ) (at : ℕ) where
  element-channel : (d : ℕ) → get_or s (at + 1) 0 ≡ 0
      → element_slots s d at ≡ record { channel = get_or s (at + 2) 0; octets = passes longest_payload (count_as (get_or s at 0)) } ∷ []
  unfolding element_slots slots
  element-channel d e = rw (tree-channel s d at none e)

  element_inner : (d : ℕ) → (get_or s (at + 1) 0 ≡ 0 → ⊥) → (d ≡ 0 → ⊥)
      → element_slots s d at ≡ copies (passes longest_payload (count_as (get_or s at 0))) (list_slots s (d - 1) (get_or s (at + 1) 0) (at + 2))
  unfolding element_slots list_slots slots
  element_inner zero e z = absurd (z refl)
  element_inner (suc d) e z = rw (sub-one (suc d), tree_inner s d at none e) (append-nil _)

  element_flat : (d : ℕ) → (get_or s (at + 1) 0 ≡ 0 → ⊥) → d ≡ 0 → element_slots s d at ≡ []
  unfolding element_slots slots
  element_flat zero e z = rw (tree_flat s at none e) (append-nil _ ∙ copies_nothing (passes longest_payload (count_as (get_or s at 0))))
  element_flat (suc d) e z = absurd (omega arith)

  -- the numbers as the code reads them: the repeat count r, how often the element is passed, and how many inner elements it has
  module _ (d r n k : ℕ) (re : r ≡ get_or s (at + 0) 0) (ne : n ≡ passes longest_payload (count_as r)) (ke : k ≡ get_or s (at + 1) 0) where
    times_at : passes longest_payload (count_as (get_or s at 0)) ≡ n
    times_at =
        ap (λ (m : ℕ). passes longest_payload (count_as (get_or s m 0))) (sym (add-zero at)) ∙ sym (ne ∙ ap (λ (m : ℕ). passes longest_payload (count_as m)) re)

    pub as-channel : (x : ℕ) → x ≡ get_or s (at + 2) 0 → k ≡ 0 → element_slots s d at ≡ record { channel = x; octets = n } ∷ []
    as-channel x e z = element-channel d (sym ke ∙ z) ∙ ap₂ (λ (u v : ℕ). record { channel = u; octets = v } ∷ []) (sym e) times_at

    pub as_flat : (k ≡ 0 → ⊥) → d ≡ 0 → element_slots s d at ≡ []
    as_flat z e = element_flat d (λ h. z (ke ∙ h)) e

    pub as_inner : (k ≡ 0 → ⊥) → (d ≡ 0 → ⊥) → element_slots s d at ≡ copies n (list_slots s (d - 1) k (at + 2))
    as_inner z e =
        element_inner d (λ h. z (ke ∙ h)) e ∙ ap₂ (λ (u v : ℕ). copies u (list_slots s (d - 1) v (at + 2))) times_at (sym ke)

    pub inner_inside : (k ≡ 0 → ⊥) → at + 1 < length s
    inner_inside z = number_inside s (at + 1) (λ h. z (ke ∙ h))

-- ---- what a loop has still to pass

list_more : (s : List ℕ) (d n at : ℕ) → (n ≡ 0 → ⊥) → list_slots s d n at ≡ element_slots s d at ++ list_slots s d (n - 1) (skip s d at)
unfolding list_slots element_slots
list_more s d n at z =
    ap (slots longest_payload) (tree_first s d n at z) ∙ element-before longest_payload s d at (list_as s d (n - 1) (skip s d at))

copies_more : (n : ℕ) (l : List Slot) → (n ≡ 0 → ⊥) → copies n l ≡ l ++ copies (n - 1) l
unfolding copies
copies_more zero l z = absurd (z refl)
copies_more (suc n) l z = rw (sub-one (suc n))

module _ (n t : ℕ) where
  turn_more : t < n → n - t - 1 ≡ n - (t + 1)
  turn_more h = omega arith

  turn_last : n ≤ t → n - t ≡ 0
  turn_last h = omega arith

  pub list_rest : (s : List ℕ) (d at to : ℕ) → to ≡ skip s d at → t < n → list_slots s d (n - t) at ≡ element_slots s d at ++ list_slots s d (n - (t + 1)) to
  list_rest s d at to e h =
      list_more s d (n - t) at (λ z. omega arith) ∙ ap₂ (λ (m p : ℕ). element_slots s d at ++ list_slots s d m p) (turn_more h) (sym e)

  pub list_done : (s : List ℕ) (d at : ℕ) → n ≤ t → list_slots s d (n - t) at ≡ []
  unfolding list_slots slots
  list_done s d at h = rw (tree-none s d (n - t) at (turn_last h))

  pub copies_rest : (l : List Slot) → t < n → copies (n - t) l ≡ l ++ copies (n - (t + 1)) l
  copies_rest l h = copies_more (n - t) l (λ z. omega arith) ∙ ap (λ (m : ℕ). l ++ copies m l) (turn_more h)

  pub copies_done : (l : List Slot) → n ≤ t → copies (n - t) l ≡ []
  unfolding copies
  copies_done l h = rw (turn_last h)

pub copies_idle : (n : ℕ) (l : List Slot) → l ≡ [] → copies n l ≡ []
copies_idle n l e = rw e (copies_nothing n)

-- ---- an element without a slot

many_bad : (one : ℕ → ℕ → Option Cursor) (n at left : ℕ) → (n ≡ 0 → ⊥) → one at left ≡ None → many one n at left ≡ None
unfolding many
many_bad one zero at left z e = absurd (z refl)
many_bad one (suc n) at left z e = rw e

module _ (s : List ℕ) where
  -- the numbers of an element that is no channel
  by_head : (at left least : ℕ) → (get_or s (at + 1) 0 ≡ 0 → ⊥) → (P : Option Head → Type 0) → P None → P (Some (Inner (get_or s (at + 1) 0) (cursor (at + 2) (left - 1))))
      → P (head_at s at left least)
  by_head at left least e P p q = go (head_at s at left least) (head_is s at left least)
    where
      go : (h : Option Head) → HeadIs s at left least h → P h
      go None is_malformed = p
      go (Some (Channel r)) (is-channel g z) = absurd (e z)
      go (Some (Inner n r)) (is_inner g w) = q

  no-channel : (d at : ℕ) → element_slots s d at ≡ [] → get_or s (at + 1) 0 ≡ 0 → ⊥
  no-channel d at e z =
      let u = element-channel s at d z in
      never (cc)

  first_empty : (d at : ℕ) → element_slots s (suc d) at ≡ [] → element_slots s d (at + 2) ≡ []
  first_empty d at e =
      let z = no-channel (suc d) at e in
      let n = get_or s (at + 1) 0 in
      let u = sym (rw (sub-one (suc d)) at (element_inner s at (suc d) z (λ k. omega arith))) ∙ e in
      let v =
      (append-eq-nil_iff.0 (sym (copies_more (passes longest_payload (count_as (get_or s at 0))) (list_slots s d n (at + 2)) (λ k. omega (arith, passes_most (get_or s at 0)))) ∙ u)).0 in
      (append-eq-nil_iff.0 (sym (list_more s d n (at + 2) z) ∙ v)).0

  empty_bad : (d at left least : ℕ) → element_slots s d at ≡ [] → element_at s d at left least ≡ None
  unfolding element_at
  empty_bad zero at left least e = by_head at left least (no-channel zero at e) (λ (h : Option Head). on_head (λ n a l. None) h ≡ None) refl refl
  empty_bad (suc d) at left least e =
      by_head at left least (no-channel (suc d) at e) (λ (h : Option Head). on_head (many (λ a l. element_at s d a l 1)) h ≡ None) refl
      (many_bad (λ a l. element_at s d a l 1) (get_or s (at + 1) 0) (at + 2) (left - 1) (no-channel (suc d) at e)
      (empty_bad d (at + 2) (left - 1) 1 (first_empty d at e)))

  empty_stays : (d at : ℕ) → element_slots s d at ≡ [] → skip s d at ≡ at
  unfolding skip
  empty_stays d at e = rw (empty_bad d at most_elements 0 e)

  empty-list : (d n at : ℕ) → element_slots s d at ≡ [] → skip s d at ≡ at → list_slots s d n at ≡ []
  empty-list d zero at e k = list_done 0 0 s d at (omega arith)
  empty-list d (suc n) at e k = list_more s d (suc n) at (λ z. omega arith) ∙ rw (e, k, sub-one (suc n)) (empty-list d n at e k)

  pub list_idle : (d n at : ℕ) → element_slots s d at ≡ [] → list_slots s d n (skip s d at) ≡ []
  list_idle d n at e = rw (empty_stays d at e) (empty-list d n at e (empty_stays d at e))
