-- Numbers that the code reads are those of a tree as the paper has it.
--
--   Found            the tree of n elements that were read: where its numbers stand, what of the budget it took, and that it is well
--   top_found        the elements of an entry, as the code reads them: the last apart
--
-- Assumes nothing.
use mathlib.Core.Path.{◌≡◌, refl, sym, ap, ap₂, ◌∙◌}
use mathlib.Core.Bool.{Bool, true, false, ◌&&◌}
use mathlib.Core.List.{List, ◌∷◌, ◌++◌, append_assoc}
use Prim.Native.Nat.{ℕ, zero, suc, ◌+◌, ◌-◌, ◌≤◌}
use native.Mathlib.Numerals.{add-one}
use native.Mathlib.Omega.{arith}
use borrow.Author.Tests.{ne_eqb, le-leb}
use lib.ListN.{length, get_or, drop}
use lib.Seq.{drop-cons}
use Rattle.octets.specs.Tests.{never}
use Rattle.table.specs.declared.form.Head.{Head}
use Rattle.table.specs.declared.form.Head.TheVariants.{Channel, Inner}
use Rattle.table.specs.declared.form.Cursor.{Cursor}
use Rattle.std.specs.Prelude.{Option, Some, None}
use Rattle.table.specs.Entry.{Elements, none, channel, list, size, all_elements, depth, is_none, highest, is_count, is_list, count_number, element_numbers}
use Rattle.table.specs.Cursor.{cursor, next, and_then, many, head_at, on_head, element_at}
use Rattle.table.specs.Form.{count_as}
use Rattle.table.proofs.Heads.{GoodNumbers, HeadIs, is_malformed, is-channel, is_inner, head_is}

pub record Found (s : List ℕ) (top : Bool) (d n at left a b : ℕ) : Type 0 where
  pub tree : Elements
  pub sized : size tree ≡ n
  pub stands : drop at s ≡ element_numbers tree ++ drop a s
  pub spent : all_elements tree + b ≡ left
  pub shallow : depth tree ≤ suc d
  pub sound : is_list top tree ≡ true

-- one element that was read: a channel; or an inner list, and what was read of it
data OneFound (s : List ℕ) (d at left least a b : ℕ) : Type 0 where
  a-channel : GoodNumbers s at left least → get_or s (at + 1) 0 ≡ 0 → a ≡ at + 3 → b ≡ left - 1 → OneFound s d at left least a b
  a-list : (e : ℕ) → d ≡ suc e → GoodNumbers s at left least → 2 ≤ get_or s (at + 1) 0
      → Found s false e (get_or s (at + 1) 0) (at + 2) (left - 1) a b → OneFound s d at left least a b

same_cursor : {x y a b : ℕ} → next x y ≡ next a b → (x ≡ a) × (y ≡ b)
same_cursor {x} {y} {a} {b} e = let c : cursor x y ≡ cursor a b = cc in (ap (λ (r : Cursor). r.at) c, ap (λ (r : Cursor). r.left) c)

-- ---- repeat counts

number_count : (k : ℕ) → count_number (count_as k) ≡ k
number_count zero = refl
number_count (suc k) = rw (ne_eqb (suc k) 0 (λ z. omega arith))

count-times : (may : Bool) (k : ℕ) → 1 ≤ k → k ≤ highest → is_count may (count_as k) ≡ true
count-times may k p q = rw (ne_eqb k 0 (λ z. omega arith), le-leb 1 k p, le-leb k highest q)

count_closing : (k : ℕ) → k ≤ highest → is_count true (count_as k) ≡ true
count_closing zero q = refl
count_closing (suc k) q = count-times true (suc k) (omega arith) q

-- ---- numbers where they stand

two_at : (s : List ℕ) (at : ℕ) → at + 2 ≤ length s → drop at s ≡ get_or s at 0 ∷ get_or s (at + 1) 0 ∷ drop (at + 2) s
two_at s at h =
    drop-cons s at 0 (omega arith)
    ∙ ap (λ (l : List ℕ). get_or s at 0 ∷ l) (ap (λ (n : ℕ). drop n s) (sym (add-one at)) ∙ drop-cons s (at + 1) 0 (omega arith)
    ∙ ap (λ (n : ℕ). get_or s (at + 1) 0 ∷ drop n s) (let e : suc (at + 1) ≡ at + 2 = omega arith in e))

three_at : (s : List ℕ) (at : ℕ) → at + 3 ≤ length s → drop at s ≡ get_or s at 0 ∷ get_or s (at + 1) 0 ∷ get_or s (at + 2) 0 ∷ drop (at + 3) s
three_at s at h =
    two_at s at (omega arith)
    ∙ ap (λ (l : List ℕ). get_or s at 0 ∷ get_or s (at + 1) 0 ∷ l) (drop-cons s (at + 2) 0 (omega arith)
    ∙ ap (λ (n : ℕ). get_or s (at + 2) 0 ∷ drop n s) (let e : suc (at + 2) ≡ at + 3 = omega arith in e))

none_found : (s : List ℕ) (top : Bool) (d at left : ℕ) → Found s top d 0 at left at left
unfolding size element_numbers all_elements depth is_list
none_found s top d at left =
    record { tree = none; sized = refl; stands = refl; spent = omega arith; shallow = omega arith; sound = refl }

module _ (s : List ℕ) (known : (i : ℕ) → get_or s i 0 ≤ highest) where
  before_found : (top : Bool) (d n at left least a b x y : ℕ) → OneFound s d at left least a b → (rest : Found s top d n a b x y)
      → is_count (top && is_none rest.tree) (count_as (get_or s at 0)) ≡ true → Found s top d (suc n) at left x y
  unfolding size element_numbers all_elements depth is_list
  before_found top d n at left least a b x y (a-channel p z e f) rest h = record {
    tree = channel (count_as (get_or s at 0)) (get_or s (at + 2) 0) rest.tree;
    sized = ap suc rest.sized;
    stands = three_at s at p.inside
        ∙ ap₂ (λ (u v : ℕ). u ∷ v ∷ get_or s (at + 2) 0 ∷ drop (at + 3) s) (sym (number_count (get_or s at 0))) z
        ∙ ap (λ (l : List ℕ). count_number (count_as (get_or s at 0)) ∷ 0 ∷ get_or s (at + 2) 0 ∷ l) (ap (λ (m : ℕ). drop m s) (sym e) ∙ rest.stands);
    spent = omega (arith, rest.spent, p.budget);
    shallow = rest.shallow;
    sound = rw (h, le-leb _ _ (known (at + 2))) rest.sound;
  }
  before_found top d n at left least a b x y (a-list e f p w i) rest h = record {
    tree = list (count_as (get_or s at 0)) i.tree rest.tree;
    sized = ap suc rest.sized;
    stands = two_at s at (omega (arith, p.inside))
        ∙ ap₂ (λ (u v : ℕ). u ∷ v ∷ drop (at + 2) s) (sym (number_count (get_or s at 0))) (sym i.sized)
        ∙ ap (λ (l : List ℕ). count_number (count_as (get_or s at 0)) ∷ size i.tree ∷ l) (i.stands ∙ ap (λ (l : List ℕ). element_numbers i.tree ++ l) rest.stands
        ∙ sym (append_assoc (element_numbers i.tree) (element_numbers rest.tree) (drop x s)));
    spent = omega (arith, i.spent, rest.spent, p.budget);
    shallow = omega (arith, i.shallow, rest.shallow);
    sound = let t : 2 ≤ size i.tree = omega (arith, i.sized) in rw (h, le-leb _ _ t, i.sound) rest.sound;
  }

  -- an element that repeats at least once, before others
  often_found : (top : Bool) (d n at left a b x y : ℕ) → OneFound s d at left 1 a b → Found s top d n a b x y → Found s top d (suc n) at left x y
  often_found top d n at left a b x y o rest =
      before_found top d n at left 1 a b x y o rest (count-times (top && is_none rest.tree) (get_or s at 0) (least_of o) (known at))
    where
      least_of : OneFound s d at left 1 a b → 1 ≤ get_or s at 0
      least_of (a-channel p z e f) = p.often
      least_of (a-list e f p w i) = p.often

  module _ (d : ℕ) (each : (at left a b : ℕ) → element_at s d at left 1 ≡ next a b → OneFound s d at left 1 a b) where
    many_found : (n at left a b : ℕ) → many (λ p q. element_at s d p q 1) n at left ≡ next a b → Found s false d n at left a b
    unfolding many
    many_found zero at left a b e = let p = same_cursor e in rw (← p.0, ← p.1) (none_found s false d at left)
    many_found (suc n) at left a b e = go (many_found n) (element_at s d at left 1) refl e
      where
        go : ((x y u v : ℕ) → many (λ p q. element_at s d p q 1) n x y ≡ next u v → Found s false d n x y u v)
            → (r : Option Cursor) → element_at s d at left 1 ≡ r → and_then r (many (λ p q. element_at s d p q 1) n) ≡ next a b → Found s false d (suc n) at left a b
        go rest None p q = never (cc)
        go rest (Some r) p q = often_found false d n at left r.at r.left a b (each at left r.at r.left p) (rest r.at r.left a b q)

  one_found : (d at left least a b : ℕ) → element_at s d at left least ≡ next a b → OneFound s d at left least a b
  unfolding element_at
  one_found zero at left least a b e = go (head_at s at left least) (head_is s at left least) e
    where
      go : (h : Option Head) → HeadIs s at left least h → on_head (λ n a l. None) h ≡ next a b → OneFound s zero at left least a b
      go None is_malformed q = never (cc)
      go (Some (Channel r)) (is-channel p z) q = let e = same_cursor q in a-channel p z (sym e.0) (sym e.1)
      go (Some (Inner n r)) (is_inner p w) q = never (cc)
  one_found (suc d) at left least a b e = go (many_found d (λ x y. one_found d x y 1)) (head_at s at left least) (head_is s at left least) e
    where
      go : ((n x y u v : ℕ) → many (λ p q. element_at s d p q 1) n x y ≡ next u v → Found s false d n x y u v)
          → (h : Option Head) → HeadIs s at left least h → on_head (many (λ p q. element_at s d p q 1)) h ≡ next a b → OneFound s (suc d) at left least a b
      go inner None is_malformed q = never (cc)
      go inner (Some (Channel r)) (is-channel p z) q = let e = same_cursor q in a-channel p z (sym e.0) (sym e.1)
      go inner (Some (Inner n r)) (is_inner p w) q = a-list d refl p w (inner (get_or s (at + 1) 0) (at + 2) (left - 1) a b q)

  pub top_found : (d n at left a b : ℕ) → and_then (many (λ p q. element_at s d p q 1) n at left) (λ p q. element_at s d p q 0) ≡ next a b
      → Found s true d (suc n) at left a b
  unfolding many none_found
  top_found d zero at left a b e =
      before_found true d 0 at left 0 a b a b (one_found d at left 0 a b e) (none_found s true d a b) (count_closing (get_or s at 0) (known at))
  top_found d (suc n) at left a b e = go (top_found d n) (element_at s d at left 1) refl e
    where
      go : ((x y u v : ℕ) → and_then (many (λ p q. element_at s d p q 1) n x y) (λ p q. element_at s d p q 0) ≡ next u v → Found s true d (suc n) x y u v)
          → (r : Option Cursor) → element_at s d at left 1 ≡ r
          → and_then (and_then r (many (λ p q. element_at s d p q 1) n)) (λ p q. element_at s d p q 0) ≡ next a b → Found s true d (suc (suc n)) at left a b
      go rest None p q = never (cc)
      go rest (Some r) p q = often_found true d (suc n) at left r.at r.left a b (one_found d at left 1 r.at r.left p) (rest r.at r.left a b q)
