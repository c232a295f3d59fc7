-- The code's reading and the trees: numbers are read exactly where they are those of an entry.
--
--   numbers-read     an entry's numbers, whatever stands behind them, are read as that entry
--   is-entry, entry_tree   numbers are an entry exactly where they are those of some entry
--   reads_entry      what the code reads as an entry is one, and no more
--
-- Assumes nothing.
use mathlib.Core.Path.{◌≡◌, refl, sym, ap, ap₂, ◌∙◌}
use mathlib.Core.Bool.{Bool, true, false}
use mathlib.Core.List.{List, [], ◌∷◌, ◌++◌, append-nil}
use Prim.Native.Nat.{ℕ, suc, ◌+◌, ◌-◌, ◌≤◌}
use native.Mathlib.Omega.{arith}
use borrow.Author.Tests.{eq-eqb, eqb-true}
use lib.ListN.{length, get_or, drop}
use lib.Seq.{drop-length, drop-cons}
use Rattle.octets.specs.Tests.{both_true, never}
use Rattle.octets.specs.Same.{same, same_self, same-equal}
use Rattle.table.specs.declared.form.Cursor.{Cursor}
use Rattle.std.specs.Prelude.{Option, Some, None}
use Rattle.table.specs.Entry.{Elements, size, highest, most_elements, is_entry_tree, element_numbers, numbers}
use Rattle.table.specs.Cursor.{list_at, ends_at, entry_read, reads}
use Rattle.table.specs.Form.{tree_of, is_entry}
use Rattle.table.proofs.Parts.{entry_is, is_tree, some-none, some_size, size_elements}
use Rattle.table.proofs.Reading.{number_inside, entry_some, read_some}
use Rattle.table.proofs.Standing.{tree-reads, top-reads}
use Rattle.table.proofs.Found.{top_found}

-- ---- the tree of an entry's numbers

pub numbers-read : (l : Elements) (rest : List ℕ) → is_entry_tree l ≡ true → tree_of (numbers l ++ rest) ≡ l
unfolding tree_of
numbers-read l rest e =
    let p = entry_is l e in
    tree-reads (numbers l ++ rest) l true 2 1 rest p.sound p.shallow p.few refl

alone_read : (l : Elements) → is_entry_tree l ≡ true → tree_of (numbers l) ≡ l
alone_read l e = ap tree_of (sym (append-nil (numbers l))) ∙ numbers-read l [] e

pub is-entry : (l : Elements) → is_entry_tree l ≡ true → is_entry (numbers l) ≡ true
unfolding is_entry
is-entry l e = rw (alone_read l e, e) (same_self (numbers l))

pub entry_tree : (s : List ℕ) → is_entry s ≡ true → (is_entry_tree (tree_of s) ≡ true) × (numbers (tree_of s) ≡ s)
unfolding is_entry
entry_tree s e =
    let p = both_true (is_entry_tree (tree_of s)) (same (numbers (tree_of s)) s) e in
    (p.0, same-equal (numbers (tree_of s)) s (rw p.1 tt))

-- ---- the code's reading

entry-reads : (l : Elements) → is_entry_tree l ≡ true → reads (numbers l) ≡ true
unfolding reads list_at
entry-reads l e =
    let p = entry_is l e in
    let n = some-none l p.some in
    let s = some_size l n in
    rw (
      entry_some (numbers l) s,
      top-reads (numbers l) l 2 1 most_elements [] n p.sound p.shallow p.few (sym (append-nil (element_numbers l))),
    ) (eq-eqb (1 + length (element_numbers l)) (suc (length (element_numbers l))) (omega arith))

module _ (s : List ℕ) (known : (i : ℕ) → get_or s i 0 ≤ highest) where
  reads_tree : reads s ≡ true → is_entry s ≡ true
  unfolding reads list_at
  reads_tree e = go (entry_read s) refl e
    where
      go : (r : Option Cursor) → entry_read s ≡ r → ends_at (length s) r ≡ true → is_entry s ≡ true
      go None p q = never (cc)
      go (Some r) p q =
          let z = read_some s p in
          let f = top_found s known 2 (get_or s 0 0 - 1) 1 most_elements r.at r.left (sym (entry_some s z) ∙ p) in
          let l = f.tree in
          let n : size l ≡ get_or s 0 0 = omega (arith, f.sized) in
          let whole : s ≡ numbers l = drop-cons s 0 0 (number_inside s 0 (λ k. omega arith)) ∙ ap₂ (λ (k : ℕ) (u : List ℕ). k ∷ u) (sym n) (f.stands
          ∙ ap (λ (k : ℕ). element_numbers l ++ drop k s) (eqb-true r.at (length s) q) ∙ ap (λ (u : List ℕ). element_numbers l ++ u) (drop-length s)
          ∙ append-nil (element_numbers l)) in
          ap is_entry whole ∙ is-entry l (is_tree l (record {
            some = omega (arith, size_elements l);
            few = omega (arith, f.spent);
            shallow = f.shallow;
            sound = f.sound;
          }))

  pub reads_entry : reads s ≡ is_entry s
  reads_entry = go (reads s) refl (is_entry s) refl
    where
      go : (a : Bool) → reads s ≡ a → (b : Bool) → is_entry s ≡ b → a ≡ b
      go true p true q = refl
      go false p false q = refl
      go true p false q = let t = reads_tree p in never (cc)
      go false p true q =
          let t = entry_tree s q in
          let u = ap reads (sym t.1) ∙ entry-reads (tree_of s) t.0 in
          never (cc)
