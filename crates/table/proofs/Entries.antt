-- The table's entries, and replacing one, in each case that the code tells apart.
--
--   entry_fixed, entry_put          entry 0, and another
--   defined-not, defined_fixed, defined_put   whether there is one: not over 15, always at 0, else by its first number
--   defined          .. all three
--   replaced-none, replaced_done   replacing one that there is not, and one that is
--   entry-fits, entry_short         an entry has at most the numbers for which there is room in the table
--
-- Assumes nothing.
use mathlib.Core.Path.{◌≡◌, refl, ap, ◌∙◌}
use mathlib.Core.Bool.{true, false, not}
use mathlib.Core.List.{List}
use Prim.Native.Nat.{ℕ, zero, suc, ◌-◌, ◌*◌, ◌≤◌, ◌<◌}
use native.Mathlib.Nat.{add-zero}
use native.Mathlib.Numerals.{sub-one}
use native.Mathlib.Omega.{arith}
use borrow.Author.Tests.{lt-ltb, le-ltb, le-leb, lt-leb, ne_eqb}
use lib.Dec.{eqb}
use lib.ListN.{length, get_or, take, drop}
use lib.Seq.{get_or-take, get_or-drop}
use Rattle.calls.specs.Refusal.{leaving, refusing}
use Rattle.table.specs.Entry.{Elements, is_entry_tree, numbers}
use Rattle.table.specs.Form.{tree_of, is_entry}
use Rattle.table.specs.Table.{highest_code, longest_entry, fixed_entry, entry_of, is_defined, with_entry, replaced}
use Rattle.table.proofs.Parts.{entry_is, numbers_most}
use Rattle.table.proofs.Joining.{entry_tree}

module _ (t : List ℕ) (c : ℕ) where
  pub entry_fixed : c ≡ 0 → entry_of t c ≡ fixed_entry
  unfolding entry_of
  entry_fixed e = rw e

  pub defined-not : highest_code < c → is_defined t c ≡ false
  unfolding is_defined
  defined-not h = rw (lt-leb _ _ h)

  pub defined_fixed : c ≡ 0 → is_defined t c ≡ true
  unfolding is_defined entry_of
  defined_fixed e = rw e

  module _ (s : List ℕ) where
    pub replaced-none : highest_code < c → replaced t c s ≡ refusing t 4
    unfolding replaced
    replaced-none h = rw (lt-ltb _ _ h)

    pub replaced_done : c ≤ highest_code → (c ≡ 0 → ⊥) → is_entry s ≡ true → replaced t c s ≡ leaving tt (with_entry t c s)
    unfolding replaced
    replaced_done low put e = rw (le-ltb _ _ low, ne_eqb _ _ put, e)

pub entry_put : (t : List ℕ) (c : ℕ) → (c ≡ 0 → ⊥) → entry_of t c ≡ take longest_entry (drop (longest_entry * (c - 1)) t)
unfolding entry_of
entry_put t zero z = absurd (z refl)
entry_put t (suc c) z = rw (sub-one (suc c))

pub defined_put : (t : List ℕ) (c : ℕ) → c ≤ highest_code → (c ≡ 0 → ⊥) → is_defined t c ≡ not (eqb (get_or t (longest_entry * (c - 1)) 0) 0)
unfolding is_defined
defined_put t c h z =
    let k = longest_entry * (c - 1) in
    let e : get_or (take longest_entry (drop k t)) 0 0 ≡ get_or t k 0 =
    get_or-take longest_entry (drop k t) 0 0 (omega arith) ∙ get_or-drop k t 0 0 ∙ ap (λ (n : ℕ). get_or t n 0) (add-zero k) in
    rw (le-leb _ _ h, entry_put t c z, e)

pub ruleset defined = (defined-not, defined_fixed, defined_put)

pub entry-fits : (l : Elements) → is_entry_tree l ≡ true → length (numbers l) ≤ longest_entry
entry-fits l e = omega (arith, (entry_is l e).few, numbers_most l)

pub entry_short : (s : List ℕ) → is_entry s ≡ true → length s ≤ longest_entry
entry_short s e = let t = entry_tree s e in omega (arith, entry-fits (tree_of s) t.0, ap (λ (u : List ℕ). length u) t.1)
