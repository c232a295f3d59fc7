-- The multiplex table (document 01, "Multiplex table"): entry 0 is fixed, the others stand one behind another in a lent array.
--
--   fixed_entry      entry 0: channel 0 until closing
--   highest_code     the last code that may have an entry
--   longest_entry    the numbers for which an entry has room in the array: no entry has more (the claim EntryFits)
--   table_numbers    how many numbers the array has: that room at each code but 0
--   longest_payload  the octets of the longest payload
--   entry_of t c     the numbers of entry c of table t; it has more behind them where the entry is shorter
--   is_defined t c   there is an entry c: one that was never put has no elements
--   HasEntry u      the numbers u begin with those of an entry
--   Entries t       t has entries alone: it has its length, and at each code that is defined stand an entry's numbers
--   with_entry t c s  the table with s as its entry c
--   replace_tests c s what refuses that, in this order
--   replaced t c s  how replacing entry c by s ends
--
-- Assumes nothing.
use Rattle.std.specs.Prelude.{◌≡◌, Bool, true, not, ◌&&◌, List, [], ◌∷◌, ◌++◌, ℕ, zero, suc, ◌-◌, ◌*◌, leb, ltb, eqb, length, get_or, take, drop}
use Rattle.octets.specs.Written.{written}
use Rattle.calls.specs.Refusal.{Ended, leaving, refusing, Test, ◌when◌, checked}
use Rattle.table.specs.Entry.{Elements, is_entry_tree, numbers}
use Rattle.table.specs.Form.{is_entry}

abbrev pub fixed_entry : List ℕ
fixed_entry = 1 ∷ 0 ∷ 0 ∷ 0 ∷ []

abbrev pub highest_code : ℕ
highest_code = 15

abbrev pub longest_entry : ℕ
longest_entry = 97

abbrev pub table_numbers : ℕ
table_numbers = highest_code * longest_entry

abbrev pub longest_payload : ℕ
longest_payload = 255

unfoldable pub entry_of : List ℕ → ℕ → List ℕ
entry_of t zero = fixed_entry
entry_of t (suc k) = take longest_entry (drop (longest_entry * k) t)

unfoldable pub is_defined : List ℕ → ℕ → Bool
is_defined t c = leb c highest_code && not (eqb (get_or (entry_of t c) 0 0) 0)

abbrev pub HasEntry : List ℕ → Type 0
HasEntry u = (l : Elements) × (rest : List ℕ) × (is_entry_tree l ≡ true) × (u ≡ numbers l ++ rest)

pub record Entries (t : List ℕ) : Type 0 where
  pub long : length t ≡ table_numbers
  pub each : (c : ℕ) → is_defined t c ≡ true → HasEntry (entry_of t c)

abbrev pub with_entry : List ℕ → ℕ → List ℕ → List ℕ
with_entry t c s = written t (longest_entry * (c - 1)) s

abbrev pub replace_tests : ℕ → List ℕ → List Test
replace_tests c s = 4 when ltb highest_code c ∷ 14 when eqb c 0 ∷ 10 when not (is_entry s) ∷ []

unfoldable pub replaced : List ℕ → ℕ → List ℕ → Ended (Unit {0}) (List ℕ)
replaced t c s = checked (refusing t) (replace_tests c s) (leaving tt (with_entry t c s))
