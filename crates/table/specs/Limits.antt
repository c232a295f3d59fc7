-- Document 01's numbers of the multiplex table, each where it decides: what a definition changed together with its code would get
-- past, were it not said here in the paper's words.
--
--   channels k     k elements: channel 0 once, k times over
--   within k       lists to depth k + 1: two channels; and a list of the former before a channel
--   beside k       k lists of two channels, one beside another
--   counted r l       channel 0 with the count r, before the elements l
--   TreeLimits     the numbers of an entry; proofs/Allowed.antt proves it
--   TableLimits    .. and of the table; proofs/Limited.antt proves it
--
-- Assumes nothing.
use Rattle.std.specs.Prelude.{◌≡◌, ◌↔◌, true, false, List, ℕ, zero, suc, ◌≤◌, ◌<◌}
use Rattle.calls.specs.Refusal.{leaving, refusing}
use Rattle.table.specs.Entry.{Count, times, until_closing, Elements, none, channel, list, is_entry_tree}
use Rattle.table.specs.Form.{is_entry}
use Rattle.table.specs.Table.{is_defined, with_entry, replaced}

abbrev pub channels : ℕ → Elements
channels zero = none
channels (suc k) = channel (times 1) 0 (channels k)

abbrev pub within : ℕ → Elements
within zero = channels 2
within (suc k) = list (times 1) (within k) (channels 1)

abbrev pub beside : ℕ → Elements
beside zero = none
beside (suc k) = list (times 1) (channels 2) (beside k)

abbrev pub counted : Count → Elements → Elements
counted r l = channel r 0 l

pub record TreeLimits : Type 0 where
  -- 1 to 32 elements counted at every depth, lists to depth 3, an inner one of at least two elements
  pub elements : (is_entry_tree (channels 0) ≡ false) × (is_entry_tree (channels 1) ≡ true) × (is_entry_tree (channels 32) ≡ true) × (is_entry_tree (channels 33) ≡ false)
  pub every_depth : (is_entry_tree (list (times 1) (channels 2) (channels 29)) ≡ true) × (is_entry_tree (list (times 1) (channels 2) (channels 30)) ≡ false)
  pub depths : (is_entry_tree (within 2) ≡ true) × (is_entry_tree (within 3) ≡ false)
  pub inner : (is_entry_tree (list (times 1) (channels 1) none) ≡ false) × (is_entry_tree (list (times 1) (channels 2) none) ≡ true)
      × (is_entry_tree (list (times 1) (list (times 1) (channels 2) none) none) ≡ false) × (is_entry_tree (list (times 1) (channels 31) none) ≡ true)
  pub besides : is_entry_tree (beside 4) ≡ true
  -- .. with counts and channels of 0 or 1 to 65,535, until closing for the last at the top alone
  pub counts : (k : ℕ) → is_entry_tree (counted (times k) none) ≡ true ↔ ((1 ≤ k) × (k ≤ 65535))
  pub list_counts : (k : ℕ) → is_entry_tree (list (times k) (channels 2) none) ≡ true ↔ ((1 ≤ k) × (k ≤ 65535))
  pub numbers : (n : ℕ) → is_entry_tree (channel (times 1) n none) ≡ true ↔ (n ≤ 65535)
  pub closing : (is_entry_tree (counted until_closing none) ≡ true) × (is_entry_tree (list until_closing (channels 2) none) ≡ true)
      × (is_entry_tree (counted until_closing (channels 1)) ≡ false) × (is_entry_tree (list (times 1) (counted (times 1) (counted until_closing none)) none) ≡ false)
      × (is_entry_tree (list until_closing (counted (times 1) (counted until_closing none)) none) ≡ false)

pub record TableLimits : Type 0 where
  pub trees : TreeLimits
  -- entries 0 to 15: every entry is taken at 1 to 15, none past it, and there is none there
  pub taken : (t s : List ℕ) (c : ℕ) → 1 ≤ c → c ≤ 15 → is_entry s ≡ true → replaced t c s ≡ leaving tt (with_entry t c s)
  pub past : (t s : List ℕ) (c : ℕ) → 15 < c → (replaced t c s ≡ refusing t 4) × (is_defined t c ≡ false)
