-- What is claimed of the multiplex table, over every table, code and entry; proofs/Theorems.antt proves each claim.
--
--   NumbersRead        an entry's numbers, whatever stands behind them, are read as that entry
--   SlotsAreThose      .. and a payload's slots under those numbers are those of the entry
--   IsEntryExactly     numbers are an entry exactly where they are those of some entry
--   EntryFits          an entry has at most the numbers for which there is room in the table
--   FiniteOrClosing    an entry is finite, or its last element repeats until closing
--   ClosingTakesAll    one that ends until closing takes every payload
--   FiniteExactly      a payload has more octets than its entry exactly where that is finite and has fewer
--   SlotsInTurn        a channel element is one slot, before those of the elements behind it; an inner list's slots are those of each of its passes,
--                      one pass behind another, whatever its count: none are joined
--   PassesAre          an element is passed as often as its count says; until closing is once for each octet of the payload
--   NumbersInTurn      the channels of slots are those of each slot, in turn
--   SlotsAre           a payload's slots are the entry's, cut to its octets
--   CutFront n x l     .. and a cut leaves slots in their turn: one that n octets fill is there whole, the one in which they end is the
--                      last, with the octets that are left, and none are joined
--   FixedIs            entry 0 is channel 0 until closing, and defined, whatever else the table has
--   DefinedExactly     a code has an entry exactly where it is at most 15 and the numbers at its place have elements
--   FreshEntries       a fresh table has an entry's numbers at each code that is defined
--   ReplacedEntries    .. and so has one in which an entry was replaced, or not
--   ReplacedUnique     any two answers that replacing's promise allows are equal, the table included
--   LaidUnique         .. and any two that laying slots down does, both lists included
--   ReplacedKeeps      the table keeps its length
--   RefusalLeaves      a refusal leaves the table as it came
--   ReplacedIsRead     an entry that was accepted is there then, and is the one whose numbers were handed over
--   OthersStay         .. and the other entries are as they were
--   FreshHasNone       a table of zeros has entry 0 and no other
--   OctetsInTurn       payload octet k is the k-th channel's of the entry's expansion
--
-- Assumes nothing.
use Rattle.std.specs.Prelude.{◌≡◌, ◌↔◌, true, not, List, [], ◌∷◌, ◌++◌, ℕ, suc, ◌-◌, ◌≤◌, ◌<◌, eqb, length, replicate, take, get_or, Result}
use Rattle.calls.specs.declared.Refusal.{Refusal}
use Rattle.calls.specs.Refusal.{refused, ended, leaving, says}
use Rattle.table.specs.declared.walk.Laid.{Laid}
use Rattle.table.specs.Entry.{Count, times, none, until_closing, Elements, channel, list, is_entry_tree, numbers, is_finite, is_closing, octets_in}
use Rattle.table.specs.Form.{tree_of, is_entry}
use Rattle.table.specs.Slots.{Slot, passes, copies, slots, cut, entry_slots, payload_slots, octets_of, numbers_of, channels_of}
use Rattle.table.specs.Table.{longest_entry, table_numbers, entry_of, is_defined, Entries, replaced}
use Rattle.table.specs.Lays.{Lays}

-- ---- entries

abbrev pub NumbersRead : Type 0
NumbersRead = (l : Elements) (rest : List ℕ) → is_entry_tree l ≡ true → tree_of (numbers l ++ rest) ≡ l

abbrev pub SlotsAreThose : Type 0
SlotsAreThose = (l : Elements) (rest : List ℕ) (n : ℕ) → is_entry_tree l ≡ true → payload_slots (numbers l ++ rest) n ≡ entry_slots l n

abbrev pub IsEntryExactly : Type 0
IsEntryExactly = (s : List ℕ) → is_entry s ≡ true ↔ ((l : Elements) × (is_entry_tree l ≡ true) × (numbers l ≡ s))

abbrev pub EntryFits : Type 0
EntryFits = (l : Elements) → is_entry_tree l ≡ true → length (numbers l) ≤ longest_entry

abbrev pub FiniteOrClosing : Type 0
FiniteOrClosing = (l : Elements) → is_entry_tree l ≡ true → is_finite l ≡ not (is_closing l)

abbrev pub ClosingTakesAll : Type 0
ClosingTakesAll = (l : Elements) (n : ℕ) → is_entry_tree l ≡ true → is_closing l ≡ true → octets_of (entry_slots l n) ≡ n

abbrev pub FiniteExactly : Type 0
FiniteExactly = (l : Elements) (n : ℕ) → is_entry_tree l ≡ true → octets_of (entry_slots l n) < n ↔ ((is_finite l ≡ true) × (octets_in l < n))

abbrev pub SlotsInTurn : Type 0
SlotsInTurn =
    (n k c : ℕ) (r : Count) (i l : Elements) (s : List Slot) → (slots n (channel r c l) ≡ record { channel = c; octets = passes n r } ∷ slots n l)
    × (slots n (list r i l) ≡ copies (passes n r) (slots n i) ++ slots n l) × (slots n none ≡ []) × (copies (suc k) s ≡ s ++ copies k s) × (copies 0 s ≡ [])

abbrev pub PassesAre : Type 0
PassesAre = (n k : ℕ) → (passes n (times k) ≡ k) × (passes n until_closing ≡ n)

pub record CutFront (n : ℕ) (x : Slot) (l : List Slot) : Type 0 where
  pub whole : 1 ≤ n → x.octets ≤ n → cut n (x ∷ l) ≡ x ∷ cut (n - x.octets) l
  pub short : 1 ≤ n → n < x.octets → cut n (x ∷ l) ≡ record { channel = x.channel; octets = n } ∷ []
  pub none : cut 0 (x ∷ l) ≡ []

abbrev pub FixedIs : Type 0
FixedIs =
    (t : List ℕ) → (is_entry_tree (channel until_closing 0 none) ≡ true) × (entry_of t 0 ≡ numbers (channel until_closing 0 none)) × (is_defined t 0 ≡ true)

abbrev pub DefinedExactly : Type 0
DefinedExactly = (t : List ℕ) (c : ℕ) → is_defined t c ≡ true ↔ ((c ≤ 15) × (get_or (entry_of t c) 0 0 ≡ 0 → ⊥))

abbrev pub NumbersInTurn : Type 0
NumbersInTurn = (x : Slot) (l : List Slot) → (numbers_of [] ≡ []) × (numbers_of (x ∷ l) ≡ x.channel ∷ numbers_of l)

abbrev pub SlotsAre : Type 0
SlotsAre = (l : Elements) (s : List ℕ) (n : ℕ) → (entry_slots l n ≡ cut n (slots n l)) × (payload_slots s n ≡ cut n (slots n (tree_of s))) × (cut n [] ≡ [])

-- ---- tables

abbrev pub FreshEntries : Type 0
FreshEntries = Entries (replicate table_numbers 0)

abbrev pub ReplacedEntries : Type 0
ReplacedEntries = (t s : List ℕ) (c : ℕ) → Entries t → Entries (replaced t c s).left

abbrev pub ReplacedUnique : Type 0
ReplacedUnique =
    (t s after left : List ℕ) (c : ℕ) (r q : Result (Unit {0}) Refusal) → ended (says r) after ≡ replaced t c s → ended (says q) left ≡ replaced t c s
    → (r ≡ q) × (after ≡ left)

abbrev pub LaidUnique : Type 0
LaidUnique =
    (from r q : Laid) (new : List Slot) (c l c₁ l₁ c₂ l₂ : List ℕ) → Lays from new r c l c₁ l₁ → Lays from new q c l c₂ l₂
    → (r ≡ q) × (c₁ ≡ c₂) × (l₁ ≡ l₂)

abbrev pub ReplacedKeeps : Type 0
ReplacedKeeps = (t s : List ℕ) (c : ℕ) → length t ≡ table_numbers → length (replaced t c s).left ≡ table_numbers

abbrev pub RefusalLeaves : Type 0
RefusalLeaves = (t s after : List ℕ) (c k : ℕ) → ended (refused k) after ≡ replaced t c s → after ≡ t

abbrev pub ReplacedIsRead : Type 0
ReplacedIsRead =
    (t s u : List ℕ) (c : ℕ) → length t ≡ table_numbers → replaced t c s ≡ leaving tt u → (is_defined u c ≡ true) × (tree_of (entry_of u c) ≡ tree_of s)

abbrev pub OthersStay : Type 0
OthersStay = (t s u : List ℕ) (c d : ℕ) → length t ≡ table_numbers → replaced t c s ≡ leaving tt u → (d ≡ c → ⊥) → entry_of u d ≡ entry_of t d

abbrev pub FreshHasNone : Type 0
FreshHasNone = (n c : ℕ) → is_defined (replicate n 0) c ≡ eqb c 0

abbrev pub OctetsInTurn : Type 0
OctetsInTurn = (s : List ℕ) (n : ℕ) → channels_of (payload_slots s n) ≡ take n (channels_of (slots n (tree_of s)))
