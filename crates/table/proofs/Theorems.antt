-- The claims of specs/Claims.antt; and what a code is that has an entry.
--
--   numbers_read, slots_are_those, is_entry_exactly, entry_fits, finite_or_closing, closing_takes_all, finite_exactly, slots_in_turn, slots_are, fixed_is, defined_exactly,
--   fresh_entries, replaced_entries, replaced_unique, laid_unique, fresh_has_none, octets_in_turn, refusal_leaves, replaced_keeps, others_stay,
--   replaced_is_read, passes_are, cut_front   the claims
--   defined_most     a code that has an entry is at most the highest
--
-- Assumes nothing.
use mathlib.Core.Path.{◌≡◌, refl, sym, ap, ap₂, subst, ◌∙◌}
use mathlib.Core.Bool.{Bool, true, false, not}
use mathlib.Core.List.{List, [], ◌++◌}
use Prim.Native.Nat.{ℕ, zero, suc, ◌-◌, ◌*◌, ◌≤◌}
use native.Mathlib.Omega.{arith}
use native.Mathlib.Decide.{dec_le}
use borrow.Author.Tests.{le-leb, eq-eqb, ne_eqb, eqb-true, eqb-false, leb-true, ltb-false, not-false}
use lib.Dec.{eqb, leb, ltb}
use lib.ListN.{length, get_or, drop, replicate, length-replicate}
use Rattle.octets.specs.Tests.{both_true}
use Rattle.octets.specs.Written.{written-length}
use Rattle.calls.specs.Refusal.{Ended, leaving, refusing}
use Rattle.calls.proofs.Laws.{told-refused, leaving-same, by_tests, checked_leaves, checked_keeps, both_say-once}
use Rattle.table.specs.Entry.{Elements, size, all_elements, depth, is_list, is_entry_tree, element_numbers, numbers, fixed_tree}
use Rattle.table.specs.Form.{tree_of, is_entry}
use Rattle.table.specs.Slots.{Slot, slots, entry_slots, payload_slots}
use Rattle.table.specs.Table.{entry_of, highest_code, longest_entry, is_defined, HasEntry, Entries, replace_tests, replaced, table_numbers, with_entry}
use Rattle.table.specs.Claims.{
  NumbersRead,
  SlotsAreThose,
  IsEntryExactly,
  EntryFits,
  FiniteOrClosing,
  ClosingTakesAll,
  FiniteExactly,
  SlotsInTurn,
  SlotsAre,
  DefinedExactly,
  FixedIs,
  FreshEntries,
  ReplacedEntries,
  ReplacedUnique,
  LaidUnique,
  ReplacedKeeps,
  RefusalLeaves,
  ReplacedIsRead,
  OthersStay,
  FreshHasNone,
  OctetsInTurn,
  PassesAre,
  CutFront,
}
use Rattle.table.proofs.Cutting.{channels-cut}
use Rattle.table.proofs.Joining.{numbers-read, is-entry, entry_tree}
use Rattle.table.proofs.Parts.{entry_some}
use Rattle.table.proofs.Allowed.{defined-exactly}
use Rattle.table.proofs.Apart.{slots-in_turn, slots-are, passes-are, cut-front}
use Rattle.table.proofs.Closing.{finite-or_closing, closing_takes, finite-exactly}
use Rattle.table.proofs.Entries.{entry_fixed, defined-not, defined_fixed, defined_put, entry-fits, entry_short}
use Rattle.table.proofs.Placed.{with_entry_front, with_entry_other}

-- ---- entries

pub numbers_read : NumbersRead
numbers_read = numbers-read

pub slots_are_those : SlotsAreThose
unfolding payload_slots
slots_are_those l rest n e = ap (λ (k : Elements). entry_slots k n) (numbers-read l rest e)

pub is_entry_exactly : IsEntryExactly
is_entry_exactly s = (λ e. (tree_of s, (entry_tree s e).0, (entry_tree s e).1), λ p. ap is_entry (sym p.2) ∙ is-entry p.0 p.1)

pub entry_fits : EntryFits
entry_fits = entry-fits

pub finite_or_closing : FiniteOrClosing
finite_or_closing = finite-or_closing

pub closing_takes_all : ClosingTakesAll
closing_takes_all = closing_takes

pub finite_exactly : FiniteExactly
finite_exactly = finite-exactly

pub slots_in_turn : SlotsInTurn
slots_in_turn = slots-in_turn

pub passes_are : PassesAre
passes_are = passes-are

pub cut_front : (n : ℕ) (x : Slot) (l : List Slot) → CutFront n x l
cut_front = cut-front

pub fixed_is : FixedIs
unfolding size all_elements depth is_list is_entry_tree element_numbers entry_of is_defined
fixed_is t = (refl, refl, refl)

pub defined_exactly : DefinedExactly
defined_exactly = defined-exactly

pub slots_are : SlotsAre
slots_are = slots-are

-- ---- any two answers are equal

pub replaced_unique : ReplacedUnique
replaced_unique t s after left c r q p o = both_say-once r q after left (replaced t c s) p o

pub laid_unique : LaidUnique
laid_unique from r q new c l c₁ l₁ c₂ l₂ p o = (
  ap₂ (λ (a b : ℕ). record { count = a; left = b }) (p.count ∙ sym o.count) (p.left ∙ sym o.left),
  p.channels ∙ sym o.channels,
  p.lengths ∙ sym o.lengths,
)

-- ---- a fresh table

zeros : (n k : ℕ) → get_or {A = ℕ} (replicate n 0) k 0 ≡ 0
zeros zero k = refl
zeros (suc n) zero = refl
zeros (suc n) (suc k) = zeros n k

pub fresh_has_none : FreshHasNone
fresh_has_none n c = go (dec_le c highest_code) c refl
  where
    go : Dec (c ≤ highest_code) → (d : ℕ) → c ≡ d → is_defined (replicate n 0) c ≡ eqb c 0
    go (no h) d e = defined-not (replicate n 0) c (omega arith) ∙ sym (ne_eqb c 0 (λ z. omega arith))
    go (yes h) zero e = defined_fixed (replicate n 0) c e ∙ sym (eq-eqb c 0 e)
    go (yes h) (suc d) e =
        let z : c ≡ 0 → ⊥ = λ z. omega arith in
        defined_put (replicate n 0) c h z ∙ (rw (zeros n (longest_entry * (c - 1)), ne_eqb c 0 z))

-- ---- the channels of octets

pub octets_in_turn : OctetsInTurn
unfolding payload_slots
octets_in_turn s n = channels-cut n (slots n (tree_of s))

-- ---- replacing

pub refusal_leaves : RefusalLeaves
unfolding replaced
refusal_leaves t s after c k e =
    ap (λ (r : Ended (Unit {0}) (List ℕ)). r.left) e
    ∙ checked_leaves t (replace_tests c s) tt (with_entry t c s) k (sym (ap (λ (r : Ended (Unit {0}) (List ℕ)). r.answer) e))

-- what holds of a table, and of one into which an entry was put
replaced-keeps : (P : List ℕ → Type 0) (t s : List ℕ) (c : ℕ) → P t → (1 ≤ c → c ≤ highest_code → is_entry s ≡ true → P (with_entry t c s)) → P (replaced t c s).left
unfolding replaced
replaced-keeps P t s c p q =
    checked_keeps t (replace_tests c s) P (leaving tt (with_entry t c s)) p
    (λ none.
    let some = eqb-false c 0 none.1.0 in
    q (omega arith) (ltb-false highest_code c none.0) (not-false (is_entry s) none.1.1.0))

put-length : (t s : List ℕ) (c : ℕ) → length t ≡ table_numbers → 1 ≤ c → c ≤ highest_code → is_entry s ≡ true → length (with_entry t c s) ≡ table_numbers
put-length t s c e some low p = let short = entry_short s p in written-length t (longest_entry * (c - 1)) s (omega arith) ∙ e

pub replaced_keeps : ReplacedKeeps
replaced_keeps t s c e = replaced-keeps (λ (l : List ℕ). length l ≡ table_numbers) t s c e (put-length t s c e)

pub defined_most : (t : List ℕ) (c : ℕ) → is_defined t c ≡ true → c ≤ highest_code
unfolding is_defined
defined_most t c e = leb-true _ _ (both_true (leb c highest_code) _ e).0

others_put : (t s : List ℕ) (c d : ℕ) → length t ≡ table_numbers → 1 ≤ c → c ≤ highest_code → is_entry s ≡ true → (d ≡ c → ⊥)
    → entry_of (with_entry t c s) d ≡ entry_of t d
others_put t s c d size some low e n = with_entry_other t s c size some low (entry_short s e) d n

-- the entry that was put, and what stands behind it
put_front : (t s : List ℕ) (c : ℕ) → length t ≡ table_numbers → 1 ≤ c → c ≤ highest_code → is_entry s ≡ true
    → entry_of (with_entry t c s) c ≡ numbers (tree_of s) ++ drop (length s) (entry_of (with_entry t c s) c)
put_front t s c long some low e =
    let u = entry_of (with_entry t c s) c in
    with_entry_front t s c long some low (entry_short s e) ∙ ap (λ (v : List ℕ). v ++ drop (length s) u) (sym (entry_tree s e).1)

put_read : (t s : List ℕ) (c : ℕ) → length t ≡ table_numbers → 1 ≤ c → c ≤ highest_code → is_entry s ≡ true
    → (is_defined (with_entry t c s) c ≡ true) × (tree_of (entry_of (with_entry t c s) c) ≡ tree_of s)
unfolding is_defined
put_read t s c long some low e =
    let p = (entry_tree s e).0 in
    let f = put_front t s c long some low e in
    let n = entry_some (tree_of s) p in (
      rw (le-leb _ _ low, f, ne_eqb (size (tree_of s)) 0 (λ z. omega arith)),
      ap tree_of f ∙ numbers-read (tree_of s) (drop (length s) (entry_of (with_entry t c s) c)) p,
    )

-- what was accepted, and the table that it leaves
record Accepted (t s u : List ℕ) (c : ℕ) : Type 0 where
  some : 1 ≤ c
  low : c ≤ highest_code
  is : is_entry s ≡ true
  left : with_entry t c s ≡ u

accepted : (t s u : List ℕ) (c : ℕ) → replaced t c s ≡ leaving tt u → Accepted t s u c
unfolding replaced
accepted t s u c =
    by_tests (λ (r : Ended (Unit {0}) (List ℕ)). r ≡ leaving tt u → Accepted t s u c) (refusing t) (replace_tests c s) (leaving tt (with_entry t c s))
    (λ k e. told-refused (ap (λ (r : Ended (Unit {0}) (List ℕ)). r.answer) e) refl)
    (λ none e.
    let far : ltb highest_code c ≡ false = search none in
    let fixed : eqb c 0 ≡ false = search none in
    let bad : not (is_entry s) ≡ false = search none in
    record {
      some = omega (arith, eqb-false c 0 fixed);
      low = ltb-false highest_code c far;
      is = not-false (is_entry s) bad;
      left = (leaving-same tt tt (with_entry t c s) u e).1;
    })

pub replaced_is_read : ReplacedIsRead
replaced_is_read t s u c long e =
    let a = accepted t s u c e in
    subst (λ (v : List ℕ). (is_defined v c ≡ true) × (tree_of (entry_of v c) ≡ tree_of s)) a.left (put_read t s c long a.some a.low a.is)

pub others_stay : OthersStay
others_stay t s u c d long e n =
    let a = accepted t s u c e in
    ap (λ (v : List ℕ). entry_of v d) (sym a.left) ∙ others_put t s c d long a.some a.low a.is n

-- ---- tables

pub fresh_entries : FreshEntries
unfolding size all_elements depth is_list is_entry_tree element_numbers
fresh_entries = record {
  long = length-replicate {A = ℕ} table_numbers 0;
  each = λ c e. (
    fixed_tree,
    [],
    refl,
    entry_fixed (replicate table_numbers 0) c (eqb-true c 0 (sym (fresh_has_none table_numbers c) ∙ e)),
  );
}

pub replaced_entries : ReplacedEntries
unfolding is_defined
replaced_entries t s c h =
    replaced-keeps Entries t s c h (λ some low e. record {
      long = put-length t s c h.long some low e;
      each = λ d p. each some low e d p (eqb d c) refl;
    })
  where
    each : 1 ≤ c → c ≤ highest_code → is_entry s ≡ true → (d : ℕ) → is_defined (with_entry t c s) d ≡ true → (b : Bool) → eqb d c ≡ b → HasEntry (entry_of (with_entry t c s) d)
    each some low e d p true q =
        rw (eqb-true d c q) (tree_of s, drop (length s) (entry_of (with_entry t c s) c), (entry_tree s e).0, put_front t s c h.long some low e)
    each some low e d p false q =
        let o = others_put t s c d h.long some low e (eqb-false d c q) in
        rw o (h.each d (rw o at p))
