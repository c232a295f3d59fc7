-- Refusal 6: a payload that is longer than a finite entry.
--
--   six_exactly         it is given exactly there
--   closing-never_six   .. and never where the entry ends until closing
--
-- Assumes nothing.
use mathlib.Core.Path.{◌≡◌, refl, ap, ◌∙◌}
use mathlib.Core.Logic.{◌↔◌}
use mathlib.Core.Bool.{Bool, true}
use mathlib.Core.List.{List, ◌++◌}
use Prim.Native.Nat.{ℕ, ◌≤◌, ◌<◌}
use native.Mathlib.Omega.{arith}
use borrow.Author.Tests.{ltb-true, lt-ltb, le-ltb}
use lib.ListN.{length}
use Rattle.calls.specs.Refusal.{Ended, refusing}
use Rattle.calls.proofs.Laws.{given_exactly, checked_refuses}
use Rattle.table.specs.Entry.{Elements, is_entry_tree, numbers, is_finite, is_closing, octets_in}
use Rattle.table.specs.Slots.{entry_slots, payload_slots, octets_of}
use Rattle.table.specs.Table.{longest_payload, entry_of, is_defined}
use Rattle.table.proofs.Laws.{slots_are_those, closing_takes_all, finite_exactly}
use Rattle.multiplex.specs.Demultiplexer.{DemuxLent, demultiplex_tests, demultiplexed}

module _ (x : DemuxLent) (t : List ℕ) (c : ℕ) (mark : Bool) (xs : List ℕ) where
  six-held : demultiplexed x t c mark xs ≡ refusing x 6 → octets_of (payload_slots (entry_of t c) (length xs)) < length xs
  unfolding demultiplexed
  six-held e =
      let l = demultiplex_tests x t c mark xs in
      ltb-true _ _ ((given_exactly 6 l refl).0 (((checked_refuses x l _ _).exactly 6).0 (ap (λ (r : Ended ℕ DemuxLent). r.answer) e))).1.1

  module _ (l : Elements) (rest : List ℕ) (tree : is_entry_tree l ≡ true) (at : entry_of t c ≡ numbers l ++ rest) where
    slots-are : octets_of (payload_slots (entry_of t c) (length xs)) ≡ octets_of (entry_slots l (length xs))
    slots-are = ap (λ (s : List ℕ). octets_of (payload_slots s (length xs))) at ∙ ap octets_of (slots_are_those l rest (length xs) tree)

    pub six_exactly : length xs ≤ longest_payload → is_defined t c ≡ true
        → demultiplexed x t c mark xs ≡ refusing x 6 ↔ ((is_finite l ≡ true) × (octets_in l < length xs))
    unfolding demultiplexed
    six_exactly short defined = (
      λ e. (finite_exactly l (length xs) tree).0 (omega (arith, six-held e, slots-are)),
      λ p.
          let h = (finite_exactly l (length xs) tree).1 p in
          let o : octets_of (payload_slots (entry_of t c) (length xs)) < length xs = omega (arith, slots-are) in
          rw (le-ltb _ _ short, defined, lt-ltb _ _ o),
    )

    pub closing-never_six : is_closing l ≡ true → demultiplexed x t c mark xs ≡ refusing x 6 → ⊥
    closing-never_six z e = omega (arith, six-held e, slots-are, closing_takes_all l (length xs) tree z)
