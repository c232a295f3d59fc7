-- What an accepted payload has met: none of the refusals.
--
--   Unrefused        .. so that its slots are open, the mark is right and all fits; and the call leaves the delivery
--   is-accepted      so it is
--
-- Assumes nothing.
use mathlib.Core.Path.{◌≡◌, refl, ap}
use mathlib.Core.Bool.{Bool, true, false, not, ◌&&◌}
use mathlib.Core.List.{List}
use Prim.Native.Nat.{ℕ, ◌≤◌}
use borrow.Author.Tests.{not-false, ltb-false}
use lib.ListN.{length}
use Rattle.calls.specs.Refusal.{Told, told, Ended, leaving, refusing}
use Rattle.calls.proofs.Laws.{by_tests, told-refused}
use Rattle.table.specs.Slots.{Slot, payload_slots, octets_of, numbers_of}
use Rattle.table.specs.Table.{entry_of}
use Rattle.channels.specs.Channels.{channel_at, all_open}
use Rattle.multiplex.specs.Pieces.{Piece, placed, last_place}
use Rattle.multiplex.specs.Demultiplexer.{DemuxLent, Delivery, fits, delivery, writes, demultiplex_tests, demultiplexed}

-- what was accepted met none of the refusals, and leaves its delivery
pub record Unrefused (x y : DemuxLent) (mark : Bool) (l : List Slot) (xs : List ℕ) (k : ℕ) : Type 0 where
  pub enough : length xs ≤ octets_of l
  pub opened : all_open x.channels (numbers_of l) ≡ true
  pub marked : (mark && not (channel_at x.channels (last_place (placed x.channels l))).segmentable) ≡ false
  pub fitting : fits x.channels (placed x.channels l) ≡ true
  pub count : (delivery x.channels x.held mark (placed x.channels l) xs).count ≡ k
  pub left : writes (delivery x.channels x.held mark (placed x.channels l) xs) x.output x.units ≡ y

pub is-accepted : (x y : DemuxLent) (t : List ℕ) (c : ℕ) (mark : Bool) (xs : List ℕ) (k : ℕ) → demultiplexed x t c mark xs ≡ leaving k y
    → Unrefused x y mark (payload_slots (entry_of t c) (length xs)) xs k
unfolding demultiplexed
is-accepted x y t c mark xs k =
    by_tests Ends (refusing x) (demultiplex_tests x t c mark xs) (leaving d.count (writes d x.output x.units)) (refuses x) (λ rest e.
    let closed : not (all_open x.channels (numbers_of l)) ≡ false = search rest in
    let full : not (fits x.channels ps) ≡ false = search rest in
    record {
      enough = ltb-false (octets_of l) (length xs) (search rest);
      opened = not-false (all_open x.channels (numbers_of l)) closed;
      marked = search rest;
      fitting = not-false (fits x.channels ps) full;
      count = same-told d.count k (ap (λ (r : Ended ℕ DemuxLent). r.answer) e);
      left = ap (λ (r : Ended ℕ DemuxLent). r.left) e;
    })
  where
    l : List Slot
    l = payload_slots (entry_of t c) (length xs)

    ps : List Piece
    ps = placed x.channels l

    d : Delivery
    d = delivery x.channels x.held mark ps xs

    Ends : Ended ℕ DemuxLent → Type 0
    Ends r = r ≡ leaving k y → Unrefused x y mark l xs k

    refuses : (z : DemuxLent) (i : ℕ) → Ends (refusing z i)
    refuses z i e = told-refused (ap (λ (r : Ended ℕ DemuxLent). r.answer) e) refl

    same-told : (a b : ℕ) → ◌≡◌ {A = Told ℕ} (told a) (told b) → a ≡ b
    same-told a b e = cc
