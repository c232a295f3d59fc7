-- From the slots that the table lays down to the pieces that are delivered, and refusals 2, 4, 6, 5 in their order.
--
--   placed-laid        slots whose channels have their places are the pieces
--   placed_total       the pieces have the slots' octets
--   Found              places and lengths that can be delivered: they are the pieces of the slots
--   slotted-found      .. as they are once all channels have been found
--   demultiplexed-long, demultiplexed-none, demultiplexed_some   refusals 2 and 4, and neither
--   sorted-long, sorted-closed, sorted_all   refusals 6 and 5, and neither
--
-- Assumes nothing.
use mathlib.Core.Path.{◌≡◌, refl, sym, ap, ap₂, ◌∙◌}
use mathlib.Core.List.{List, [], ◌∷◌, map}
use mathlib.Core.Bool.{Bool, true, false}
use Prim.Native.Nat.{ℕ, ◌+◌, ◌≤◌, ◌<◌}
use native.Mathlib.Omega.{arith}
use borrow.Author.Tests.{lt-ltb, le-ltb}
use lib.ListN.{length, take, length-map}
use Rattle.calls.specs.Refusal.{refusing}
use Rattle.table.specs.declared.walk.Laid.{Laid}
use Rattle.table.specs.Slots.{Slot, payload_slots, octets_of, numbers_of, lengths_of}
use Rattle.table.specs.Table.{entry_of, is_defined, longest_payload}
use Rattle.channels.specs.declared.Channels.{Channels}
use Rattle.channels.specs.Channels.{place_of, all_open}
use Rattle.multiplex.specs.Pieces.{paired, laid, placed, total}
use Rattle.multiplex.specs.Tally.{InPlaces}
use Rattle.channels.proofs.Laws.{in-placed}
use Rattle.multiplex.proofs.Laying.{Slotted}
use Rattle.multiplex.specs.Demultiplexer.{DemuxLent, delivered, sorted, demultiplexed}

module _ (s : Channels) where
  pub placed-laid : (l : List Slot) → laid (map (place_of s) (numbers_of l)) (lengths_of l) ≡ placed s l
  unfolding paired placed
  placed-laid [] = refl
  placed-laid (x ∷ l) = rw (placed-laid l)

  pub placed_total : (l : List Slot) → total (placed s l) ≡ octets_of l
  unfolding total placed octets_of
  placed_total [] = refl
  placed_total (x ∷ l) = ap (λ (n : ℕ). x.octets + n) (placed_total l)

-- ---- the places of the slots

pub record Found (s : Channels) (l : List Slot) (n : ℕ) (ps ls : List ℕ) : Type 0 where
  pub places : InPlaces ps ls
  pub most : total (laid ps ls) ≤ n
  pub pieces : laid ps ls ≡ placed s l

pub slotted-found : (s : Channels) (l : List Slot) (n : ℕ) (r : Laid) (cs ls : List ℕ) → Slotted l n r cs ls → (ps : List ℕ)
    → ps ≡ map (place_of s) (numbers_of l) → all_open s (numbers_of l) ≡ true → Found s l n ps (take r.count ls)
slotted-found s l n r cs ls slotted ps e all =
    let c = length-map l (λ (x : Slot). x.channel) in
    let m = length-map (numbers_of l) (place_of s) in
    let k : length (take r.count ls) ≡ length l = ap length slotted.lengths ∙ length-map l (λ (x : Slot). x.octets) in
    let j : length ps ≡ length l = ap length e ∙ m ∙ c in
    let same = ap₂ laid e slotted.lengths ∙ placed-laid s l in
    record {
      places = record { within = λ i h. rw e (in-placed s (numbers_of l) all i (omega arith)); same = j ∙ sym k; few = omega (arith, slotted.few) };
      most = rw same (omega (arith, placed_total s l, slotted.most));
      pieces = same;
    }

-- ---- the refusals

module _ (x : DemuxLent) (mark : Bool) (xs : List ℕ) where
  module _ (t : List ℕ) (c : ℕ) where
    pub demultiplexed-long : longest_payload < length xs → demultiplexed x t c mark xs ≡ refusing x 2
    unfolding demultiplexed
    demultiplexed-long h = rw (lt-ltb _ _ h)

    pub demultiplexed-none : length xs ≤ longest_payload → is_defined t c ≡ false → demultiplexed x t c mark xs ≡ refusing x 4
    unfolding demultiplexed
    demultiplexed-none h e = rw (le-ltb _ _ h, e)

    pub demultiplexed_some : length xs ≤ longest_payload → is_defined t c ≡ true
        → demultiplexed x t c mark xs ≡ sorted x mark (payload_slots (entry_of t c) (length xs)) xs
    unfolding demultiplexed sorted delivered
    demultiplexed_some h e = rw (le-ltb _ _ h, e)

  module _ (l : List Slot) where
    pub sorted-long : octets_of l < length xs → sorted x mark l xs ≡ refusing x 6
    unfolding sorted
    sorted-long h = rw (lt-ltb _ _ h)

    pub sorted-closed : length xs ≤ octets_of l → all_open x.channels (numbers_of l) ≡ false → sorted x mark l xs ≡ refusing x 5
    unfolding sorted
    sorted-closed h e = rw (le-ltb _ _ h, e)

    pub sorted_all : length xs ≤ octets_of l → all_open x.channels (numbers_of l) ≡ true → sorted x mark l xs ≡ delivered x mark (placed x.channels l) xs
    unfolding sorted
    sorted_all h e = rw (le-ltb _ _ h, e)
