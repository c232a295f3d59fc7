-- Each refusal of the demultiplexer and the multiplexer applies exactly where document 01 says.
--
--   of_demultiplexer, of_multiplexer, last_octet, enough    the claims of specs/Exactly.antt
--
-- Assumes nothing.
use mathlib.Core.Path.{◌≡◌, refl}
use mathlib.Core.Logic.{◌↔◌}
use mathlib.Core.Bool.{Bool, true, false, not}
use mathlib.Core.List.{List, [], ◌∷◌, ◌++◌}
use Prim.Native.Nat.{ℕ, ◌≤◌}
use native.Mathlib.Omega.{arith}
use lib.Dec.{ltb}
use lib.ListN.{length}
use Rattle.octets.specs.Exact.{chain, both_of, is_true, is_false, and-not, not-and-not, less, not-less, either_less, equal}
use Rattle.calls.proofs.Laws.{given_exactly}
use Rattle.table.specs.Slots.{Slot, payload_slots, octets_of, numbers_of}
use Rattle.table.specs.Table.{entry_of, is_defined}
use Rattle.channels.specs.declared.Channels.{Channels}
use Rattle.channels.specs.Channels.{place_of, all_open}
use Rattle.channels.proofs.Laws.{vacant-behind}
use Rattle.multiplex.specs.Pieces.{placed, last_place}
use Rattle.multiplex.specs.Demultiplexer.{DemuxLent, demultiplex_tests}
use Rattle.multiplex.specs.Multiplexer.{MuxLent, multiplex_tests}
use Rattle.multiplex.specs.Exactly.{Sorted, Walkable, OfDemultiplexer, OfMultiplexer, LastOctet, Enough}

-- a payload's length and its code are right, and what is looked at then
allowed : {A B : Type 0} (n : ℕ) (b : Bool) → A ↔ B → ((ltb 255 n ≡ false) × ((not b ≡ false) × A)) ↔ ((n ≤ 255) × ((b ≡ true) × B))
allowed n b q = both_of (not-less 255 n) (both_of (is_true b) q)

regrouped : {A B C D E : Type 0} → (A × (B × (C × (D × E)))) ↔ ((A × (B × (C × D))) × E)
regrouped = (λ h. ((h.0, (h.1.0, (h.1.1.0, h.1.1.1.0))), h.1.1.1.1), λ h. (h.0.0, (h.0.1.0, (h.0.1.1.0, (h.0.1.1.1, h.1)))))

regrouped_three : {A B C E : Type 0} → (A × (B × (C × E))) ↔ ((A × (B × C)) × E)
regrouped_three = (λ h. ((h.0, (h.1.0, h.1.1.0)), h.1.1.1), λ h. (h.0.0, (h.0.1.0, (h.0.1.1, h.1))))

module _ (x : DemuxLent) (t : List ℕ) (c : ℕ) (xs : List ℕ) where
  abbrev l : List Slot
  l = payload_slots (entry_of t c) (length xs)

  -- .. and its slots
  sorted : {A B : Type 0} → A ↔ B
      → ((ltb 255 (length xs) ≡ false) × ((not (is_defined t c) ≡ false) × ((ltb (octets_of l) (length xs) ≡ false) × ((not (all_open x.channels (numbers_of l)) ≡ false) × A))))
      ↔ (Sorted x t c xs × B)
  sorted q =
      chain (allowed (length xs) (is_defined t c) (both_of (not-less (octets_of l) (length xs)) (both_of (is_true (all_open x.channels (numbers_of l))) q))) regrouped

pub of_demultiplexer : (x : DemuxLent) (t : List ℕ) (c : ℕ) (mark : Bool) (xs : List ℕ) → OfDemultiplexer x t c mark xs
of_demultiplexer x t c mark xs =
    let tests = demultiplex_tests x t c mark xs in
    record {
      demux2 = chain (given_exactly 2 tests refl) (less 255 (length xs));
      demux4 = chain (given_exactly 4 tests refl) (both_of (not-less 255 (length xs)) (is_false (is_defined t c)));
      demux6 = chain (given_exactly 6 tests refl) (allowed (length xs) (is_defined t c) (less _ (length xs)));
      demux5 = chain (given_exactly 5 tests refl) (allowed (length xs) (is_defined t c) (both_of (not-less _ (length xs)) (is_false _)));
      demux7 = chain (given_exactly 7 tests refl) (sorted x t c xs (and-not mark _));
      demux8 = chain (given_exactly 8 tests refl) (sorted x t c xs (both_of (not-and-not mark _) (is_false _)));
      demux3 = chain (given_exactly 3 tests refl) (sorted x t c xs (both_of (not-and-not mark _) (both_of (is_true _) (either_less _ _ _ _))));
    }

walkable : {A B : Type 0} (x : MuxLent) (t : List ℕ) (c room : ℕ) → A ↔ B
    → ((ltb 255 room ≡ false) × ((not (is_defined t c) ≡ false) × ((ltb (length x.payload) room ≡ false) × A))) ↔ (Walkable x t c room × B)
walkable x t c room q = chain (allowed room (is_defined t c) (both_of (not-less (length x.payload) room) q)) regrouped_three

pub of_multiplexer : (x : MuxLent) (t : List ℕ) (c room : ℕ) → OfMultiplexer x t c room
of_multiplexer x t c room =
    let tests = multiplex_tests x t c room in
    record {
      mux2 = chain (given_exactly 2 tests refl) (less 255 room);
      mux4 = chain (given_exactly 4 tests refl) (both_of (not-less 255 room) (is_false (is_defined t c)));
      mux3 = chain (given_exactly 3 tests refl) (allowed room (is_defined t c) (less (length x.payload) room));
      mux5 = chain (given_exactly 5 tests refl) (walkable x t c room (is_false _));
      mux9 = chain (given_exactly 9 tests refl) (walkable x t c room (both_of (is_true _) (equal _ 0)));
    }

last_on : (s : Channels) (l : List Slot) (y : Slot) → last_place (placed s (l ++ y ∷ [])) ≡ place_of s y.channel
unfolding placed last_place
last_on s [] y = refl
last_on s (z ∷ []) y = refl
last_on s (z ∷ v ∷ l) y = last_on s (v ∷ l) y

pub last_octet : (s : Channels) → LastOctet s
unfolding placed last_place
last_octet s = record { absent = λ full. rw (vacant-behind s full 16 (omega arith)); on = last_on s }

pub enough : Enough
enough = (refl, refl)
