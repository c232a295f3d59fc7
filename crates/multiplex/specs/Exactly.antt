-- Document 01's table of refusals, "given exactly when", of the demultiplexer and the multiplexer: each number where the tests before it do
-- not hold. A test that a definition and its code had beyond these, or without one of them, fails here. What the conditions come to is said
-- in the paper's words by other claims: that a code has an entry by `DefinedExactly`, and of which channels slots are by `NumbersInTurn`, both
-- in `table`; that channels are open by `AllOpenExactly` in `channels`; refusal 6 by `SixExactly` in specs/Claims.antt; 8, 3 and what the walk
-- reaches by `FitsExactly`, `ThreeExactly` and `WalkRules` in specs/Rules.antt.
--
--   Sorted x t c xs       the payload xs has an allowed length; its code has an entry, of as many octets, and each of their channels is open
--   is_ended x t c xs      the payload's last octet is on a segmentable channel
--   Walkable x t c room   the room is allowed, the code has an entry, and the lent payload has the room
--   OfDemultiplexer       the demultiplexer's refusals; proofs/Applying.antt proves them
--   TotalIs               how many octets pieces have: those of each, added up; proofs/Advancing.antt proves it
--   OfMultiplexer         .. and the multiplexer's
--   LastOctet             the last octet of a payload is absent where there is none, and else on the channel of the last slot
--   Enough                the room that is always enough: a unit that was held and a payload, and three numbers for each of its octets
--
-- Assumes nothing.
use Rattle.std.specs.Prelude.{◌≡◌, ◌↔◌, ◌⊎◌, Bool, true, false, List, [], ◌∷◌, ◌++◌, ℕ, ◌+◌, ◌*◌, ◌≤◌, ◌<◌, length}
use Rattle.calls.specs.Refusal.{Gives}
use Rattle.table.specs.Slots.{Slot, payload_slots, octets_of, numbers_of}
use Rattle.table.specs.Table.{entry_of, is_defined}
use Rattle.channels.specs.declared.Channels.{Channels}
use Rattle.channels.specs.Channels.{place_of, all_open, channel_at}
use Rattle.multiplex.specs.Pieces.{Piece, placed, last_place, total}
use Rattle.multiplex.specs.Demultiplexer.{DemuxLent, fits, delivery, demultiplex_tests}
use Rattle.multiplex.specs.Multiplexer.{MuxLent, walked, multiplex_tests}
use Rattle.multiplex.specs.Units.{enough_output, enough_units}

abbrev pub Sorted : DemuxLent → (table : List ℕ) → (code : ℕ) → List ℕ → Type 0
Sorted x t c xs =
    let l = payload_slots (entry_of t c) (length xs) in
    (length xs ≤ 255) × ((is_defined t c ≡ true) × ((length xs ≤ octets_of l) × (all_open x.channels (numbers_of l) ≡ true)))

abbrev pub is_ended : DemuxLent → (table : List ℕ) → (code : ℕ) → List ℕ → Bool
is_ended x t c xs = (channel_at x.channels (last_place (placed x.channels (payload_slots (entry_of t c) (length xs))))).segmentable

abbrev pub Walkable : MuxLent → (table : List ℕ) → (code room : ℕ) → Type 0
Walkable x t c k = (k ≤ 255) × ((is_defined t c ≡ true) × (k ≤ length x.payload))

-- "Demultiplexer": the payload xs
pub record OfDemultiplexer (x : DemuxLent) (t : List ℕ) (c : ℕ) (mark : Bool) (xs : List ℕ) : Type 0 where
  pub demux2 : Gives (demultiplex_tests x t c mark xs) 2 ↔ (255 < length xs)
  pub demux4 : Gives (demultiplex_tests x t c mark xs) 4 ↔ ((length xs ≤ 255) × (is_defined t c ≡ false))
  pub demux6 : Gives (demultiplex_tests x t c mark xs) 6
      ↔ ((length xs ≤ 255) × ((is_defined t c ≡ true) × (octets_of (payload_slots (entry_of t c) (length xs)) < length xs)))
  pub demux5 : let l = payload_slots (entry_of t c) (length xs) in
      Gives (demultiplex_tests x t c mark xs) 5
      ↔ ((length xs ≤ 255) × ((is_defined t c ≡ true) × ((length xs ≤ octets_of l) × (all_open x.channels (numbers_of l) ≡ false))))
  pub demux7 : Gives (demultiplex_tests x t c mark xs) 7 ↔ (Sorted x t c xs × ((mark ≡ true) × (is_ended x t c xs ≡ false)))
  pub demux8 : let ps = placed x.channels (payload_slots (entry_of t c) (length xs)) in
      Gives (demultiplex_tests x t c mark xs) 8 ↔ (Sorted x t c xs × ((mark ≡ true → is_ended x t c xs ≡ true) × (fits x.channels ps ≡ false)))
  pub demux3 : let ps = placed x.channels (payload_slots (entry_of t c) (length xs)) in
      let d = delivery x.channels x.held mark ps xs in
      Gives (demultiplex_tests x t c mark xs) 3
      ↔ (Sorted x t c xs × ((mark ≡ true → is_ended x t c xs ≡ true)
      × ((fits x.channels ps ≡ true) × ((length x.output < length d.octets) ⊎ (length x.units < length d.units)))))

-- "Multiplexer": a payload of so much room
pub record OfMultiplexer (x : MuxLent) (t : List ℕ) (c room : ℕ) : Type 0 where
  pub mux2 : Gives (multiplex_tests x t c room) 2 ↔ (255 < room)
  pub mux4 : Gives (multiplex_tests x t c room) 4 ↔ ((room ≤ 255) × (is_defined t c ≡ false))
  pub mux3 : Gives (multiplex_tests x t c room) 3 ↔ ((room ≤ 255) × ((is_defined t c ≡ true) × (length x.payload < room)))
  pub mux5 : let r = walked x.channels (payload_slots (entry_of t c) room) in
      Gives (multiplex_tests x t c room) 5 ↔ (Walkable x t c room × (r.all_open ≡ false))
  pub mux9 : let r = walked x.channels (payload_slots (entry_of t c) room) in
      Gives (multiplex_tests x t c room) 9 ↔ (Walkable x t c room × ((r.all_open ≡ true) × (total r.pieces ≡ 0)))

abbrev pub TotalIs : Type 0
TotalIs = (q : Piece) (l : List Piece) → (total [] ≡ 0) × (total (q ∷ l) ≡ q.octets + total l)

pub record LastOctet (s : Channels) : Type 0 where
  pub absent : length s.at ≡ 16 → (channel_at s (last_place (placed s []))).segmentable ≡ false
  pub on : (front : List Slot) (y : Slot) → last_place (placed s (front ++ y ∷ [])) ≡ place_of s y.channel

abbrev pub Enough : Type 0
Enough = (enough_output ≡ 1024 + 255) × (enough_units ≡ 3 * 255)
