-- Document 01's rules of one payload ("Demultiplexer", "Multiplexer"), each as a claim on the definitions. proofs/Rules.antt proves them,
-- but for FitsExactly (Admitting), StartsAre (Starting), RoomEnough (Sufficing), DemuxKeeps and MuxKeeps (Preserving), WalkParts and WalkRules (Advancing). When each refusal is given: specs/Exactly.antt.
--
--   slot_octets n l xs   of the octets xs of the slots l, those of each slot of channel n
--   SlotIsUnit          on a channel that isn't segmentable each slot is a unit: the units finished there are the slots' octets, none joined
--   MarkEnds            segmentable octets join what the channel holds, and the closing mark ends the unit of the last octet's channel: on a
--                       segmentable channel one unit is finished, all that was held and came, exactly where the mark is set and the last
--                       octet is its own; else none
--   octets_on n l        how many octets the slots l have of channel n
--   FitsExactly         refusal 8: where the slots' channels are open, all fits exactly where on no segmentable channel what is held and
--                       what comes, together, pass 1,024 octets
--   finished_octets y k  the octets of the k units that a call's list tells of, one after another
--   StartsAre           "written one after another": each unit starts where those before it end
--   ThreeExactly        refusal 3: exactly where with some other room the payload is accepted, and the octets that it then finishes, or three
--                       numbers for each of its units, are more than was lent
--   RoomEnough          .. so that an output of `enough_output` octets and a list of `enough_units` numbers are never too small
--   DemuxRest           the finished units stand from the start of the lent output, and their list from the start of the lent numbers: what
--                       stands behind stays
--   DemuxKeeps          a payload that is accepted changes of a channel what it holds, and nothing else
--   MuxKeeps            .. and one that is made what waits there
--   WalkParts           what a walk has that stops, or ends with a piece; and a piece sent before a walk leaves its mark, what it reaches that is
--                       not open, and the channels, as they are
--   WalkRules           how far the walk goes, slot by slot
--   WalkMakes           a payload that is made is what the walk over the entry's expansion, cut to the room, gives
--
-- Assumes nothing.
use Rattle.std.specs.Prelude.{◌≡◌, ◌↔◌, ◌⊎◌, Bool, true, false, cond, ◌&&◌, ℕ, ◌+◌, ◌*◌, ◌≤◌, ◌<◌, eqb, length, get_or, take, drop}
use mathlib.Core.List.{List, [], ◌∷◌, ◌++◌, map, flatten}
use Rattle.calls.specs.Refusal.{refused, leaving}
use Rattle.table.specs.Slots.{Slot, payload_slots, numbers_of, channels_of}
use Rattle.table.specs.Table.{entry_of}
use Rattle.channels.specs.declared.Channels.{Channels}
use Rattle.channels.specs.Channels.{is_in, place_of, all_open, waits}
use Rattle.channels.specs.Claims.{Orderly, channel_of}
use Rattle.multiplex.specs.Pieces.{Piece, piece, placed, last_place, total}
use Rattle.multiplex.specs.Demultiplexer.{DemuxLent, fits, demultiplexed}
use Rattle.multiplex.specs.declared.multiplexer.Payload.{Payload}
use Rattle.multiplex.specs.Multiplexer.{MuxLent, Walk, left, stopped, sending, ending, walked, multiplexed}
use Rattle.multiplex.specs.Units.{UnitOn, units_on, units_in, enough_output, enough_units}
use Rattle.multiplex.specs.Claims.{going_to, held_on}

-- ---- the demultiplexer

unfoldable pub slot_octets : ℕ → List Slot → List ℕ → List (List ℕ)
slot_octets n [] xs = []
slot_octets n (y ∷ l) xs =
    cond (eqb y.channel n) (take y.octets xs ∷ slot_octets n l (drop y.octets xs)) (slot_octets n l (drop y.octets xs))

abbrev pub SlotIsUnit : Type 0
SlotIsUnit =
    (x y : DemuxLent) (t : List ℕ) (c : ℕ) (mark : Bool) (xs : List ℕ) (k n : ℕ) → Orderly x.channels x.held
    → (channel_of x.channels n).segmentable ≡ false → demultiplexed x t c mark xs ≡ leaving k y
    → units_on n (units_in y.output y.units k) ≡ slot_octets n (payload_slots (entry_of t c) (length xs)) xs

abbrev pub MarkEnds : Type 0
MarkEnds =
    (x y : DemuxLent) (t : List ℕ) (c : ℕ) (mark : Bool) (xs : List ℕ) (k n : ℕ) → Orderly x.channels x.held
    → (channel_of x.channels n).segmentable ≡ true → demultiplexed x t c mark xs ≡ leaving k y
    → let l = payload_slots (entry_of t c) (length xs) in
    units_on n (units_in y.output y.units k)
    ≡ cond (mark && eqb (last_place (placed x.channels l)) (place_of x.channels n)) ((held_on x n ++ going_to n (channels_of l) xs) ∷ []) []

unfoldable pub octets_on : ℕ → List Slot → ℕ
octets_on n [] = 0
octets_on n (y ∷ l) = cond (eqb y.channel n) y.octets 0 + octets_on n l

abbrev pub FitsExactly : Type 0
FitsExactly =
    (s : Channels) (h : List ℕ) (l : List Slot) → Orderly s h → all_open s (numbers_of l) ≡ true
    → fits s (placed s l) ≡ true
    ↔ ((n : ℕ) → is_in s n ≡ true → (channel_of s n).segmentable ≡ true → (channel_of s n).held + octets_on n l ≤ 1024)

abbrev pub finished_octets : DemuxLent → ℕ → List ℕ
finished_octets y k = flatten (map (λ (u : UnitOn). u.octets) (units_in y.output y.units k))

abbrev pub StartsAre : Type 0
StartsAre =
    (x y : DemuxLent) (t : List ℕ) (c : ℕ) (mark : Bool) (xs : List ℕ) (k j : ℕ) → demultiplexed x t c mark xs ≡ leaving k y → j < k
    → get_or y.units (3 * j + 1) 0 ≡ length (finished_octets y j)

abbrev pub ThreeExactly : Type 0
ThreeExactly =
    (x : DemuxLent) (t : List ℕ) (c : ℕ) (mark : Bool) (xs : List ℕ)
    → (demultiplexed x t c mark xs).answer ≡ refused 3
    ↔ ((output : List ℕ) × (units : List ℕ) × (k : ℕ) × (y : DemuxLent)
    × (demultiplexed (record { channels = x.channels; held = x.held; output = output; units = units }) t c mark xs ≡ leaving k y)
    × ((length x.output < length (finished_octets y k)) ⊎ (length x.units < 3 * k)))

abbrev pub RoomEnough : Type 0
RoomEnough =
    (x : DemuxLent) (t : List ℕ) (c : ℕ) (mark : Bool) (xs : List ℕ) → Orderly x.channels x.held → enough_output ≤ length x.output
    → enough_units ≤ length x.units → (demultiplexed x t c mark xs).answer ≡ refused 3 → ⊥

abbrev pub DemuxRest : Type 0
DemuxRest =
    (x y : DemuxLent) (t : List ℕ) (c : ℕ) (mark : Bool) (xs : List ℕ) (k : ℕ) → demultiplexed x t c mark xs ≡ leaving k y
    → let n = length (finished_octets y k) in
    (take n y.output ≡ finished_octets y k) × (drop n y.output ≡ drop n x.output) × (drop (3 * k) y.units ≡ drop (3 * k) x.units)

abbrev pub DemuxKeeps : Type 0
DemuxKeeps =
    (x y : DemuxLent) (t : List ℕ) (c : ℕ) (mark : Bool) (xs : List ℕ) (k n : ℕ) → demultiplexed x t c mark xs ≡ leaving k y
    → let a = channel_of x.channels n in
    let b = channel_of y.channels n in
    b
    ≡ record {
      «open» = a.«open»;
      segmentable = a.segmentable;
      number = a.number;
      held = b.held;
      waiting = a.waiting;
      numbers = a.numbers;
    }

-- ---- the multiplexer

abbrev pub MuxKeeps : Type 0
MuxKeeps =
    (x y : MuxLent) (w t : List ℕ) (c room n : ℕ) (p : Payload) → multiplexed x w t c room ≡ leaving p y
    → let a = channel_of x.channels n in
    let b = channel_of y.channels n in
    b
    ≡ record {
      «open» = a.«open»;
      segmentable = a.segmentable;
      number = a.number;
      held = a.held;
      waiting = b.waiting;
      numbers = a.numbers;
    }

pub record WalkParts (s : Channels) (q : Piece) (r : Walk) (b : Bool) : Type 0 where
  pub stops : stopped s b ≡ record { pieces = []; mark = false; all_open = b; channels = s }
  pub ends : ending q s b ≡ record { pieces = q ∷ []; mark = b; all_open = true; channels = s }
  pub sends : sending q r ≡ record { pieces = q ∷ r.pieces; mark = r.mark; all_open = r.all_open; channels = r.channels }

-- a slot of k octets of channel n, before the slots l
pub record WalkRules (s : Channels) (n k : ℕ) (l : List Slot) : Type 0 where
  -- the entry's end, or the room's, to which the slots are cut
  pub at_end : walked s [] ≡ stopped s true
  -- a channel that is reached and is not open
  pub shut : is_in s n ≡ false → walked s (record { channel = n; octets = k } ∷ l) ≡ stopped s false
  -- stop before an octet whose channel has nothing waiting
  pub idle : is_in s n ≡ true → waits (channel_of s n) ≡ 0 → walked s (record { channel = n; octets = k } ∷ l) ≡ stopped s true
  -- stop before a slot of a channel that isn't segmentable if its unit is longer than the slot
  pub too_long : is_in s n ≡ true → (channel_of s n).segmentable ≡ false → k < waits (channel_of s n)
      → walked s (record { channel = n; octets = k } ∷ l) ≡ stopped s true
  -- .. stop after it if shorter
  pub short : is_in s n ≡ true → (channel_of s n).segmentable ≡ false → 1 ≤ waits (channel_of s n) → waits (channel_of s n) < k
      → walked s (record { channel = n; octets = k } ∷ l)
      ≡ ending (piece (place_of s n) (waits (channel_of s n))) (left s (place_of s n) (waits (channel_of s n))) false
  -- .. and go on if it fills the slot
  pub filled : is_in s n ≡ true → (channel_of s n).segmentable ≡ false → 1 ≤ k → waits (channel_of s n) ≡ k
      → walked s (record { channel = n; octets = k } ∷ l) ≡ sending (piece (place_of s n) k) (walked (left s (place_of s n) k) l)
  -- stop with the mark when a segmentable unit ends
  pub ended : is_in s n ≡ true → (channel_of s n).segmentable ≡ true → 1 ≤ waits (channel_of s n) → waits (channel_of s n) ≤ k
      → walked s (record { channel = n; octets = k } ∷ l)
      ≡ ending (piece (place_of s n) (waits (channel_of s n))) (left s (place_of s n) (waits (channel_of s n))) true
  -- .. and go on where it does not
  pub more : is_in s n ≡ true → (channel_of s n).segmentable ≡ true → k < waits (channel_of s n)
      → walked s (record { channel = n; octets = k } ∷ l) ≡ sending (piece (place_of s n) k) (walked (left s (place_of s n) k) l)

abbrev pub WalkMakes : Type 0
WalkMakes =
    (x y : MuxLent) (w t : List ℕ) (c room : ℕ) (p : Payload) → multiplexed x w t c room ≡ leaving p y
    → let r = walked x.channels (payload_slots (entry_of t c) room) in
    (r.all_open ≡ true) × (1 ≤ p.octets) × (p.octets ≡ total r.pieces) × (p.mark ≡ r.mark) × (y.channels ≡ r.channels)
