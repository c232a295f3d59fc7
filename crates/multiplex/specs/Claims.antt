-- What is claimed of any call, and of one payload; proofs/Theorems.antt proves each claim, and proofs/Lying.antt `LiesThere`.
--
--   CallsRefuse        every call, in any state, is refused by the first of its tests that holds, exactly then, and then leaves the state
--   ListRead           unit j of the list, as it is read, is unit j of those that the list tells of
--   LiesThere          .. and the part of the output that it tells of is the unit: a layer reads it where it lies
--   going_to n ns xs    of the octets xs, whose channels are ns, those of channel n
--   held_on x n         what channel n holds
--   OctetsOnce         after an accepted payload each of its octets is in a finished unit or held, once, in order: on each channel what was
--                      held and what came is what the finished units have and what is held then
--   OrderKept          .. and the state is orderly again
--   SentOnce           of an accepted call to the multiplexer: each octet of the payload has its turn in the entry, and on each channel the
--                      octets that go there, with what still waits behind them, are what waited, once, in order; what stands behind the
--                      payload stays
--   EndsWith           unit j of the finished units ends with payload octet i: that is of its own channel, and with unit j all that was
--                      held and came there until then, octet i the last of it, is finished
--   LastsRise          after an accepted payload each finished unit ends with a payload octet, and these rise: the units are ordered by their
--                      last octet, whatever their channels; so a unit ended by the closing mark, with the payload's last octet, comes last
--   SixExactly         a payload of an allowed length under a defined code is refused with 6 exactly where the code's entry is finite and has
--                      fewer octets than the payload
--   ClosingNeverSix    .. and none is where the entry ends until closing
--
-- Assumes nothing.
use Rattle.std.specs.Prelude.{◌≡◌, ◌↔◌, Bool, true, cond, ℕ, ◌+◌, ◌*◌, ◌≤◌, ◌<◌, eqb, length, get_or, take, drop, Some}
use mathlib.Core.List.{List, [], ◌∷◌, ◌++◌, flatten}
use Rattle.calls.specs.Refusal.{leaving, refusing, Refuses}
use Rattle.table.specs.Entry.{Elements, is_entry_tree, numbers, is_finite, is_closing, octets_in}
use Rattle.table.specs.Slots.{payload_slots, channels_of}
use Rattle.table.specs.Table.{longest_payload, entry_of, is_defined}
use Rattle.channels.specs.Channels.{place_count, all_octets, place_of, held_of, waiting_of}
use Rattle.channels.specs.Parts.{part_at}
use Rattle.channels.specs.Claims.{Orderly}
use Rattle.multiplex.specs.declared.units.Unit.{Unit}
use Rattle.multiplex.specs.Demultiplexer.{DemuxLent, demultiplexed}
use Rattle.multiplex.specs.declared.multiplexer.Payload.{Payload}
use Rattle.multiplex.specs.Multiplexer.{MuxLent, multiplexed}
use Rattle.multiplex.specs.Units.{UnitOn, units_on, unit_at, unit_in, units_in}
use Rattle.multiplex.specs.Calls.{Link, Call, called, tests_of}

abbrev pub CallsRefuse : Type 0
CallsRefuse = (x : Link) (c : Call) → Refuses (called x c) (tests_of x c) x

abbrev pub ListRead : Type 0
ListRead =
    (output units : List ℕ) (k j : ℕ) (d : UnitOn) → j < k → 3 * k ≤ length units → get_or (units_in output units k) j d ≡ unit_in output (unit_at units j)

abbrev pub LiesThere : Type 0
LiesThere =
    (x y : DemuxLent) (t : List ℕ) (c : ℕ) (mark : Bool) (xs : List ℕ) (k j : ℕ) (u : Unit) (d : UnitOn) → demultiplexed x t c mark xs ≡ leaving k y
    → j < k → unit_at y.units j ≡ Some u → part_at y.output u.start u.length ≡ (get_or (units_in y.output y.units k) j d).octets

-- ---- one payload

unfoldable pub going_to : ℕ → List ℕ → List ℕ → List ℕ
going_to n [] xs = []
going_to n (m ∷ ns) [] = []
going_to n (m ∷ ns) (x ∷ xs) = cond (eqb m n) (x ∷ going_to n ns xs) (going_to n ns xs)

abbrev pub held_on : DemuxLent → ℕ → List ℕ
held_on x n = held_of x.channels x.held (place_of x.channels n)

abbrev pub OctetsOnce : Type 0
OctetsOnce =
    (x y : DemuxLent) (t : List ℕ) (c : ℕ) (mark : Bool) (xs : List ℕ) (k n : ℕ) → Orderly x.channels x.held
    → demultiplexed x t c mark xs ≡ leaving k y
    → held_on x n ++ going_to n (channels_of (payload_slots (entry_of t c) (length xs))) xs
    ≡ flatten (units_on n (units_in y.output y.units k)) ++ held_on y n

abbrev pub OrderKept : Type 0
OrderKept =
    (x y : DemuxLent) (t : List ℕ) (c : ℕ) (mark : Bool) (xs : List ℕ) (k : ℕ) → Orderly x.channels x.held
    → demultiplexed x t c mark xs ≡ leaving k y → Orderly y.channels y.held

abbrev pub SentOnce : Type 0
SentOnce =
    (x y : MuxLent) (w t : List ℕ) (c room n : ℕ) (p : Payload) → length x.channels.at ≡ place_count → length w ≡ all_octets
    → multiplexed x w t c room ≡ leaving p y
    → let ns = channels_of (payload_slots (entry_of t c) p.octets) in
    let xs = take p.octets y.payload in
    (length ns ≡ p.octets) × (length xs ≡ p.octets)
    × (going_to n ns xs ++ waiting_of y.channels w (place_of y.channels n) ≡ waiting_of x.channels w (place_of x.channels n))
    × (drop p.octets y.payload ≡ drop p.octets x.payload)

-- ---- the order of finished units

-- ns are the channels of the payload's octets xs, held n what was held on channel n before, us the finished units
pub record EndsWith (ns xs : List ℕ) (held : ℕ → List ℕ) (us : List UnitOn) (j i : ℕ) : Type 0 where
  pub turn : i < length ns
  pub present : i < length xs
  pub own : (get_or us j (record { channel = 0; octets = [] })).channel ≡ get_or ns i 0
  pub all : held (get_or ns i 0) ++ going_to (get_or ns i 0) (take (i + 1) ns) (take (i + 1) xs) ≡ flatten (units_on (get_or ns i 0) (take (j + 1) us))

abbrev pub LastsRise : Type 0
LastsRise =
    (x y : DemuxLent) (t : List ℕ) (c : ℕ) (mark : Bool) (xs : List ℕ) (k : ℕ) → Orderly x.channels x.held
    → demultiplexed x t c mark xs ≡ leaving k y
    → let ns = channels_of (payload_slots (entry_of t c) (length xs)) in
    (last : ℕ → ℕ)
    × ((j : ℕ) → j < k → EndsWith ns xs (held_on x) (units_in y.output y.units k) j (last j))
    × ((j : ℕ) → j + 1 < k → last j < last (j + 1))

-- ---- refusal 6

abbrev pub SixExactly : Type 0
SixExactly =
    (x : DemuxLent) (t : List ℕ) (c : ℕ) (mark : Bool) (xs : List ℕ) (l : Elements) (rest : List ℕ) → is_entry_tree l ≡ true → entry_of t c ≡ numbers l ++ rest
    → length xs ≤ longest_payload → is_defined t c ≡ true → demultiplexed x t c mark xs ≡ refusing x 6 ↔ ((is_finite l ≡ true) × (octets_in l < length xs))

abbrev pub ClosingNeverSix : Type 0
ClosingNeverSix =
    (x : DemuxLent) (t : List ℕ) (c : ℕ) (mark : Bool) (xs : List ℕ) (l : Elements) (rest : List ℕ) → is_entry_tree l ≡ true → entry_of t c ≡ numbers l ++ rest
    → is_closing l ≡ true → demultiplexed x t c mark xs ≡ refusing x 6 → ⊥
