-- The delivery as the demultiplexer's inner functions tell it to each other: first by value, and then as it is written.
--
--   slots_for           the slots of the payload that it is given
--   joins c n          the channel c after n octets came to it
--   at_once c k         of k that come to c, how many are finished at once
--   closes d mark p    the delivery d with what place p holds ended as a unit, where the mark is set
--   begins s           the tally where no piece has come yet
--   counts t p n       the tally t with n octets more for place p
--   ends t p           .. with what place p holds ended as a unit
--   marked s m ps      the place whose unit the closing mark m ends, the last of the places ps; or refusal 7
--   Tallies d t        the tally t tells how far the delivery d has led
--   Shows o u d ..     what is held, the output and the list of units show the delivery d, written over o and u
--   Poured             .. and a tally tells it
--   RoomFor o u d      o and u have room for it
--   InPlaces ps ls     pieces of these places and lengths can be looked up
--   Deliverable        .. and their octets are there, and so is what is held
--   DryRun s l r       what the dry run finds out of the pieces l
--   Countable, Notable   what a piece needs to be counted, and a unit to be written behind the others
--   Puts, Takes        what the octets of one piece need to be written, and what they make of a delivery that is shown
--   Pours, PouredBy    .. and those of all pieces, from the start
--   Exact d p          place p holds as many octets as its channel says
--   InRange t p        the place p is one, and the tally's numbers are small
--   Closable, Finishes   what the closing mark needs, where the unit is written, and what it makes of a delivery that is shown
--
-- Assumes nothing.
use Rattle.std.specs.Prelude.{◌≡◌, Bool, true, false, cond, ◌&&◌, List, ℕ, ◌+◌, ◌-◌, ◌*◌, ◌^◌, ◌≤◌, ◌<◌, ltb, length, get_or, Option, Some, None, Result, Ok, Err}
use Rattle.octets.specs.Written.{written}
use Rattle.calls.specs.Slices.{Slice, SharedSlice}
use Rattle.calls.specs.declared.Refusal.{Refusal}
use Rattle.calls.specs.declared.Refusal.TheVariants.{BadMark}
use Rattle.table.specs.Slots.{Slot, payload_slots}
use Rattle.table.specs.Table.{longest_payload, entry_of}
use Rattle.channels.specs.declared.Channel.{Channel}
use Rattle.channels.specs.declared.Channels.{Channels}
use Rattle.channels.specs.Channels.{place_count, place_octets, all_octets, channel_at, put, holding, held_of}
use Rattle.multiplex.specs.declared.demultiplexer.Tally.{Tally}
use Rattle.multiplex.specs.Pieces.{Piece, laid, total}
use Rattle.multiplex.specs.Demultiplexer.{Delivery, took, took_all, closed, nothing, room_in, fits}

-- ---- a call's slices

abbrev pub slots_for : (table : SharedSlice) → (code : ℕ) → (payload : SharedSlice) → List Slot
slots_for table code payload = payload_slots (entry_of table.entry.now code) (length payload.entry.now)

-- ---- how far

abbrev pub joins : Channel → ℕ → Channel
joins c n = cond c.segmentable (holding c (c.held + n)) c

abbrev pub at_once : Channel → ℕ → ℕ
at_once c k = cond c.segmentable 0 k

abbrev pub closes : Delivery → (mark : Bool) → (p : ℕ) → Delivery
closes d mark p = cond mark (closed d p) d

abbrev pub begins : Channels → Tally
begins s = record { channels = s; octets = 0; units = 0 }

abbrev pub counts : Tally → (p n : ℕ) → Tally
counts t p n = record {
  channels = put t.channels p (joins (channel_at t.channels p) n);
  octets = t.octets + at_once (channel_at t.channels p) n;
  units = t.units + at_once (channel_at t.channels p) 1;
}

abbrev pub ends : Tally → (p : ℕ) → Tally
ends t p = record {
  channels = put t.channels p (holding (channel_at t.channels p) 0);
  octets = t.octets + (channel_at t.channels p).held;
  units = t.units + 1;
}

-- refusal 7: the mark is set, and the last octet is absent or not on a segmentable channel
abbrev pub marked : Channels → (mark : Bool) → (places : List ℕ) → Result (Option ℕ) Refusal
marked s mark ps =
    let p = get_or ps (length ps - 1) place_count in
    cond mark (cond (ltb p place_count && (channel_at s p).segmentable) (Ok (Some p)) (Err BadMark)) (Ok None)

pub record Tallies (d : Delivery) (t : Tally) : Type 0 where
  pub channels : t.channels ≡ d.channels
  pub octets : t.octets ≡ length d.octets
  pub units : t.units ≡ d.count
  pub even : length d.units ≡ 3 * d.count

-- o and u as they were lent; h, o' and u' as they are now
pub record Shows (o u : List ℕ) (d : Delivery) (h o' u' : List ℕ) : Type 0 where
  pub held : h ≡ d.held
  pub output : o' ≡ written o 0 d.octets
  pub units : u' ≡ written u 0 d.units

pub record Poured (o u : List ℕ) (d : Delivery) (t : Tally) (h o' u' : List ℕ) : Type 0 where
  pub tallies : Tallies d t
  pub shows : Shows o u d h o' u'

pub record RoomFor (o u : List ℕ) (d : Delivery) : Type 0 where
  pub output : length d.octets ≤ length o
  pub units : length d.units ≤ length u

-- ---- the pieces

pub record InPlaces (ps ls : List ℕ) : Type 0 where
  pub within : (j : ℕ) → j < length ps → get_or ps j 0 < place_count
  pub same : length ps ≡ length ls
  pub few : length ps ≤ longest_payload

pub record Deliverable (ps ls xs h : List ℕ) : Type 0 where
  pub pieces : InPlaces ps ls
  pub enough : total (laid ps ls) ≤ length xs
  pub short : length xs ≤ longest_payload
  pub whole : length h ≡ all_octets

-- the dry run is given neither the payload nor what is held: it tells of all
abbrev pub DryRun : Channels → List Piece → Option Tally → Type 0
DryRun s l (Some t) = (true ≡ fits s l) × ((h xs : List ℕ) → total l ≤ length xs → Tallies (took_all (nothing s h) l xs) t)
DryRun s l None = false ≡ fits s l

pub record Countable (t : Tally) (p n : ℕ) : Type 0 where
  pub near : p < place_count
  pub room : room_in (channel_at t.channels p) n ≡ true
  pub octets : t.octets < 2 ^ 32
  pub units : t.units < 2 ^ 32

pub record Notable (t : Tally) (x o u : List ℕ) : Type 0 where
  pub short : length x < 65536
  pub octets : t.octets < 65536
  pub units : t.units < 65536
  pub output : t.octets + length x ≤ length o
  pub list : 3 * (t.units + 1) ≤ length u

pub record Puts (c : Channel) (p octets count : ℕ) (h o u x : List ℕ) : Type 0 where
  pub near : p < place_count
  pub short : length x ≤ longest_payload
  pub room : room_in c (length x) ≡ true
  pub octets_small : octets < 65536
  pub count_small : count < 65536
  pub output : octets + at_once c (length x) ≤ length o
  pub units : 3 * (count + at_once c 1) ≤ length u
  pub whole : length h ≡ all_octets

-- whatever delivery is shown when a piece comes, it is shown with the piece when the octets are written
pub record Takes (c : Channel) (p octets count : ℕ) (x : List ℕ) (held output units : Slice) : Type 0 where
  pub more : {o u : List ℕ} {d : Delivery} {s : Channels} → channel_at s p ≡ c → Tallies d (record { channels = s; octets = octets; units = count })
      → RoomFor o u d → Shows o u d held.entry.now output.entry.now units.entry.now
      → Shows o u (took d p x) held.exit.now output.exit.now units.exit.now

pub record Pours (s : Channels) (h ps ls xs o u : List ℕ) : Type 0 where
  pub given : Deliverable ps ls xs h
  pub fit : fits s (laid ps ls) ≡ true
  pub room : RoomFor o u (took_all (nothing s h) (laid ps ls) xs)

abbrev pub PouredBy : Channels → (held : Slice) → (places lengths payload : SharedSlice) → (output units : Slice) → Tally → Type 0
PouredBy s held places lengths payload output units t =
    Poured output.entry.now units.entry.now
    (took_all (nothing s held.entry.now) (laid places.entry.now lengths.entry.now) payload.entry.now)
    t held.exit.now output.exit.now units.exit.now

-- ---- the closing mark

abbrev pub Exact : Delivery → (p : ℕ) → Type 0
Exact d p = length (held_of d.channels d.held p) ≡ (channel_at d.channels p).held

pub record InRange (t : Tally) (p : ℕ) : Type 0 where
  pub near : p < place_count
  pub octets : t.octets < 65536
  pub units : t.units < 65536

pub record Closable (t : Tally) (p : ℕ) (h o u : List ℕ) : Type 0 where
  pub small : InRange t p
  pub within : (channel_at t.channels p).held ≤ place_octets
  pub whole : length h ≡ all_octets
  pub output : t.octets + (channel_at t.channels p).held ≤ length o
  pub units : 3 * (t.units + 1) ≤ length u

pub record Finishes (p : ℕ) (t t₁ : Tally) (held : SharedSlice) (output units : Slice) : Type 0 where
  pub more : {o u : List ℕ} {d : Delivery} → RoomFor o u d → Poured o u d t held.entry.now output.entry.now units.entry.now
      → Poured o u (closed d p) t₁ held.entry.now output.exit.now units.exit.now
