-- The demultiplexer (000, 6.5; document 01, "Demultiplexer").
--
--   Delivery           what a payload leads to: the channels, the octets held, the octets of the finished units, and the channel,
--                      start and length of each of them
--   finished r n u     the delivery r with one more finished unit u, of channel n
--   joined r p x       .. with x joined to what place p holds
--   took r p x         .. with the octets x of one piece taken: they join what a segmentable channel holds; else they are a unit
--   took_all r l xs     .. with the octets xs taken, piece by piece
--   closed r p         .. with what place p holds ended as a unit
--   emptied r p        .. with nothing held at place p
--   grown s p n        the channels after n octets came to place p
--   counted s p n      .. where the channel there is segmentable; else the channels as they are
--   room_in c n         n more octets would not take what c holds past the octets of a place
--   has_room s p n      .. of the channel at place p
--   fits s l           no held unit passes the octets of a place on the way
--   DemuxLent          what a call is lent to write to: the channels, the octets held, the output and the list of units
--   nothing            no octet has been taken yet
--   delivery           what an accepted payload leads to
--   too_small           the output or the list of units has less room than the finished octets and units need
--   writes             what is left of what was lent, where the payload is accepted
--   call_tests, slot_tests, piece_tests   what refuses it: of the call, its slots, and the pieces at their places
--   demultiplex_tests   .. all of these, in this order
--   delivered, sorted  how the call ends, where only the last of these, and the last two, are looked at
--   demultiplexed      how the call ends: with the number of finished units, or a refusal
--   lent               what the demultiplexer is lent to write to
--   hands_back          .. and how the call ends with it
--
-- Assumes nothing.
use Rattle.std.specs.Prelude.{Bool, true, cond, not, ◌&&◌, ◌||◌, List, [], ◌∷◌, ◌++◌, ℕ, ◌+◌, ◌*◌, leb, ltb, length, take, drop, Result}
use Rattle.octets.specs.Written.{written}
use Rattle.calls.specs.Refusal.{says, Ended, ended, leaving, refusing, Test, ◌when◌, checked}
use Rattle.calls.specs.Slices.{Slice}
use Rattle.table.specs.Slots.{Slot, payload_slots, octets_of, numbers_of}
use Rattle.table.specs.Table.{longest_payload, entry_of, is_defined}
use Rattle.channels.specs.declared.Channel.{Channel}
use Rattle.channels.specs.declared.Channels.{Channels}
use Rattle.calls.specs.declared.Refusal.{Refusal}
use Rattle.channels.specs.Channels.{place_octets, all_open, channel_at, put, holding, held_of}
use Rattle.multiplex.specs.Pieces.{Piece, placed, last_place}
use Rattle.multiplex.specs.Units.{listed}

pub record Delivery : Type 0 where
  pub channels : Channels
  pub held : List ℕ
  pub octets : List ℕ
  pub units : List ℕ
  pub count : ℕ

abbrev pub finished : Delivery → ℕ → List ℕ → Delivery
finished r n u = record {
  channels = r.channels;
  held = r.held;
  octets = r.octets ++ u;
  units = r.units ++ listed n (length r.octets) (length u);
  count = r.count + 1;
}

abbrev pub grown : Channels → ℕ → ℕ → Channels
grown s p n = put s p (holding (channel_at s p) ((channel_at s p).held + n))

abbrev pub joined : Delivery → ℕ → List ℕ → Delivery
joined r p x = record {
  channels = grown r.channels p (length x);
  held = written r.held (place_octets * p + (channel_at r.channels p).held) x;
  octets = r.octets;
  units = r.units;
  count = r.count;
}

abbrev pub took : Delivery → ℕ → List ℕ → Delivery
took r p x = cond (channel_at r.channels p).segmentable (joined r p x) (finished r (channel_at r.channels p).number.0 x)

unfoldable pub took_all : Delivery → List Piece → List ℕ → Delivery
took_all r [] xs = r
took_all r (q ∷ l) xs = took_all (took r q.place (take q.octets xs)) l (drop q.octets xs)

abbrev pub emptied : Delivery → ℕ → Delivery
emptied r p = record {
  channels = put r.channels p (holding (channel_at r.channels p) 0);
  held = r.held;
  octets = r.octets;
  units = r.units;
  count = r.count;
}

abbrev pub closed : Delivery → ℕ → Delivery
closed r p = emptied (finished r (channel_at r.channels p).number.0 (held_of r.channels r.held p)) p

-- ---- refusal 8

abbrev pub counted : Channels → ℕ → ℕ → Channels
counted s p n = cond (channel_at s p).segmentable (grown s p n) s

abbrev pub room_in : Channel → ℕ → Bool
room_in c n = not c.segmentable || leb (c.held + n) place_octets

abbrev pub has_room : Channels → ℕ → ℕ → Bool
has_room s p n = room_in (channel_at s p) n

unfoldable pub fits : Channels → List Piece → Bool
fits s [] = true
fits s (q ∷ l) = has_room s q.place q.octets && fits (counted s q.place q.octets) l

-- ---- the call

pub record DemuxLent : Type 0 where
  pub channels : Channels
  pub held : List ℕ
  pub output : List ℕ
  pub units : List ℕ

abbrev pub nothing : Channels → List ℕ → Delivery
nothing s h = record { channels = s; held = h; octets = []; units = []; count = 0 }

unfoldable pub delivery : Channels → List ℕ → (mark : Bool) → List Piece → List ℕ → Delivery
delivery s h mark l xs = cond mark (closed (took_all (nothing s h) l xs) (last_place l)) (took_all (nothing s h) l xs)

abbrev pub too_small : Delivery → (output units : List ℕ) → Bool
too_small r output units = ltb (length output) (length r.octets) || ltb (length units) (length r.units)

-- what stands past the finished octets and units in what was lent stays
abbrev pub writes : Delivery → (output units : List ℕ) → DemuxLent
writes r output units = record {
  channels = r.channels;
  held = r.held;
  output = written output 0 r.octets;
  units = written units 0 r.units;
}

abbrev pub piece_tests : DemuxLent → (mark : Bool) → List Piece → List ℕ → List Test
piece_tests x mark l xs =
    7 when (mark && not (channel_at x.channels (last_place l)).segmentable)
    ∷ 8 when not (fits x.channels l)
    ∷ 3 when too_small (delivery x.channels x.held mark l xs) x.output x.units
    ∷ []

unfoldable pub delivered : DemuxLent → (mark : Bool) → List Piece → List ℕ → Ended ℕ DemuxLent
delivered x mark l xs =
    checked (refusing x) (piece_tests x mark l xs)
    (leaving (delivery x.channels x.held mark l xs).count (writes (delivery x.channels x.held mark l xs) x.output x.units))

abbrev pub slot_tests : DemuxLent → List Slot → List ℕ → List Test
slot_tests x l xs = 6 when ltb (octets_of l) (length xs) ∷ 5 when not (all_open x.channels (numbers_of l)) ∷ []

unfoldable pub sorted : DemuxLent → (mark : Bool) → List Slot → List ℕ → Ended ℕ DemuxLent
sorted x mark l xs =
    checked (refusing x) (slot_tests x l xs)
    (delivered x mark (placed x.channels l) xs)

abbrev pub call_tests : (table : List ℕ) → (code : ℕ) → List ℕ → List Test
call_tests t c xs = 2 when ltb longest_payload (length xs) ∷ 4 when not (is_defined t c) ∷ []

abbrev pub demultiplex_tests : DemuxLent → (table : List ℕ) → (code : ℕ) → (mark : Bool) → List ℕ → List Test
demultiplex_tests x t c mark xs =
    let l = payload_slots (entry_of t c) (length xs) in
    call_tests t c xs ++ slot_tests x l xs ++ piece_tests x mark (placed x.channels l) xs

unfoldable pub demultiplexed : DemuxLent → (table : List ℕ) → (code : ℕ) → (mark : Bool) → List ℕ → Ended ℕ DemuxLent
demultiplexed x t c mark xs =
    let d = delivery x.channels x.held mark (placed x.channels (payload_slots (entry_of t c) (length xs))) xs in
    checked (refusing x) (demultiplex_tests x t c mark xs) (leaving d.count (writes d x.output x.units))

-- ---- a call's slices

abbrev pub lent : Channels → (held output units : Slice) → DemuxLent
lent s held output units = record { channels = s; held = held.entry.now; output = output.entry.now; units = units.entry.now }

abbrev pub hands_back : Result ℕ Refusal → Channels → (held output units : Slice) → Ended ℕ DemuxLent
hands_back r s held output units =
    ended (says r) (record { channels = s; held = held.exit.now; output = output.exit.now; units = units.exit.now })
