-- The multiplexer (000, 6.6; document 01, "Multiplexer").
--
--   is_blocked c n     the walk stops before a slot of n octets of channel c: nothing waits, or c is not segmentable and its unit is
--                     longer. (A slot is cut to the room left, so one comparison serves the slot and the room.)
--   goes_on c n        the walk goes on after it: the slot is filled, and a segmentable unit is not at its end
--   moved c n         how many octets the slot takes
--   left s p n        the channels after n waiting octets of place p were sent
--   Walk              what a walk gives: the pieces that are sent, the closing mark, whether every channel reached is open, and the
--                     channels as it leaves them
--   stopped s o       a walk that sends nothing
--   piece_at s p n     the piece that a slot of n octets at place p gives
--   sending q r       the walk r with the piece q before it
--   ending q s mark   a walk whose last piece is q
--   visit s p n f     the slot of n octets at place p, with f the walk over the rest
--   walked s l        the walk over the slots l
--   gathered s w l    the octets of the pieces l, from those that wait
--   MuxLent              what is lent to write to: the channels and the payload
--   Payload           what is answered: how many octets the payload has, and its closing mark (the code's own)
--   walk_tests r       what refuses, by the walk r
--   multiplex_tests    .. and all that refuses, in this order
--   packed            how the call ends, where only the walk is looked at
--   multiplexed       how the call ends
--   makes             what the multiplexer is lent to write to
--   leaves_made        .. and how the call ends with it
--
-- Assumes nothing.
use Rattle.std.specs.Prelude.{Bool, true, false, cond, not, ◌&&◌, ◌||◌, List, [], ◌∷◌, ◌++◌, ℕ, ◌-◌, min, ltb, eqb, length, take, Result}
use Rattle.octets.specs.Written.{written}
use Rattle.calls.specs.Refusal.{says, Ended, ended, leaving, refusing, Test, ◌when◌, checked}
use Rattle.calls.specs.Slices.{Slice}
use Rattle.table.specs.Slots.{Slot, payload_slots}
use Rattle.table.specs.Table.{longest_payload, entry_of, is_defined}
use Rattle.channels.specs.declared.Channel.{Channel}
use Rattle.channels.specs.declared.Channels.{Channels}
use Rattle.calls.specs.declared.Refusal.{Refusal}
use Rattle.multiplex.specs.declared.multiplexer.Payload.{Payload}
use Rattle.channels.specs.Channels.{channel_at, put, place_of, is_in, waits, waiting, waiting_of}
use Rattle.multiplex.specs.Pieces.{Piece, piece, total}

abbrev pub is_blocked : Channel → ℕ → Bool
is_blocked c n = eqb (waits c) 0 || (not c.segmentable && ltb n (waits c))

abbrev pub goes_on : Channel → ℕ → Bool
goes_on c n = cond c.segmentable (ltb n (waits c)) (eqb (waits c) n)

abbrev pub moved : Channel → ℕ → ℕ
moved c n = min (waits c) n

abbrev pub left : Channels → ℕ → ℕ → Channels
left s p n = put s p (waiting (channel_at s p) (waits (channel_at s p) - n))

pub record Walk : Type 0 where
  pub pieces : List Piece
  pub mark : Bool
  pub all_open : Bool
  pub channels : Channels

abbrev pub stopped : Channels → Bool → Walk
stopped s is_open = record { pieces = []; mark = false; all_open = is_open; channels = s }

abbrev pub piece_at : Channels → ℕ → ℕ → Piece
piece_at s p n = piece p (moved (channel_at s p) n)

abbrev pub sending : Piece → Walk → Walk
sending q r = record { pieces = q ∷ r.pieces; mark = r.mark; all_open = r.all_open; channels = r.channels }

-- the last piece: a segmentable unit has come to its end, or a unit that is shorter than its slot was sent whole
abbrev pub ending : Piece → Channels → Bool → Walk
ending q s mark = record { pieces = q ∷ []; mark = mark; all_open = true; channels = s }

-- the slot of n octets at place p, with `rest` the walk after it
abbrev pub visit : Channels → ℕ → ℕ → (Channels → Walk) → Walk
visit s p n rest =
    cond (is_blocked (channel_at s p) n) (stopped s true)
    (cond (goes_on (channel_at s p) n)
    (sending (piece_at s p n) (rest (left s p (moved (channel_at s p) n))))
    (ending (piece_at s p n) (left s p (moved (channel_at s p) n)) (channel_at s p).segmentable))

unfoldable pub walked : Channels → List Slot → Walk
walked s [] = stopped s true
walked s (x ∷ l) = cond (is_in s x.channel) (visit s (place_of s x.channel) x.octets (λ r. walked r l)) (stopped s false)

unfoldable pub gathered : Channels → List ℕ → List Piece → List ℕ
gathered s w [] = []
gathered s w (q ∷ l) = take q.octets (waiting_of s w q.place) ++ gathered (left s q.place q.octets) w l

pub record MuxLent : Type 0 where
  pub channels : Channels
  pub payload : List ℕ

abbrev pub walk_tests : Walk → List Test
walk_tests r = 5 when not r.all_open ∷ 9 when eqb (total r.pieces) 0 ∷ []

unfoldable pub packed : MuxLent → (waiting : List ℕ) → Walk → Ended Payload MuxLent
packed x w r =
    checked (refusing x) (walk_tests r)
    (leaving (record { octets = total r.pieces; mark = r.mark })
    (record { channels = r.channels; payload = written x.payload 0 (gathered x.channels w r.pieces) }))

abbrev pub multiplex_tests : MuxLent → (table : List ℕ) → (code room : ℕ) → List Test
multiplex_tests x t c room =
    2 when ltb longest_payload room
    ∷ 4 when not (is_defined t c)
    ∷ 3 when ltb (length x.payload) room
    ∷ walk_tests (walked x.channels (payload_slots (entry_of t c) room))

unfoldable pub multiplexed : MuxLent → (waiting table : List ℕ) → (code room : ℕ) → Ended Payload MuxLent
multiplexed x w t c room =
    let r = walked x.channels (payload_slots (entry_of t c) room) in
    checked (refusing x) (multiplex_tests x t c room)
    (leaving (record { octets = total r.pieces; mark = r.mark })
    (record { channels = r.channels; payload = written x.payload 0 (gathered x.channels w r.pieces) }))

-- ---- a call's slices

abbrev pub makes : Channels → (payload : Slice) → MuxLent
makes s payload = record { channels = s; payload = payload.entry.now }

abbrev pub leaves_made : Result Payload Refusal → Channels → (payload : Slice) → Ended Payload MuxLent
leaves_made r s payload = ended (says r) (record { channels = s; payload = payload.exit.now })
