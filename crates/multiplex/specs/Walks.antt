-- What the multiplexer's inner functions promise, by the definitions of the walk.
--
--   turned c n        what becomes of a slot of n octets of channel c
--   slotted cs ls     the slots of these channels and lengths
--   Sendable s l      the pieces l can be sent, one after another: each has a place, and no more octets than wait there
--   left_all s l      the channels after the pieces l were sent
--   Gatherable        pieces of these places and lengths can be gathered into so much room
--   WalkIs w r ps ls  r gives the walk w, whose pieces stand in the places ps and lengths ls
--   Walks w o ps ls   .. where every channel that it reaches is open; else there is nothing
--
-- Assumes nothing.
use Rattle.std.specs.Prelude.{◌≡◌, true, false, cond, List, [], ◌∷◌, ℕ, ◌≤◌, ◌<◌, length, take, Option, Some, None}
use Rattle.table.specs.Table.{longest_payload}
use Rattle.table.specs.Slots.{Slot}
use Rattle.channels.specs.declared.Channel.{Channel}
use Rattle.channels.specs.declared.Channels.{Channels}
use Rattle.multiplex.specs.declared.multiplexer.Turn.{Turn}
use Rattle.multiplex.specs.declared.multiplexer.Turn.TheVariants.{Stop, On, Last}
use Rattle.multiplex.specs.declared.multiplexer.Walked.{Walked}
use Rattle.channels.specs.Channels.{place_count, all_octets, channel_at, waits}
use Rattle.multiplex.specs.Pieces.{Piece, paired, laid, total}
use Rattle.multiplex.specs.Multiplexer.{is_blocked, goes_on, moved, left, Walk}

unfoldable pub turned : Channel → ℕ → Turn
turned c n = cond (is_blocked c n) Stop (cond (goes_on c n) (On (moved c n)) (Last (moved c n)))

abbrev pub slotted : List ℕ → List ℕ → List Slot
slotted cs ls = paired (λ c n. record { channel = c; octets = n }) cs ls

unfoldable pub Sendable : Channels → List Piece → Type 0
Sendable s [] = Unit {0}
Sendable s (q ∷ l) = (q.place < place_count) × (q.octets ≤ waits (channel_at s q.place)) × Sendable (left s q.place q.octets) l

unfoldable pub left_all : Channels → List Piece → Channels
left_all s [] = s
left_all s (q ∷ l) = left_all (left s q.place q.octets) l

pub record WalkIs (w : Walk) (r : Walked) (ps ls : List ℕ) : Type 0 where
  pub within : r.count ≤ longest_payload
  pub pieces : laid (take r.count ps) (take r.count ls) ≡ w.pieces
  pub octets : r.octets ≡ total w.pieces
  pub mark : r.mark ≡ w.mark
  pub all_open : true ≡ w.all_open
  pub channels : r.channels ≡ w.channels

abbrev pub Walks : Walk → Option Walked → (ps ls : List ℕ) → Type 0
Walks w (Some r) ps ls = WalkIs w r ps ls
Walks w None ps ls = false ≡ w.all_open

abbrev pub Gatherable : Channels → (waiting places lengths payload : List ℕ) → Type 0
Gatherable s w ps ls xs = (length w ≡ all_octets) × (length ps ≡ length ls) × Sendable s (laid ps ls) × (total (laid ps ls) ≤ length xs)
