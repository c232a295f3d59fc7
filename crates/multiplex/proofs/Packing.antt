-- A payload packed: from the slots that the table lays down to what the call answers.
--
--   lays-numbers     the lists keep their lengths
--   lays-lengths
--   lays-within      there are at most as many slots as they have places
--   lays-slots       .. and the slots stand in them
--   walk_over        a walk over what stands in the lists is one over the slots
--   walk-sendable    what a walk left in the lists can be sent
--   walk-fits        .. and fits
--   walk-sends       .. and leaves the channels as the walk does
--   packed-closed    a channel that was reached is not open
--   packed_empty     .. or nothing is sent
--   packed-sent      .. or else the pieces are sent
--
-- Assumes nothing.
use mathlib.Core.Path.{◌≡◌, sym, ap, ap₂, subst, ◌∙◌}
use mathlib.Core.Bool.{false}
use mathlib.Core.List.{List}
use Prim.Native.Nat.{ℕ, ◌≤◌}
use native.Mathlib.Omega.{arith}
use borrow.Author.Tests.{ne_eqb}
use lib.ListN.{length, take}
use Rattle.table.specs.Table.{longest_payload}
use Rattle.octets.specs.Written.{written}
use Rattle.calls.specs.Refusal.{leaving, refusing}
use Rattle.table.specs.declared.walk.Laid.{Laid}
use Rattle.table.specs.Slots.{Slot, payload_slots}
use Rattle.table.proofs.Laws.{payload_slots_most}
use Rattle.table.specs.Lays.{Lays}
use Rattle.channels.specs.declared.Channels.{Channels}
use Rattle.multiplex.specs.declared.multiplexer.Walked.{Walked}
use Rattle.multiplex.specs.Pieces.{laid, total}
use Rattle.multiplex.specs.Multiplexer.{MuxLent, Walk, walked, gathered, packed}
use Rattle.multiplex.specs.Walks.{slotted, Sendable, WalkIs, Walks, left_all}
use Rattle.std.specs.Prelude.{Option}
use Rattle.multiplex.proofs.Laying.{Slotted, lays-slotted}
use Rattle.multiplex.proofs.Leaving.{walk-left}
use Rattle.multiplex.proofs.Slotting.{slotted-back}
use Rattle.multiplex.proofs.Walking.{walked-sendable, walked-most}

module _ (entry : List ℕ) (room : ℕ) (few : room ≤ longest_payload) where
  module _ (r : Laid) (cs₀ ls₀ cs ls : List ℕ) (lays : Lays (record { count = 0; left = room }) (payload_slots entry room) r cs₀ ls₀ cs ls)
      (a : length cs₀ ≡ longest_payload) (b : length ls₀ ≡ longest_payload) where
    down : Slotted (payload_slots entry room) room r cs ls
    down = lays-slotted entry room few r cs₀ ls₀ cs ls a b lays

    pub lays-numbers : length cs ≡ longest_payload
    lays-numbers = down.for_channels

    pub lays-lengths : length ls ≡ longest_payload
    lays-lengths = down.for_lengths

    pub lays-within : r.count ≤ longest_payload
    lays-within = omega (arith, down.count, down.few)

    pub lays-slots : slotted (take r.count cs) (take r.count ls) ≡ payload_slots entry room
    lays-slots = ap₂ slotted down.channels down.lengths ∙ slotted-back (payload_slots entry room)

    -- what a walk over what stands in the lists gives
    pub walk_over : (s : Channels) (o : Option Walked) (ps ns : List ℕ)
        → Walks (walked s (slotted (take r.count cs) (take r.count ls))) o ps ns → Walks (walked s (payload_slots entry room)) o ps ns
    walk_over s o ps ns is = subst (λ (l : List Slot). Walks (walked s l) o ps ns) lays-slots is

  -- what it leaves in them
  module _ (s : Channels) (r : Walked) (ps ls : List ℕ) (is : WalkIs (walked s (payload_slots entry room)) r ps ls) where
    pub walk-sendable : Sendable s (laid (take r.count ps) (take r.count ls))
    walk-sendable = subst (Sendable s) (sym is.pieces) (walked-sendable s (payload_slots entry room))

    pub walk-fits : total (laid (take r.count ps) (take r.count ls)) ≤ room
    walk-fits = rw is.pieces (omega (arith, walked-most s (payload_slots entry room), payload_slots_most entry room))

    pub walk-sends : left_all s (laid (take r.count ps) (take r.count ls)) ≡ r.channels
    walk-sends = ap (left_all s) is.pieces ∙ sym (is.channels ∙ walk-left (payload_slots entry room) s)

-- ---- the answer

module _ (x : MuxLent) (w : List ℕ) (v : Walk) where
  pub packed-closed : false ≡ v.all_open → refusing x 5 ≡ packed x w v
  unfolding packed
  packed-closed e = rw (← e)

  module _ (r : Walked) (ps ls : List ℕ) (is : WalkIs v r ps ls) where
    pub packed_empty : r.octets ≡ 0 → refusing x 9 ≡ packed x w v
    unfolding packed
    packed_empty z = rw (← is.all_open, ← is.octets, z)

    pub packed-sent : (r.octets ≡ 0 → ⊥)
        → leaving (record { octets = r.octets; mark = r.mark })
        (record { channels = r.channels; payload = written x.payload 0 (gathered x.channels w (laid (take r.count ps) (take r.count ls))) })
        ≡ packed x w v
    unfolding packed
    packed-sent z = rw (← is.all_open, ← is.octets, ne_eqb _ _ z, is.mark, is.channels, is.pieces)
