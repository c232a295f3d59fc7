-- The claims of specs/Claims.antt, proved.
--
--   calls_refuse, list_read, octets-once, order-kept, sent-once, lasts-rise, six_exactly, closing-never_six   the claims
--
-- Assumes nothing.
use mathlib.Core.Path.{◌≡◌, sym, ap₂, subst, ◌∙◌}
use mathlib.Core.Bool.{Bool, true, false, not, ◌&&◌}
use mathlib.Core.List.{List, ◌++◌, flatten}
use Prim.Native.Nat.{ℕ, ◌≤◌}
use borrow.Author.Tests.{not-false}
use lib.ListN.{length}
use Rattle.table.specs.Slots.{Slot, payload_slots, octets_of, channels_of}
use Rattle.table.proofs.Laws.{payload_slots_most}
use Rattle.table.specs.Table.{entry_of}
use Rattle.channels.specs.declared.Channels.{Channels}
use Rattle.channels.specs.Channels.{place_of, channel_at, held_of}
use Rattle.multiplex.specs.Pieces.{placed, last_place}
use Rattle.multiplex.specs.Demultiplexer.{DemuxLent, nothing, took_all, delivery}
use Rattle.multiplex.specs.Units.{UnitOn, units_on, units_in}
use Rattle.channels.specs.Claims.{Orderly}
use Rattle.multiplex.specs.Claims.{CallsRefuse, ListRead, going_to, OctetsOnce, OrderKept, SentOnce, LastsRise, SixExactly, ClosingNeverSix}
use Rattle.channels.proofs.Laws.{place-seats, segmentable-place}
use Rattle.multiplex.proofs.Records.{tells_read}
use Rattle.multiplex.proofs.Keeping.{Holds, nothing-holds, slots_hold, closed-holds, last-known}
use Rattle.multiplex.proofs.Unrefused.{Unrefused, is-accepted}
use Rattle.multiplex.proofs.Calling as calling
use Rattle.multiplex.proofs.Listing as listing
use Rattle.multiplex.proofs.Leaving as leaving
use Rattle.multiplex.proofs.Ordering as ordering
use Rattle.multiplex.proofs.Exceeding as exceeding

pub calls_refuse : CallsRefuse
calls_refuse = calling.calls_refuse

pub list_read : ListRead
list_read = listing.list_read

pub sent-once : SentOnce
sent-once = leaving.sent-once

pub lasts-rise : LastsRise
lasts-rise = ordering.lasts-rise

-- ---- an accepted payload

module _ (x y : DemuxLent) (mark : Bool) (l : List Slot) (xs : List ℕ) (k n : ℕ) (o : Orderly x.channels x.held) (most : octets_of l ≤ length xs)
    (a : Unrefused x y mark l xs k) where
  abbrev s : Channels
  s = x.channels

  abbrev all : List ℕ
  all = held_of s x.held (place_of s n) ++ going_to n (channels_of l) xs

  all-taken : Holds s n all (took_all (nothing s x.held) (placed s l) xs)
  all-taken = slots_hold l xs (nothing-holds s x.held n o) a.opened a.fitting most

  payload-holds : Holds s n all (delivery s x.held mark (placed s l) xs)
  unfolding delivery
  payload-holds = by mark a.marked
    where
      by : (b : Bool) → (b && not (channel_at s (last_place (placed s l))).segmentable) ≡ false → Holds s n all (delivery s x.held b (placed s l) xs)
      by true e =
          let h = segmentable-place s (last_place (placed s l)) o.full (not-false (channel_at s (last_place (placed s l))).segmentable e) in
          let m = last-known s l h in
          closed-holds all-taken m.0 (last_place (placed s l)) m.1 h
      by false e = all-taken

pub octets-once : OctetsOnce
octets-once x y t c mark xs k n o e =
    let l = payload_slots (entry_of t c) (length xs) in
    let a = is-accepted x y t c mark xs k e in
    let d = delivery x.channels x.held mark (placed x.channels l) xs in
    let h = payload-holds x y mark l xs k n o (payload_slots_most (entry_of t c) (length xs)) a in
    h.all
    ∙ ap₂ (λ (u : List UnitOn) (p : ℕ). flatten (units_on n u) ++ held_of d.channels d.held p)
    (sym (tells_read d h.units x.output x.units h.tells)) (sym (place-seats d.channels x.channels h.alike n))
    ∙ ap₂ (λ (z : DemuxLent) (j : ℕ). flatten (units_on n (units_in z.output z.units j)) ++ held_of z.channels z.held (place_of z.channels n))
    a.left a.count

pub order-kept : OrderKept
order-kept x y t c mark xs k o e =
    let a = is-accepted x y t c mark xs k e in
    let h = payload-holds x y mark (payload_slots (entry_of t c) (length xs)) xs k 0 o (payload_slots_most (entry_of t c) (length xs)) a in
    subst (λ (z : DemuxLent). Orderly z.channels z.held) a.left h.orderly

-- ---- refusal 6

pub six_exactly : SixExactly
six_exactly = exceeding.six_exactly

pub closing-never_six : ClosingNeverSix
closing-never_six = exceeding.closing-never_six
