-- Every payload on its way can be written as a packet, where each is made with a room that a packet has.
--
--   WorldPackable     what is on its way to each end can
--   packable-append   one list behind another
--   made_packable     the payload that our library makes
--   packable-after    both ends after what one of them has done
--   fill_packable     a fill packet can be written
--   packets_packable  each permitted event keeps it, whatever the reader is
--
-- Assumes nothing.
use mathlib.Core.Path.{◌≡◌, refl}
use mathlib.Core.Bool.{false, not}
use mathlib.Core.List.{List, [], ◌∷◌, ◌++◌}
use Prim.Native.Nat.{ℕ, ◌≤◌}
use native.Mathlib.Omega.{arith}
use borrow.Author.Tests.{not-false}
use lib.ListN.{length, take, length-take}
use Rattle.calls.specs.Refusal.{Told, refused, told, Ended, refusing}
use Rattle.calls.proofs.Laws.{by_test, by_tests}
use Rattle.table.specs.Slots.{payload_slots}
use Rattle.table.specs.Table.{entry_of, is_defined}
use Rattle.table.proofs.Laws.{defined_most, payload_slots_filled, payload_slots_most}
use Rattle.packets.specs.Packet.{longest, Heading}
use Rattle.multiplex.specs.Pieces.{total}
use Rattle.multiplex.specs.declared.multiplexer.Payload.{Payload}
use Rattle.multiplex.specs.Multiplexer.{MuxLent, Walk, walked, multiplex_tests, multiplexed}
use Rattle.multiplex.specs.Calls as call
use Rattle.multiplex.specs.Calls.{made, telling, ours, called_by, called}
use Rattle.multiplex.proofs.Laws.{Agrees, walk-agrees}
use Rattle.runs.specs.Runs.{Side, near, far, Parcel, End, World, end_at, both, calls, posts, pays, arrives}
use Rattle.runs.specs.Runs.{added, parcels_told, lacks_room, taking, arriving, after, step}
use Rattle.runs.specs.Packets.{fill, Packable, AllPackable, Reader, parcel_at}
use Rattle.runs.specs.Hearing.{PacketEvent, does, hears, fills, hearing, packet_step, PacketPermitted}

abbrev pub WorldPackable : World → Type 0
WorldPackable x = (i : Side) → AllPackable (end_at x i).coming

pub packable-append : (l m : List Parcel) → AllPackable l → AllPackable m → AllPackable (l ++ m)
packable-append [] m a b = b
packable-append (q ∷ l) m a b = (a.0, packable-append l m a.1 b)

-- ---- what our library makes

module _ (e : End) (c room : ℕ) (payload : List ℕ) (small : room ≤ longest) where
  abbrev t : List ℕ
  t = e.link.table

  abbrev lent : MuxLent
  lent = record { channels = e.link.channels; payload = payload }

  abbrev walk : Walk
  walk = walked e.link.channels (payload_slots (entry_of t c) room)

  short : (l : List ℕ) → length (take (total walk.pieces) l) ≤ longest
  short l =
      let a : Agrees e.link.channels (payload_slots (entry_of t c) room) walk
      = walk-agrees (payload_slots (entry_of t c) room) e.link.channels e.link.channels (payload_slots_filled (entry_of t c) room) refl in
      omega (arith, length-take (total walk.pieces) l, a.within, payload_slots_most (entry_of t c) room)

  pub made_packable : AllPackable (added (called e.link (call.multiplexing c room payload)).answer (parcels_told c))
  unfolding called_by multiplexed
  made_packable =
      by_tests (λ (r : Ended Payload MuxLent). AllPackable (added (telling r.answer (λ p. made p r.left.payload)) (parcels_told c)))
      (refusing lent) (multiplex_tests lent t c room) _ (λ k. tt)
      (λ none.
      let d : not (is_defined t c) ≡ false = search none in
      ((defined_most t c (not-false (is_defined t c) d), short _), tt))

-- ---- both ends

pub packable-after : (x : World) (i : Side) (e : End) (l : List Parcel) → WorldPackable x → AllPackable e.coming → AllPackable l
    → WorldPackable (after x i e l)
packable-after x near e l a b c near = b
packable-after x near e l a b c far = packable-append x.far_end.coming l (a far) c
packable-after x far e l a b c near = packable-append x.near_end.coming l (a near) c
packable-after x far e l a b c far = b

arriving_packable : (e : End) (q : Parcel) (rest : List Parcel) (xs output units : List ℕ) → AllPackable e.coming → AllPackable rest
    → AllPackable (arriving (λ j. ours) e (q ∷ rest) xs output units).coming
arriving_packable e q rest xs output units a b =
    let r = called e.link (call.demultiplexing q.code q.mark xs output units) in
    by_test (λ (z : End). AllPackable z.coming) (lacks_room r.answer) {x = e} {y = taking e rest r} (λ h. a) (λ h. b)

hearing_packable : (t : Told Heading) (e : End) (l : List Parcel) (u output units : List ℕ) → AllPackable e.coming → AllPackable l
    → AllPackable (hearing t e l u output units).coming
hearing_packable t e [] u output units a b = a
hearing_packable (refused k) e (q ∷ rest) u output units a b = b.1
hearing_packable (told p) e (q ∷ rest) u output units a b = arriving_packable e (parcel_at p u) rest (parcel_at p u).octets output units a b.1

pub fill_packable : Packable fill
fill_packable = (omega arith, omega arith)

pub packets_packable : (R : ℕ → ℕ → Type 0) (f : Reader) (x : World) (e : PacketEvent) → WorldPackable x → PacketPermitted R x e
    → WorldPackable (packet_step f x e)
unfolding step packet_step
packets_packable R f x (does (both c)) a p = both_packable
  where
    both_packable : WorldPackable (step (λ j. ours) x (both c))
    both_packable near = a near
    both_packable far = a far
packets_packable R f x (does (calls i c)) a p = packable-after x i _ [] a (a i) tt
packets_packable R f x (does (posts i n u)) a p = packable-after x i _ [] a (a i) tt
packets_packable R f x (does (pays i c room payload)) a p = packable-after x i _ _ a (a i) (made_packable (end_at x i) c room payload p)
packets_packable R f x (does (arrives i xs output units)) a p = absurd p
packets_packable R f x (hears i u output units) a p =
    packable-after x i _ [] a (hearing_packable (f u) (end_at x i) (end_at x i).coming u output units (a i) (a i)) tt
packets_packable R f x (fills i u output units) a p =
    packable-after x i _ [] a (hearing_packable (f u) (end_at x i) (fill ∷ (end_at x i).coming) u output units (a i) (fill_packable, a i)) tt
