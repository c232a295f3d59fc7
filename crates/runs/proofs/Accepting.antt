-- A payload that the multiplexer made is welcome at the other end, and leads the ends to match again.
--
--   Made              what the multiplexer needs to make a payload: the code's entry, a room, and open channels
--   parcel            the payload
--   sound             what the receiver makes of it is sound
--   going             it is welcome at the receiver, and what it leads to
--   carried_over      .. where the ends match
--   payload-front     it is the front of what the sender was lent
--
-- Assumes nothing.
use mathlib.Core.Path.{◌≡◌, refl, sym, ap, subst, ◌∙◌}
use mathlib.Core.Bool.{true}
use mathlib.Core.List.{List, [], ◌++◌, append-nil}
use Prim.Native.Nat.{ℕ, ◌≤◌, min}
use native.Mathlib.Omega.{arith}
use lib.ListN.{length, take}
use Rattle.octets.specs.Written.{written, written_front}
use Rattle.table.specs.Slots.{Slot, payload_slots, octets_of, cut, numbers_of}
use Rattle.table.proofs.Laws.{cut_octets, payload_slots_filled, payload_slots_most, payload_slots-cut}
use Rattle.table.specs.Table.{entry_of, is_defined, longest_payload}
use Rattle.channels.specs.declared.Channels.{Channels}
use Rattle.channels.specs.Channels.{all_open}
use Rattle.multiplex.specs.Pieces.{placed, total}
use Rattle.multiplex.specs.Demultiplexer.{Delivery, nothing, delivery}
use Rattle.multiplex.specs.Multiplexer.{Walk, walked, gathered}
use Rattle.multiplex.specs.Units.{UnitOn}
use Rattle.multiplex.proofs.Laws.{tells-nothing}
use Rattle.runs.specs.Runs.{Parcel}
use Rattle.runs.proofs.Matching.{Matched}
use Rattle.multiplex.proofs.Laws.{Agrees, walk-agrees}
use Rattle.runs.proofs.Passing.{Sound}
use Rattle.runs.proofs.Carrying.{carried, Carried, walk-carried}
use Rattle.runs.proofs.Going.{Welcome, Going}

pub record Made (s : Channels) (t : List ℕ) (c room : ℕ) : Type 0 where
  pub defined : is_defined t c ≡ true
  pub small : room ≤ longest_payload
  pub known : (walked s (payload_slots (entry_of t c) room)).all_open ≡ true

module _ {s : Channels} {w : List ℕ} {r : Channels} {h : List ℕ} {sent got : List UnitOn} (m : Matched s w r h sent got) (t : List ℕ) (c room : ℕ)
    (made : Made s t c room) where
  abbrev l : List Slot
  l = payload_slots (entry_of t c) room

  abbrev x : Walk
  x = walked s l

  abbrev octets : List ℕ
  octets = gathered s w x.pieces

  abbrev pub parcel : Parcel
  parcel = record { code = c; mark = x.mark; octets = octets }

  agrees : Agrees r l x
  agrees = walk-agrees l r s (payload_slots_filled (entry_of t c) room) m.alike

  carries : Carried s w sent got (nothing r h) x
  carries = walk-carried w sent got l s (nothing r h) (payload_slots_filled (entry_of t c) room)
      (record { units = []; tells = tells-nothing r h; matched = subst (Matched s w r h sent) (sym (append-nil got)) m }) made.known

  abbrev result : Delivery
  result = delivery r h x.mark x.pieces octets

  is_carried : carried (nothing r h) x.mark x.pieces octets ≡ result
  unfolding carried delivery
  is_carried = refl

  within : total x.pieces ≤ room
  within = omega (arith, agrees.within, payload_slots_most (entry_of t c) room)

  -- the receiver's slots are the sender's, cut to what was sent
  same-slots : payload_slots (entry_of t c) (length octets) ≡ cut (total x.pieces) l
  same-slots =
      let e : min (total x.pieces) room ≡ length octets = omega (arith, within, carries.size) in
      sym (payload_slots-cut (entry_of t c) (total x.pieces) room ∙ ap (payload_slots (entry_of t c)) e)

  pub sound : Sound x.channels w sent got result
  sound = subst (Sound x.channels w sent got) is_carried carries.sound

  welcomed : Welcome r t c x.mark x.pieces octets
  welcomed =
      let sizes : octets_of (cut (total x.pieces) l) ≡ total x.pieces = omega (arith, cut_octets (total x.pieces) l, agrees.within) in
      record {
        short = omega (arith, within, carries.size, made.small);
        defined = made.defined;
        enough = omega (arith, ap octets_of same-slots, sizes, carries.size);
        opened = ap (λ (l : List Slot). all_open r (numbers_of l)) same-slots ∙ agrees.opened;
        pieced = ap (placed r) same-slots ∙ agrees.same;
        marked = carries.marked;
        fitting = carries.fitting;
      }

  pub going : Going t r h parcel result.channels result.held sound.units
  going = record {
    pieces = x.pieces;
    welcomed = welcomed;
    tells = sound.tells;
    channels = refl;
    held = refl;
    octets = omega (arith, ap (λ (a : Delivery). length a.octets) is_carried, carries.octets, within, made.small);
    few = omega (arith, sound.tells.count, ap (λ (a : Delivery). a.count) is_carried, carries.count, agrees.many, within, made.small);
  }

  pub carried_over : Matched x.channels w result.channels result.held sent (got ++ sound.units)
  carried_over = sound.matched

  pub payload-front : (lent : List ℕ) → room ≤ length lent → take (total x.pieces) (written lent 0 octets) ≡ octets
  payload-front lent h =
      ap (λ (j : ℕ). take j (written lent 0 octets)) (sym carries.size) ∙ written_front lent octets (omega (arith, within, carries.size))
