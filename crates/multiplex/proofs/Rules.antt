-- Document 01's rules of one payload hold of the definitions: the claims of specs/Rules.antt.
--
--   octets-flat, tale, told-units, units_are, flat   what an accepted call tells of, by its delivery: its units, their list, and their octets
--   slot_is_unit, mark_ends, three_exactly, demux_rest   of the demultiplexer; refusal 8 is in Admitting
--   walk_makes               of the multiplexer; how far its walk goes is in Advancing
--
-- Assumes nothing.
use mathlib.Core.Path.{◌≡◌, refl, sym, ap, ap₂, subst, ◌∙◌}
use mathlib.Core.Logic.{◌⊎◌}
use mathlib.Core.Bool.{Bool, true, false, cond, not, ◌&&◌}
use mathlib.Core.List.{List, [], ◌∷◌, ◌++◌, map, flatten}
use Prim.Native.Nat.{ℕ, ◌+◌, ◌*◌, ◌≤◌, ◌<◌}
use native.Mathlib.Decide.{ℕ_discrete}
use native.Mathlib.Omega.{arith}
use borrow.Author.Tests.{eqb-false, eq-eqb, ne_eqb, not-false}
use lib.Dec.{eqb}
use lib.ListN.{length, drop}
use lib.Seq.{take-append_seam}
use Rattle.octets.specs.Tests.{never}
use Rattle.octets.specs.Exact.{either_less}
use Rattle.octets.specs.Written.{written}
use Rattle.calls.specs.Refusal.{refused, Ended, leaving, refusing}
use Rattle.calls.proofs.Laws.{told-refused, leaving-same, by_tests, given_exactly, checked_refuses}
use Rattle.table.specs.Slots.{Slot, payload_slots, channels_of}
use Rattle.table.specs.Table.{entry_of}
use Rattle.table.proofs.Laws.{payload_slots_most}
use Rattle.channels.specs.declared.Channels.{Channels}
use Rattle.channels.specs.Channels.{place_count, place_of, channel_at, held_of}
use Rattle.channels.specs.Claims.{Orderly, channel_of}
use Rattle.channels.proofs.Laws.{segmentable-place, place_unique}
use Rattle.multiplex.specs.Pieces.{placed, last_place, total}
use Rattle.multiplex.specs.Demultiplexer.{Delivery, DemuxLent, nothing, took_all, closed, delivery, too_small, writes, demultiplex_tests, demultiplexed}
use Rattle.multiplex.specs.declared.multiplexer.Payload.{Payload}
use Rattle.multiplex.specs.Multiplexer.{MuxLent, walked, multiplex_tests, multiplexed}
use Rattle.multiplex.specs.Units.{UnitOn, units_on, units_in}
use Rattle.multiplex.specs.Claims.{going_to, held_on}
use Rattle.multiplex.specs.Rules.{finished_octets, SlotIsUnit, MarkEnds, ThreeExactly, DemuxRest, WalkMakes}
use Rattle.multiplex.proofs.Records.{rest-stays, unit_octets, records, records-length, tells-nothing, tells_read}
use Rattle.multiplex.proofs.Adjacent.{Has, has-slots, has-joined-slots, has_else, has-unit, has-delivery}
use Rattle.multiplex.proofs.Keeping.{nothing-holds, slots_hold, last-known}
use Rattle.multiplex.proofs.Lying.{Tale, tale-delivery}
use Rattle.multiplex.proofs.Unrefused.{is-accepted}
use Rattle.multiplex.proofs.Refusing.{small-not}

-- ---- each slot is a unit, or the mark ends one

-- a payload that was accepted, and the channel n
module _ (x y : DemuxLent) (t : List ℕ) (c : ℕ) (mark : Bool) (xs : List ℕ) (k n : ℕ) (o : Orderly x.channels x.held)
    (e : demultiplexed x t c mark xs ≡ leaving k y) where
  abbrev s : Channels
  s = x.channels

  abbrev l : List Slot
  l = payload_slots (entry_of t c) (length xs)

  abbrev all : Delivery
  all = took_all (nothing s x.held) (placed s l) xs

  -- at first nothing is finished
  has-none : Has s n [] (nothing s x.held)
  unfolding units_on
  has-none = record { units = []; tells = tells-nothing s x.held; alike = refl; all = refl }

  -- what the delivery has is what the list tells
  has-told : {us : List (List ℕ)} → Has s n us (delivery s x.held mark (placed s l) xs) → units_on n (units_in y.output y.units k) ≡ us
  has-told h =
      let a = is-accepted x y t c mark xs k e in
      ap₂ (λ (z : DemuxLent) (j : ℕ). units_on n (units_in z.output z.units j)) (sym a.left) (sym a.count)
      ∙ ap (units_on n) (tells_read _ h.units x.output x.units h.tells) ∙ h.all

  -- the mark ends a unit of the last piece's channel, which is segmentable
  has-marked : {us now : List (List ℕ)} → Has s n us all → (mark ≡ false → us ≡ now)
      → ((m : ℕ) → place_of s m ≡ last_place (placed s l) → place_of s m < place_count → (channel_of s m).segmentable ≡ true → mark ≡ true
      → Has s n now (closed all (place_of s m)))
      → Has s n now (delivery s x.held mark (placed s l) xs)
  has-marked {us} {now} h none close =
      has-delivery s o.full n x.held mark (placed s l) xs h none
      (λ set.
      let wrong : (true && not (channel_at s (last_place (placed s l))).segmentable) ≡ false =
      ap (λ (b : Bool). b && not (channel_at s (last_place (placed s l))).segmentable) (sym set) ∙ (is-accepted x y t c mark xs k e).marked in
      let g = not-false (channel_at s (last_place (placed s l))).segmentable wrong in
      let inside = segmentable-place s (last_place (placed s l)) o.full g in
      let m = last-known s l inside in
      subst (λ (j : ℕ). Has s n now (closed all j)) m.1
      (close m.0 m.1 (rw m.1 inside) (ap (λ (j : ℕ). (channel_at s j).segmentable) m.1 ∙ g) set))

  -- what a segmentable channel holds once all has come: it was held, or came
  module _ (g : (channel_of s n).segmentable ≡ true) where
    abbrev unit : List ℕ
    unit = held_of all.channels all.held (place_of s n)

    has_all : Has s n [] all
    has_all = has-joined-slots s o.full n g l xs has-none (is-accepted x y t c mark xs k e).opened

    unit-all : unit ≡ held_on x n ++ going_to n (channels_of l) xs
    unfolding flatten
    unit-all =
        let a = is-accepted x y t c mark xs k e in
        let h = slots_hold l xs (nothing-holds s x.held n o) a.opened a.fitting (payload_slots_most (entry_of t c) (length xs)) in
        let same : h.units ≡ has_all.units = sym (tells_read all h.units [] [] h.tells) ∙ tells_read all has_all.units [] [] has_all.tells in
        sym (h.all ∙ ap (λ (us : List (List ℕ)). flatten us ++ unit) (ap (units_on n) same ∙ has_all.all))

    abbrev is_last : Bool
    is_last = eqb (last_place (placed s l)) (place_of s n)

    -- the mark on its own channel, and on another
    has_last : (m : ℕ) → place_of s m ≡ last_place (placed s l) → place_of s m < place_count → mark ≡ true → Dec (m ≡ n)
        → Has s n (cond (mark && is_last) (unit ∷ []) []) (closed all (place_of s m))
    has_last m q inside set (yes i) =
        let h = has-unit s o.full n has_all m inside i in
        rw (set, eq-eqb (last_place (placed s l)) (place_of s n) (sym q ∙ ap (place_of s) i))
        (subst (λ (j : ℕ). Has s n (held_of all.channels all.held j ∷ []) (closed all (place_of s m))) (ap (place_of s) i) h)
    has_last m q inside set (no f) =
        let off : last_place (placed s l) ≡ place_of s n → ⊥ = λ i. f (place_unique s o.full m n (place_of s m) inside refl (sym (q ∙ i))) in
        rw (set, ne_eqb (last_place (placed s l)) (place_of s n) off) (has_else s o.full n has_all m inside f)

pub slot_is_unit : SlotIsUnit
slot_is_unit x y t c mark xs k n o whole e =
    let s = x.channels in
    let l = payload_slots (entry_of t c) (length xs) in
    let h = has-slots s o.full n whole l xs (has-none x y t c mark xs k n o e) (is-accepted x y t c mark xs k e).opened in
    has-told x y t c mark xs k n o e
    (has-marked x y t c mark xs k n o e h (λ none. refl) (λ m q inside g set.
    has_else s o.full n h m inside
    (λ i. let z : false ≡ true = sym whole ∙ ap (λ (j : ℕ). (channel_of s j).segmentable) (sym i) ∙ g in never (cc))))

pub mark_ends : MarkEnds
mark_ends x y t c mark xs k n o g e =
    has-told x y t c mark xs k n o e
    (has-marked x y t c mark xs k n o e (has_all x y t c mark xs k n o e g) (λ none. rw none)
    (λ m q inside z set. has_last x y t c mark xs k n o e g m q inside set (ℕ_discrete m n)))
    ∙ ap (λ (u : List ℕ). cond (mark && is_last x y t c mark xs k n o e g) (u ∷ []) []) (unit-all x y t c mark xs k n o e g)

-- ---- what stands behind

pub octets-flat : (l : List UnitOn) → flatten (map (λ (u : UnitOn). u.octets) l) ≡ unit_octets l
unfolding flatten
octets-flat [] = refl
octets-flat (u ∷ l) = ap (λ (x : List ℕ). u.octets ++ x) (octets-flat l)

-- what an accepted call tells of, by its delivery
module _ (x y : DemuxLent) (t : List ℕ) (c : ℕ) (mark : Bool) (xs : List ℕ) (k : ℕ) (e : demultiplexed x t c mark xs ≡ leaving k y) where
  abbrev d : Delivery
  d = delivery x.channels x.held mark (placed x.channels (payload_slots (entry_of t c) (length xs))) xs

  pub tale : Tale d
  tale = tale-delivery x.channels x.held mark (placed x.channels (payload_slots (entry_of t c) (length xs))) xs

  pub told-units : units_in y.output y.units k ≡ tale.0
  told-units =
      let a = is-accepted x y t c mark xs k e in
      ap₂ (λ (z : DemuxLent) (j : ℕ). units_in z.output z.units j) (sym a.left) (sym a.count) ∙ tells_read d tale.0 x.output x.units tale.1

  pub flat : finished_octets y k ≡ d.octets
  flat = ap (λ (l : List UnitOn). flatten (map (λ (u : UnitOn). u.octets) l)) told-units ∙ octets-flat tale.0 ∙ sym tale.1.octets

  pub units_are : (k ≡ length tale.0) × (y.units ≡ records 0 tale.0 ++ drop (0 + length (records 0 tale.0)) x.units)
  units_are =
      let a = is-accepted x y t c mark xs k e in (
        sym a.count ∙ tale.1.count,
        ap (λ (z : DemuxLent). z.units) (sym a.left) ∙ ap (written x.units 0) tale.1.units,
      )

  size : length d.units ≡ 3 * k
  size =
      ap (λ (l : List ℕ). length l) tale.1.units ∙ records-length tale.0 0
      ∙ ap (λ (j : ℕ). 3 * j) (sym tale.1.count ∙ (is-accepted x y t c mark xs k e).count)

pub demux_rest : DemuxRest
demux_rest x y t c mark xs k e =
    let left = (is-accepted x y t c mark xs k e).left in
    let r = d x y t c mark xs k e in
    let out : y.output ≡ written x.output 0 r.octets = ap (λ (z : DemuxLent). z.output) (sym left) in
    let list : y.units ≡ written x.units 0 r.units = ap (λ (z : DemuxLent). z.units) (sym left) in (
      rw (flat x y t c mark xs k e, out) (take-append_seam r.octets _),
      rw (flat x y t c mark xs k e, out) (rest-stays x.output r.octets (length r.octets) refl),
      rw list (rest-stays x.units r.units (3 * k) (size x y t c mark xs k e)),
    )

-- ---- refusal 3

-- x with other room
abbrev lent_else : DemuxLent → (output units : List ℕ) → DemuxLent
lent_else x o u = record { channels = x.channels; held = x.held; output = o; units = u }

module _ (x : DemuxLent) (t : List ℕ) (c : ℕ) (mark : Bool) (xs : List ℕ) where
  abbrev r : Delivery
  r = delivery x.channels x.held mark (placed x.channels (payload_slots (entry_of t c) (length xs))) xs

  abbrev Needed : (output units : List ℕ) → (k : ℕ) → (y : DemuxLent) → Type 0
  Needed o u k y =
      (demultiplexed (lent_else x o u) t c mark xs ≡ leaving k y)
      × ((length x.output < length (finished_octets y k)) ⊎ (length x.units < 3 * k))

  -- the room that is just enough
  three_needed : (demultiplexed x t c mark xs).answer ≡ refused 3 → Needed r.octets r.units r.count (writes r r.octets r.units)
  unfolding demultiplexed
  three_needed e =
      let l = demultiplex_tests x t c mark xs in
      let g = (given_exactly 3 l refl).0 (((checked_refuses x l _ _).exactly 3).0 e) in
      let some : demultiplexed (lent_else x r.octets r.units) t c mark xs ≡ leaving r.count (writes r r.octets r.units) =
      rw (g.0, g.1.0, g.1.1.0, g.1.1.1.0, g.1.1.1.1.0, g.1.1.1.1.1.0, small-not r r.octets r.units (omega arith) (omega arith)) in
      let y = writes r r.octets r.units in (
        some,
        rw (flat (lent_else x r.octets r.units) y t c mark xs r.count some, ← size (lent_else x r.octets r.units) y t c mark xs r.count some)
            ((either_less (length x.output) (length r.octets) (length x.units) (length r.units)).0 g.1.1.1.1.1.1),
      )

  needed_three : (o u : List ℕ) (k : ℕ) (y : DemuxLent) → Needed o u k y → (demultiplexed x t c mark xs).answer ≡ refused 3
  unfolding demultiplexed
  needed_three o u k y h =
      let lack : too_small r x.output x.units ≡ true =
      (either_less (length x.output) (length r.octets) (length x.units) (length r.units)).1 (rw (flat (lent_else x o u) y t c mark xs k h.0, ← size (lent_else x o u) y t c mark xs k h.0) at h).1 in
      by_tests (λ (q : Ended ℕ DemuxLent). q ≡ leaving k y → (demultiplexed x t c mark xs).answer ≡ refused 3) (refusing (lent_else x o u))
      (demultiplex_tests (lent_else x o u) t c mark xs) _ (λ i e. told-refused (ap (λ (q : Ended ℕ DemuxLent). q.answer) e) refl)
      (λ g e. rw (g.0, g.1.0, g.1.1.0, g.1.1.1.0, g.1.1.1.1.0, g.1.1.1.1.1.0, lack)) h.0

pub three_exactly : ThreeExactly
three_exactly x t c mark xs = (
  λ e. ((r x t c mark xs).octets, (r x t c mark xs).units, (r x t c mark xs).count, _, (three_needed x t c mark xs e).0, (three_needed x t c mark xs e).1),
  λ h. needed_three x t c mark xs h.0 h.1 h.2 h.3 (h.4, h.5),
)

-- ---- what is made

pub walk_makes : WalkMakes
unfolding multiplexed
walk_makes x y w t c room p =
    let r = walked x.channels (payload_slots (entry_of t c) room) in
    by_tests
    (λ (e : Ended Payload MuxLent). e ≡ leaving p y
    → (r.all_open ≡ true) × (1 ≤ p.octets) × (p.octets ≡ total r.pieces) × (p.mark ≡ r.mark) × (y.channels ≡ r.channels))
    (refusing x) (multiplex_tests x t c room) _ (λ i e. told-refused (ap (λ (z : Ended Payload MuxLent). z.answer) e) refl)
    (λ none e.
    let shut : not r.all_open ≡ false = search none in
    let some : eqb (total r.pieces) 0 ≡ false = search none in
    let same = leaving-same _ p _ y e in
    let size = ap (λ (z : Payload). z.octets) (sym same.0) in (
      not-false r.all_open shut,
      omega (arith, size, eqb-false (total r.pieces) 0 some),
      size,
      ap (λ (z : Payload). z.mark) (sym same.0),
      ap (λ (z : MuxLent). z.channels) (sym same.1),
    ))
