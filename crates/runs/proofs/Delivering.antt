-- Demand 2 is met: what is kept of both ends is the demand.
--
--   each_on           units alike, and those of one channel
--   accepts           an end takes the payload that comes next
--   serves            an end makes a payload where no refusal applies
--   begin-kept        both ends fresh
--   demand_met        the theorem
--
-- Assumes nothing.
use mathlib.Core.Path.{◌≡◌, refl, sym, ap, ap₂, subst, ◌∙◌}
use mathlib.Core.Bool.{Bool, true, false, cond, ◌||◌}
use mathlib.Core.List.{List, [], ◌∷◌, ◌++◌, append-nil}
use Prim.Native.Nat.{ℕ, ◌+◌, ◌≤◌}
use native.Mathlib.Omega.{arith}
use borrow.Author.Tests.{le-ltb, eqb-false}
use lib.Dec.{eqb}
use lib.ListN.{length, length-append}
use Rattle.octets.specs.Tests.{never}
use Rattle.octets.specs.Each.{Each, each_none, each_more, each-length, each-any}
use Rattle.octets.specs.Written.{written}
use Rattle.calls.specs.Refusal.{Told, refused, told, Ended, leaving, refusing}
use Rattle.calls.proofs.Laws.{both_tests, told-refused}
use Rattle.table.specs.Slots.{payload_slots}
use Rattle.table.specs.Table.{entry_of}
use Rattle.channels.specs.declared.Channels.{Channels}
use Rattle.multiplex.specs.Pieces.{total}
use Rattle.multiplex.specs.Demultiplexer.{DemuxLent, delivery, too_small, writes, demultiplexed}
use Rattle.multiplex.specs.declared.multiplexer.Payload.{Payload}
use Rattle.multiplex.specs.Multiplexer.{MuxLent, Walk, walked, gathered, multiplex_tests, multiplexed}
use Rattle.multiplex.specs.Units.{UnitOn, units_on}
use Rattle.multiplex.specs.Calls.{made, finished, telling, ours, called_by}
use Rattle.multiplex.proofs.Laws.{unit_octets}
use Rattle.runs.specs.Runs.{Side, near, far, other, Parcel, End, World, end_at, Lent, begin}
use Rattle.runs.specs.Demand.{without_last, is_waiting, wholly_sent, Accepts, Serves, Delivers, Demand2}
use Rattle.runs.proofs.Matching.{Matched}
use Rattle.runs.proofs.Shadowing.{UnitAlike}
use Rattle.runs.proofs.Going.{Way, way-none, welcome, few-units}
use Rattle.runs.proofs.Linking.{Linked, LinkedEnds, linked_come, linked-more, linked-start, told-once}
use Rattle.runs.proofs.Stepping.{Kept, run-kept}

-- ---- by channel

either : {R : List ℕ → List ℕ → Type 0} (b : Bool) (x y : List ℕ) {xs ys : List (List ℕ)} → R x y → Each R xs ys
    → Each R (cond b (x ∷ xs) xs) (cond b (y ∷ ys) ys)
either true x y r e = each_more r e
either false x y r e = e

pub each_on : {R : ℕ → ℕ → Type 0} (n : ℕ) {us vs : List UnitOn} → Each (UnitAlike R) us vs → Each (Each R) (units_on n us) (units_on n vs)
unfolding units_on
each_on n each_none = each_none
each_on n (each_more {x = u} {y = v} r e) = rw r.channel (either (eqb v.channel n) u.octets v.octets r.octets (each_on n e))

-- ---- what was wholly sent

last_dropped : (l : List (List ℕ)) (u : List ℕ) → without_last (l ++ u ∷ []) ≡ l
unfolding without_last
last_dropped [] u = refl
last_dropped (v ∷ []) u = refl
last_dropped (v ∷ a ∷ l) u = ap (λ (m : List (List ℕ)). v ∷ m) (last_dropped (a ∷ l) u)

wholly : (b : Bool) (sent got : List (List ℕ)) (u : List ℕ) → sent ≡ got ++ cond b (u ∷ []) [] → got ≡ cond b (without_last sent) sent
wholly true sent got u e = sym (ap without_last e ∙ last_dropped got u)
wholly false sent got u e = sym (e ∙ append-nil got)

complete : {R : ℕ → ℕ → Type 0} (a b : End) → LinkedEnds R a b → (n : ℕ) → b.coming ≡ [] → Each (Each R) (wholly_sent a n) (units_on n b.delivered)
complete {R} a b k n e = by (rw e at k.way) k.matched
  where
    by : {s₁ : Channels} {g₁ : List ℕ} {us : List UnitOn} → Way b.link.table k.s₀ k.g₀ [] s₁ g₁ us
        → Matched a.link.channels a.link.waiting s₁ g₁ a.posted (k.got₀ ++ us) → Each (Each R) (wholly_sent a n) (units_on n b.delivered)
    by way-none m =
        let got : units_on n k.got₀ ≡ wholly_sent a n
        = ap (units_on n) (sym (append-nil k.got₀))
        ∙ wholly (is_waiting a.link.channels n) (units_on n a.posted) (units_on n (k.got₀ ++ [])) _ (m.log n) in
        subst (λ (l : List (List ℕ)). Each (Each R) l (units_on n b.delivered)) got (each_on n k.alike)

-- ---- the payload that comes next

octets_alike : {R : ℕ → ℕ → Type 0} {us vs : List UnitOn} → Each (UnitAlike R) us vs → length (unit_octets us) ≡ length (unit_octets vs)
octets_alike each_none = refl
octets_alike (each_more {x = u} {y = v} {xs = us} {ys = vs} r e) =
    length-append u.octets (unit_octets us) ∙ ap₂ ◌+◌ (each-length r.octets) (octets_alike e) ∙ sym (length-append v.octets (unit_octets vs))

pub accepts : {R : ℕ → ℕ → Type 0} (a b : End) → LinkedEnds R b a → Accepts (λ j. ours) a
unfolding called_by
accepts {R} a b k q rest xs output units i e n ro ru f =
    let lent : DemuxLent = record { channels = a.link.channels; held = a.link.held; output = output; units = units } in
    let k' : Linked R a.link.table b.link.channels b.link.waiting b.posted (q ∷ rest) a.link.channels a.link.held a.delivered
    = subst (λ (l : List Parcel). Linked R a.link.table b.link.channels b.link.waiting b.posted l a.link.channels a.link.held a.delivered)
    e k in
    let c = linked_come (linked-more {S = λ x y. Unit {0}} (λ x y r. tt) k') xs (each-any (λ x y. Unit {0}) (λ x y. tt) q.octets xs n) in
    let d = delivery a.link.channels a.link.held q.mark c.went.pieces xs in
    let p = c.parallel in
    let octets : length d.octets ≤ length output = omega (
      arith,
      ro,
      ap (λ (l : List ℕ). length l) p.tells.octets,
      octets_alike p.alike,
      ap (λ (l : List ℕ). length l) p.tells₀.octets,
      c.went.octets,
    ) in
    let few : length d.units ≤ length units = omega (
      arith,
      ru,
      few-units p.tells,
      each-length p.alike,
      ap (λ (l : List UnitOn). length l) (told-once p.tells₀ c.went.tells),
      c.went.few,
    ) in
    let small : too_small d output units ≡ false
    = ap₂ (λ (a b : Bool). a || b) (le-ltb (length output) (length d.octets) octets) (le-ltb (length units) (length d.units) few) in
    let z : demultiplexed lent a.link.table q.code q.mark xs ≡ leaving d.count (writes d output units) =
    welcome lent c.welcomed ∙ ap (λ (t : Bool). cond t (refusing lent 3) (leaving d.count (writes d output units))) small in
    told-refused (ap (λ (r : Ended ℕ DemuxLent). telling r.answer (λ j. finished j r.left.output r.left.units)) z) f

-- ---- a payload that is made

pub serves : (e : End) → Serves (λ j. ours) e
unfolding called_by multiplexed
serves e c room payload =
    let lent : MuxLent = record { channels = e.link.channels; payload = payload } in
    let w : Walk = walked e.link.channels (payload_slots (entry_of e.link.table c) room) in
    both_tests
    (λ (x : Told (Unit {0})) (y : Ended Payload MuxLent).
    x ≡ told tt → (p : Payload) × (left : List ℕ) × (telling y.answer (λ p. made p y.left.payload) ≡ told (made p left)) × (1 ≤ p.octets))
    refused (refusing lent) (multiplex_tests lent e.link.table c room) (told tt) _ (λ k f. never (cc))
    (λ none f.
    let some : eqb (total w.pieces) 0 ≡ false = search none in (
      record { octets = total w.pieces; mark = w.mark },
      written payload 0 (gathered e.link.channels e.link.waiting w.pieces),
      refl,
      omega (arith, eqb-false (total w.pieces) 0 some),
    ))

-- ---- the demand

delivers : {R : ℕ → ℕ → Type 0} (x : World) → Kept R x → Delivers R (λ j. ours) x
delivers {R} x k = record {
  unrefused = none;
  complete = all;
  accepts = next;
  serves = λ i. serves (end_at x i);
}
  where
    none : (i : Side) → (end_at x i).refusals ≡ 0
    none near = k.unrefused
    none far = k.unrefused₁

    all : (i : Side) (n : ℕ) → (end_at x (other i)).coming ≡ [] → Each (Each R) (wholly_sent (end_at x i) n) (units_on n (end_at x (other i)).delivered)
    all near = complete x.near_end x.far_end k.there
    all far = complete x.far_end x.near_end k.back

    next : (i : Side) → Accepts (λ j. ours) (end_at x i)
    next near = accepts x.near_end x.far_end k.back
    next far = accepts x.far_end x.near_end k.there

pub begin-kept : (R : ℕ → ℕ → Type 0) (l : Lent) → Kept R (begin l)
begin-kept R l = record {
  tables = refl;
  unrefused = refl;
  unrefused₁ = refl;
  there = linked-start R _ l.waiting l.held' l.waiting_room l.held_room';
  back = linked-start R _ l.waiting' l.held l.waiting_room' l.held_room;
}

pub demand_met : Demand2 (λ j. ours)
demand_met R l es p = delivers _ (run-kept R es (begin l) (begin-kept R l) p)
