-- Payloads on their way: what each will lead to, once it comes.
--
--   slots_for t c xs     the slots of the payload xs under code c of the table t
--   Welcome             what a payload needs so that it is refused, if at all, for want of room only
--   welcome             .. then the call ends so
--   welcome-same        .. and so at channels that hold as much, for as many octets
--   result              what a payload leads to
--   Going               a payload that is welcome, and what it leads to: the channels, the octets held, and the units that it finishes; and
--                       the octets and units that are always enough are enough for it
--   Way                 payloads one behind another
--   way-behind          one more behind them
--   came_parallel       a payload whose octets came changed: what it leads to stands to that as each octet does
--   few-units           the numbers that it lists
--
-- Assumes nothing.
use mathlib.Core.Path.{◌≡◌, refl, sym, ap, ap₂, subst, ◌∙◌}
use mathlib.Core.Bool.{Bool, true, false, cond, not, ◌&&◌, ◌||◌}
use mathlib.Core.List.{List, [], ◌∷◌, ◌++◌, append_assoc, append-nil}
use Prim.Native.Nat.{ℕ, ◌+◌, ◌*◌, ◌≤◌}
use native.Mathlib.Omega.{arith}
use borrow.Author.Tests.{le-ltb}
use lib.Dec.{leb}
use lib.ListN.{length}
use Rattle.octets.specs.Each.{Each}
use Rattle.calls.specs.Refusal.{leaving, refusing}
use Rattle.table.specs.Slots.{Slot, payload_slots, octets_of, numbers_of}
use Rattle.table.specs.Table.{entry_of, is_defined, longest_payload}
use Rattle.table.proofs.Laws.{payload_slots_most}
use Rattle.channels.specs.declared.Channels.{Channels}
use Rattle.channels.specs.Channels.{channel_at, all_open, holding, place_octets}
use Rattle.channels.proofs.Laws.{Seat, seat, seats, seat-at, place-seats, segmentable-place}
use Rattle.multiplex.specs.Pieces.{Piece, placed, last_place}
use Rattle.multiplex.specs.Demultiplexer.{Delivery, DemuxLent, nothing, took_all, counted, grown, has_room, fits, delivery, too_small, writes, demultiplexed}
use Rattle.multiplex.specs.Units.{UnitOn, enough_output}
use Rattle.multiplex.proofs.Laws.{Tells, records-length}
use Rattle.runs.specs.Runs.{Parcel}
use Rattle.runs.proofs.Same.{Same, held_count, same_at, same_puts}
use Rattle.runs.proofs.Shadowing.{Shadow, Parallel, none_parallel, slots_parallel, closed_parallel}

abbrev pub slots_for : (t : List ℕ) → (c : ℕ) → (xs : List ℕ) → List Slot
slots_for t c xs = payload_slots (entry_of t c) (length xs)

pub record Welcome (s : Channels) (t : List ℕ) (c : ℕ) (mark : Bool) (l : List Piece) (xs : List ℕ) : Type 0 where
  pub short : length xs ≤ longest_payload
  pub defined : is_defined t c ≡ true
  pub enough : length xs ≤ octets_of (slots_for t c xs)
  pub opened : all_open s (numbers_of (slots_for t c xs)) ≡ true
  pub pieced : placed s (slots_for t c xs) ≡ l
  pub marked : mark ≡ true → (channel_at s (last_place l)).segmentable ≡ true
  pub fitting : fits s l ≡ true

unmarked : (m g : Bool) → (m ≡ true → g ≡ true) → (m && not g) ≡ false
unmarked true g f = ap not (f refl)
unmarked false g f = refl

module _ (x : DemuxLent) {t : List ℕ} {c : ℕ} {mark : Bool} {l : List Piece} {xs : List ℕ} (k : Welcome x.channels t c mark l xs) where
  abbrev result : Delivery
  result = delivery x.channels x.held mark l xs

  pub welcome : demultiplexed x t c mark xs
      ≡ cond (too_small result x.output x.units) (refusing x 3) (leaving result.count (writes result x.output x.units))
  unfolding demultiplexed
  welcome =
      rw (
        le-ltb longest_payload (length xs) k.short,
        k.defined,
        le-ltb (octets_of (slots_for t c xs)) (length xs) k.enough,
        k.opened,
        k.pieced,
        unmarked mark (channel_at x.channels (last_place l)).segmentable k.marked,
        k.fitting,
      )

-- ---- at channels that hold as much

open-same : (s r : Channels) → seats s ≡ seats r → (l : List ℕ) → all_open s l ≡ all_open r l
unfolding all_open
open-same s r e [] = refl
open-same s r e (n ∷ l) = rw (place-seats s r e n, open-same s r e l)

placed_same : (s r : Channels) → seats s ≡ seats r → (l : List Slot) → placed s l ≡ placed r l
unfolding placed
placed_same s r e [] = refl
placed_same s r e (y ∷ l) = rw (place-seats s r e y.channel, placed_same s r e l)

module _ {s r : Channels} (e : Same held_count s r) (p n : ℕ) where
  seat-same : seat (channel_at s p) ≡ seat (channel_at r p)
  seat-same = seat-at s r e.seated p

  room-same : has_room s p n ≡ has_room r p n
  room-same =
      ap₂ (λ (g : Bool) (k : ℕ). not g || leb (k + n) place_octets) (ap (λ (z : Seat). z.segmentable) seat-same) (same_at held_count e p)

  counted_same : Same held_count (counted s p n) (counted r p n)
  counted_same = by (channel_at s p).segmentable (channel_at r p).segmentable (ap (λ (z : Seat). z.segmentable) seat-same)
    where
      by : (g k : Bool) → g ≡ k → Same held_count (cond g (grown s p n) s) (cond k (grown r p n) r)
      by true k q =
          rw (← q)
          (same_puts held_count e p (holding (channel_at s p) ((channel_at s p).held + n)) (holding (channel_at r p) ((channel_at r p).held + n)) seat-same
          (ap (λ (k : ℕ). k + n) (same_at held_count e p)))
      by false k q = rw (← q) e

fits-same : (l : List Piece) {s r : Channels} → Same held_count s r → fits s l ≡ fits r l
unfolding fits
fits-same [] e = refl
fits-same (q ∷ l) e = ap₂ (λ (a b : Bool). a && b) (room-same e q.place q.octets) (fits-same l (counted_same e q.place q.octets))

pub welcome-same : {s r : Channels} {t : List ℕ} {c : ℕ} {mark : Bool} {l : List Piece} {xs ys : List ℕ} → Same held_count s r → length xs ≡ length ys
    → Welcome s t c mark l xs → Welcome r t c mark l ys
welcome-same {s} {r} {t} {c} {mark} {l} {xs} {ys} e n k =
    let slots : slots_for t c xs ≡ slots_for t c ys = ap (payload_slots (entry_of t c)) n in
    record {
      short = omega (arith, n, k.short);
      defined = k.defined;
      enough = omega (arith, n, ap octets_of slots, k.enough);
      opened = sym (open-same s r e.seated (numbers_of (slots_for t c ys))) ∙ ap (λ (y : List Slot). all_open s (numbers_of y)) (sym slots) ∙ k.opened;
      pieced = sym (placed_same s r e.seated (slots_for t c ys)) ∙ ap (placed s) (sym slots) ∙ k.pieced;
      marked = λ m. ap (λ (z : Seat). z.segmentable) (sym (seat-at s r e.seated (last_place l))) ∙ k.marked m;
      fitting = sym (fits-same l e) ∙ k.fitting;
    }

-- ---- payloads on their way

pub record Going (t : List ℕ) (s : Channels) (g : List ℕ) (q : Parcel) (s' : Channels) (g' : List ℕ) (us : List UnitOn) : Type 0 where
  pub pieces : List Piece
  pub welcomed : Welcome s t q.code q.mark pieces q.octets
  pub tells : Tells (delivery s g q.mark pieces q.octets) us
  pub channels : (delivery s g q.mark pieces q.octets).channels ≡ s'
  pub held : (delivery s g q.mark pieces q.octets).held ≡ g'
  pub octets : length (delivery s g q.mark pieces q.octets).octets ≤ enough_output
  pub few : length us ≤ longest_payload

pub data Way (t : List ℕ) : Channels → List ℕ → List Parcel → Channels → List ℕ → List UnitOn → Type 0 where
  way-none : {s : Channels} {g : List ℕ} → Way t s g [] s g []
  way_next : {s s₁ s₂ : Channels} {g g₁ g₂ : List ℕ} {q : Parcel} {l : List Parcel} {us vs : List UnitOn}
      → Going t s g q s₁ g₁ us → Way t s₁ g₁ l s₂ g₂ vs → Way t s g (q ∷ l) s₂ g₂ (us ++ vs)

pub way-behind : {t : List ℕ} {s s₁ s₂ : Channels} {g g₁ g₂ : List ℕ} {q : Parcel} {l : List Parcel} {us vs : List UnitOn}
    → Way t s g l s₁ g₁ us → Going t s₁ g₁ q s₂ g₂ vs → Way t s g (l ++ q ∷ []) s₂ g₂ (us ++ vs)
way-behind {t} {s} {s₁} {s₂} {g} {g₁} {g₂} {q} {l} {us} {vs} way-none b =
    subst (Way t s g (q ∷ []) s₂ g₂) (append-nil vs) (way_next b way-none)
way-behind {t} {s} {s₁} {s₂} {g} {g₁} {g₂} {q} {l} {us} {vs} (way_next {us = u₁} {vs = u₂} a w) b =
    subst (Way t s g (l ++ q ∷ []) s₂ g₂) (sym (append_assoc u₁ u₂ vs)) (way_next a (way-behind w b))

-- ---- a payload that came

module _ {R : ℕ → ℕ → Type 0} {s : Channels} {g : List ℕ} {r : Channels} {h : List ℕ} (x : Shadow R s g r h) {t : List ℕ} {c : ℕ} {mark : Bool}
    {l : List Piece} {xs ys : List ℕ} (k : Welcome s t c mark l xs) (e : Each R xs ys) where
  taken_parallel : Parallel R (took_all (nothing s g) l xs) (took_all (nothing r h) l ys)
  taken_parallel =
      subst (λ (m : List Piece). Parallel R (took_all (nothing s g) m xs) (took_all (nothing r h) m ys)) k.pieced
      (slots_parallel s (slots_for t c xs) (none_parallel x) e k.opened (ap (fits s) k.pieced ∙ k.fitting)
      (payload_slots_most (entry_of t c) (length xs)))

  pub came_parallel : Parallel R (delivery s g mark l xs) (delivery r h mark l ys)
  unfolding delivery
  came_parallel = by mark k.marked
    where
      by : (m : Bool) → (m ≡ true → (channel_at s (last_place l)).segmentable ≡ true) → Parallel R (delivery s g m l xs) (delivery r h m l ys)
      by true f = closed_parallel taken_parallel (last_place l) (segmentable-place s (last_place l) x.orderly₀.full (f refl))
      by false f = taken_parallel

pub few-units : {d : Delivery} {us : List UnitOn} → Tells d us → length d.units ≡ 3 * length us
few-units {d} {us} k = ap (λ (a : List ℕ). length a) k.units ∙ records-length us 0
