-- Slots side by side are units of their own, on a channel that isn't segmentable; on one that is they end none.
--
--   Has                 a delivery has finished these units of a channel, and no others of it
--   has_else, has-unit  .. a unit that is ended is another channel's, or its own
--   has-slots           after the pieces of some slots it has those of each slot of the channel, one by one
--   has-joined-slots    .. and of a segmentable channel no more than before
--   has-delivery        .. and with the closing mark
--
-- Assumes nothing.
use mathlib.Core.Path.{◌≡◌, refl, sym, ap, subst, ◌∙◌}
use mathlib.Core.Bool.{Bool, true, false, cond}
use mathlib.Core.List.{List, [], ◌∷◌, ◌++◌, append-nil, append_assoc}
use Prim.Native.Nat.{ℕ, ◌<◌}
use native.Mathlib.Decide.{ℕ_discrete}
use borrow.Author.Tests.{eq-eqb, ne_eqb, ltb-true}
use lib.Dec.{eqb}
use lib.ListN.{length, take, drop}
use Rattle.octets.specs.Tests.{both_true, never}
use Rattle.calls.proofs.Laws.{by_test}
use Rattle.table.specs.Slots.{Slot, numbers_of}
use Rattle.channels.specs.declared.Channel.{Channel}
use Rattle.channels.specs.declared.Channels.{Channels}
use Rattle.channels.specs.Channels.{place_count, place_of, is_in, all_open, channel_at, holding, held_of}
use Rattle.channels.specs.Claims.{channel_of}
use Rattle.channels.proofs.Laws.{Seat, seats, seats-put, seat-at, number-seats}
use Rattle.multiplex.specs.Pieces.{Piece, placed, last_place}
use Rattle.multiplex.specs.Demultiplexer.{Delivery, nothing, emptied, finished, joined, took, took_all, closed, delivery}
use Rattle.multiplex.specs.Units.{UnitOn, units_on}
use Rattle.multiplex.specs.Rules.{slot_octets}
use Rattle.multiplex.proofs.Records.{unit_on, Tells, tells-finished, on_this, on-other}

-- the delivery r has finished, of channel n of s, the units acc
pub record Has (s : Channels) (n : ℕ) (acc : List (List ℕ)) (r : Delivery) : Type 0 where
  pub units : List UnitOn
  pub tells : Tells r units
  pub alike : seats r.channels ≡ seats s
  pub all : units_on n units ≡ acc

module _ (s : Channels) (full : length s.at ≡ place_count) (n : ℕ) where
  -- a channel m, of which the delivery r takes the octets x
  module _ {acc : List (List ℕ)} {r : Delivery} (h : Has s n acc r) (m : ℕ) (inside : place_of s m < place_count) where
    abbrev p : ℕ
    p = place_of s m

    abbrev there : Channel
    there = channel_at r.channels p

    number-there : there.number.0 ≡ m
    number-there = number-seats s r.channels h.alike full m p refl inside

    segments : there.segmentable ≡ (channel_at s p).segmentable
    segments = ap (λ (z : Seat). z.segmentable) (seat-at r.channels s h.alike p)

    has-joined : (x : List ℕ) → Has s n acc (joined r p x)
    has-joined x = record {
      units = h.units;
      tells = record { octets = h.tells.octets; units = h.tells.units; count = h.tells.count };
      alike = seats-put r.channels p _ refl ∙ h.alike;
      all = h.all;
    }

    has_other : (x : List ℕ) → (m ≡ n → ⊥) → Has s n acc (finished r there.number.0 x)
    has_other x f = record {
      units = h.units ++ unit_on there.number.0 x ∷ [];
      tells = tells-finished r h.units there.number.0 x h.tells;
      alike = h.alike;
      all = on-other n there.number.0 h.units x (λ e. f (sym number-there ∙ e)) ∙ h.all;
    }

    has_this : (x : List ℕ) → m ≡ n → Has s n (acc ++ x ∷ []) (finished r there.number.0 x)
    has_this x e = record {
      units = h.units ++ unit_on there.number.0 x ∷ [];
      tells = tells-finished r h.units there.number.0 x h.tells;
      alike = h.alike;
      all = on_this n there.number.0 h.units x (number-there ∙ e) ∙ ap (λ (a : List (List ℕ)). a ++ x ∷ []) h.all;
    }

    -- a slot of another channel, and one of its own
    has-off : (x : List ℕ) → (m ≡ n → ⊥) → Has s n acc (took r p x)
    has-off x f = by_test (Has s n acc) there.segmentable (λ g. has-joined x) (λ g. has_other x f)

    has-took : (x : List ℕ) → (channel_of s n).segmentable ≡ false → Dec (m ≡ n) → Has s n (acc ++ cond (eqb m n) (x ∷ []) []) (took r p x)
    has-took x whole (yes e) =
        let flat : there.segmentable ≡ false = segments ∙ ap (λ (j : ℕ). (channel_of s j).segmentable) e ∙ whole in
        rw (eq-eqb m n e, flat) (has_this x e)
    has-took x whole (no f) = rw (ne_eqb m n f, append-nil acc) (has-off x f)

    has_more : (x : List ℕ) → (channel_of s n).segmentable ≡ true → Dec (m ≡ n) → Has s n acc (took r p x)
    has_more x g (yes e) =
        let more : there.segmentable ≡ true = segments ∙ ap (λ (j : ℕ). (channel_of s j).segmentable) e ∙ g in
        by_test (Has s n acc) there.segmentable (λ q. has-joined x) (λ q. let z : false ≡ true = sym q ∙ more in never (cc))
    has_more x g (no f) = has-off x f

    has_ended : {now : List (List ℕ)} (x : List ℕ) → Has s n now (finished r there.number.0 x) → Has s n now (emptied (finished r there.number.0 x) p)
    has_ended x again = record {
      units = again.units;
      tells = record { octets = again.tells.octets; units = again.tells.units; count = again.tells.count };
      alike = seats-put r.channels p (holding there 0) refl ∙ h.alike;
      all = again.all;
    }

    -- the closing mark comes on another channel, or on its own
    pub has_else : (m ≡ n → ⊥) → Has s n acc (closed r p)
    has_else f = has_ended (held_of r.channels r.held p) (has_other (held_of r.channels r.held p) f)

    pub has-unit : m ≡ n → Has s n (acc ++ held_of r.channels r.held p ∷ []) (closed r p)
    has-unit e = has_ended (held_of r.channels r.held p) (has_this (held_of r.channels r.held p) e)

  slot-first : (b : Bool) (x : List ℕ) (l : List (List ℕ)) → cond b (x ∷ []) [] ++ l ≡ cond b (x ∷ l) l
  slot-first true x l = refl
  slot-first false x l = refl

  pub has-slots : (channel_of s n).segmentable ≡ false → (l : List Slot) {acc : List (List ℕ)} {r : Delivery} (xs : List ℕ) → Has s n acc r
      → all_open s (numbers_of l) ≡ true → Has s n (acc ++ slot_octets n l xs) (took_all r (placed s l) xs)
  unfolding all_open placed took_all slot_octets
  has-slots whole [] {acc} xs h a = rw (append-nil acc) h
  has-slots whole (y ∷ l) {acc} {r} xs h a =
      let known = both_true (is_in s y.channel) (all_open s (numbers_of l)) a in
      let x = take y.octets xs in
      let next = has-took h y.channel (ltb-true (place_of s y.channel) place_count known.0) x whole (ℕ_discrete y.channel n) in
      subst (λ (u : List (List ℕ)). Has s n u (took_all (took r (place_of s y.channel) x) (placed s l) (drop y.octets xs)))
      (append_assoc acc (cond (eqb y.channel n) (x ∷ []) []) (slot_octets n l (drop y.octets xs))
      ∙ ap (λ (u : List (List ℕ)). acc ++ u) (slot-first (eqb y.channel n) x (slot_octets n l (drop y.octets xs))))
      (has-slots whole l (drop y.octets xs) next known.1)

  pub has-joined-slots : (channel_of s n).segmentable ≡ true → (l : List Slot) {acc : List (List ℕ)} {r : Delivery} (xs : List ℕ) → Has s n acc r
      → all_open s (numbers_of l) ≡ true → Has s n acc (took_all r (placed s l) xs)
  unfolding all_open placed took_all
  has-joined-slots g [] xs h a = h
  has-joined-slots g (y ∷ l) xs h a =
      let known = both_true (is_in s y.channel) (all_open s (numbers_of l)) a in
      has-joined-slots g l (drop y.octets xs)
      (has_more h y.channel (ltb-true (place_of s y.channel) place_count known.0) (take y.octets xs) g (ℕ_discrete y.channel n)) known.1

  -- without the mark nothing else is finished; with it, a unit of the last piece's channel
  pub has-delivery : (h : List ℕ) (mark : Bool) (l : List Piece) (xs : List ℕ) {us now : List (List ℕ)} → Has s n us (took_all (nothing s h) l xs)
      → (mark ≡ false → us ≡ now) → (mark ≡ true → Has s n now (closed (took_all (nothing s h) l xs) (last_place l))) → Has s n now (delivery s h mark l xs)
  unfolding delivery
  has-delivery h mark l xs {us} {now} all none set =
      by_test (Has s n now) mark set (λ e. subst (λ (v : List (List ℕ)). Has s n v (took_all (nothing s h) l xs)) (none e) all)
