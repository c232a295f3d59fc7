-- A payload changes one number of a channel, and nothing else of it: what is held where it is taken, what waits where it is made.
--
--   demux_keeps, mux_keeps     the claims of specs/Rules.antt
--
-- Assumes nothing.
use mathlib.Core.Path.{◌≡◌, refl, sym, ap, ◌∙◌}
use mathlib.Core.Bool.{Bool}
use mathlib.Core.List.{List, [], ◌∷◌}
use Prim.Native.Nat.{ℕ, zero, suc}
use lib.ListN.{length, get_or, set, take, drop}
use Rattle.calls.proofs.Laws.{by_test}
use Rattle.table.specs.Slots.{payload_slots}
use Rattle.table.specs.Table.{entry_of}
use Rattle.channels.specs.declared.Channel.{Channel}
use Rattle.channels.specs.declared.Channels.{Channels}
use Rattle.channels.specs.Channels.{vacant, place_of, channel_at, put, holding, waiting}
use Rattle.channels.specs.Claims.{channel_of}
use Rattle.channels.proofs.Laws.{seat, seats, seats-put, place-seats}
use Rattle.multiplex.specs.Pieces.{Piece, placed, last_place}
use Rattle.multiplex.specs.Demultiplexer.{Delivery, DemuxLent, nothing, took, took_all, delivery}
use Rattle.multiplex.specs.Multiplexer.{walked}
use Rattle.multiplex.specs.Rules.{DemuxKeeps, MuxKeeps}
use Rattle.multiplex.proofs.Leaving.{walk-left}
use Rattle.multiplex.specs.Walks.{left_all}
use Rattle.multiplex.proofs.Rules.{walk_makes}
use Rattle.multiplex.proofs.Unrefused.{is-accepted}

-- one of a channel's numbers: `with c k` is c with that number made k, and `of c` is what it is
record Part : Type 0 where
  with : Channel → ℕ → Channel
  of : Channel → ℕ
  own : (c : Channel) → c ≡ with c (of c)
  got : (c : Channel) (k : ℕ) → of (with c k) ≡ k
  twice : (c : Channel) (j k : ℕ) → with (with c j) k ≡ with c k
  seated : (c : Channel) (k : ℕ) → seat (with c k) ≡ seat c

module _ (n : Part) where
  -- t differs from s in that number alone
  record Only (s t : Channels) : Type 0 where
    alike : seats t ≡ seats s
    rest : (q : ℕ) → channel_at t q ≡ n.with (channel_at s q) (n.of (channel_at t q))

  only_same : (s : Channels) → Only s s
  only_same s = record { alike = refl; rest = λ q. n.own (channel_at s q) }

  only_then : {s t v : Channels} → Only s t → Only t v → Only s v
  only_then {s} {t} {v} a b = record {
    alike = b.alike ∙ a.alike;
    rest = λ q. b.rest q ∙ ap (λ (c : Channel). n.with c (n.of (channel_at v q))) (a.rest q) ∙ n.twice (channel_at s q) (n.of (channel_at t q)) (n.of (channel_at v q));
  }

  set_rest : (l : List Channel) (p q k : ℕ)
      → get_or (set l p (n.with (get_or l p vacant) k)) q vacant ≡ n.with (get_or l q vacant) (n.of (get_or (set l p (n.with (get_or l p vacant) k)) q vacant))
  set_rest [] p q k = n.own vacant
  set_rest (c ∷ l) zero zero k = ap (n.with c) (sym (n.got c k))
  set_rest (c ∷ l) zero (suc q) k = n.own (get_or l q vacant)
  set_rest (c ∷ l) (suc p) zero k = n.own c
  set_rest (c ∷ l) (suc p) (suc q) k = set_rest l p q k

  only-put : (s : Channels) (p k : ℕ) → Only s (put s p (n.with (channel_at s p) k))
  only-put s p k = record { alike = seats-put s p (n.with (channel_at s p) k) (n.seated (channel_at s p) k); rest = λ q. set_rest s.at p q k }

  only_of : {s t : Channels} → Only s t → (m : ℕ) → channel_of t m ≡ n.with (channel_of s m) (n.of (channel_of t m))
  only_of {s} {t} o m =
      let e = place-seats t s o.alike m in
      ap (channel_at t) e ∙ o.rest (place_of s m) ∙ ap (λ (p : ℕ). n.with (channel_of s m) (n.of (channel_at t p))) (sym e)

-- ---- what waits

abbrev waiting_part : Part
waiting_part = record {
  with = waiting;
  of = λ c. c.waiting;
  own = λ c. refl;
  got = λ c k. refl;
  twice = λ c j k. refl;
  seated = λ c k. refl;
}

abbrev Sent : Channels → Channels → Type 0
Sent = Only waiting_part

left-sent : (l : List Piece) (s : Channels) → Sent s (left_all s l)
unfolding left_all
left-sent [] s = only_same waiting_part s
left-sent (q ∷ l) s =
    only_then waiting_part
    (only-put waiting_part s q.place _) (left-sent l _)

pub mux_keeps : MuxKeeps
mux_keeps x y w t c room n p e =
    let s = x.channels in
    let l = payload_slots (entry_of t c) room in
    let now : y.channels ≡ left_all s (walked s l).pieces = (walk_makes x y w t c room p e).4 ∙ walk-left l s in
    rw now (only_of waiting_part (left-sent (walked s l).pieces s) n)

-- ---- what is held

abbrev held_part : Part
held_part = record {
  with = holding;
  of = λ c. c.held;
  own = λ c. refl;
  got = λ c k. refl;
  twice = λ c j k. refl;
  seated = λ c k. refl;
}

abbrev Taken : Channels → Channels → Type 0
Taken = Only held_part

taken_then : {s t v : Channels} → Taken s t → Taken t v → Taken s v
taken_then = only_then held_part

taken-put : (s : Channels) (p k : ℕ) → Taken s (put s p (holding (channel_at s p) k))
taken-put = only-put held_part

taken-same : (s : Channels) → Taken s s
taken-same = only_same held_part

took-taken : (r : Delivery) (p : ℕ) (x : List ℕ) → Taken r.channels (took r p x).channels
took-taken r p x =
    by_test (λ (d : Delivery). Taken r.channels d.channels) (channel_at r.channels p).segmentable (λ g. taken-put r.channels p _)
    (λ g. taken-same r.channels)

all-taken : (l : List Piece) (r : Delivery) (xs : List ℕ) → Taken r.channels (took_all r l xs).channels
unfolding took_all
all-taken [] r xs = taken-same r.channels
all-taken (q ∷ l) r xs =
    let x = take q.octets xs in
    taken_then (took-taken r q.place x) (all-taken l (took r q.place x) (drop q.octets xs))

delivered : (s : Channels) (h : List ℕ) (mark : Bool) (l : List Piece) (xs : List ℕ) → Taken s (delivery s h mark l xs).channels
unfolding delivery
delivered s h mark l xs =
    let all = took_all (nothing s h) l xs in
    by_test (λ (d : Delivery). Taken s d.channels) mark (λ set. taken_then (all-taken l (nothing s h) xs) (taken-put all.channels (last_place l) 0))
    (λ none. all-taken l (nothing s h) xs)

pub demux_keeps : DemuxKeeps
demux_keeps x y t c mark xs k n e =
    let s = x.channels in
    let l = placed s (payload_slots (entry_of t c) (length xs)) in
    let now : y.channels ≡ (delivery s x.held mark l xs).channels = ap (λ (z : DemuxLent). z.channels) (sym (is-accepted x y t c mark xs k e).left) in
    rw now (only_of held_part (delivered s x.held mark l xs) n)
