-- Every call on channels keeps their bounds, and their seats.
--
--   waits-put, numbers-put   a place put within its bound leaves all within theirs: what waits there, and its AL2 numbers
--   bounded-put       .. and so with all its bounds
--   start-bounded     the channels at first
--   keeps_bounds      every call
--
-- Assumes nothing.
use mathlib.Core.Path.{◌≡◌, refl, ap, ◌∙◌}
use mathlib.Core.Bool.{Bool, false, not}
use mathlib.Core.List.{List}
use Prim.Native.Nat.{ℕ, ◌+◌, ◌*◌, ◌-◌, ◌≤◌, ◌<◌}
use native.Mathlib.Omega.{arith}
use borrow.Author.Tests.{ltb-true, leb-true, leb-false, eqb-false, not-false}
use lib.Dec.{leb}
use lib.ListN.{length}
use Rattle.octets.specs.Tests.{both_true}
use Rattle.octets.specs.Written.{written, written-length}
use Rattle.calls.specs.Refusal.{leaving}
use Rattle.calls.proofs.Laws.{checked_keeps}
use Rattle.adaptation.specs.Handed.{is_unit}
use Rattle.adaptation.specs.AL2Claims.{NumbersInRange}
use Rattle.adaptation.proofs.Laws.{range_kept}
use Rattle.channels.specs.declared.Channel.{Channel}
use Rattle.channels.specs.declared.Channels.{Channels}
use Rattle.channels.specs.Channels.{place_count, place_octets, vacant, fresh, start, place_of, free_place, is_in, channel_at, put, waiting}
use Rattle.channels.specs.Channels.{Post, open_tests, close_tests, reset_tests, post_tests, opened, closed, reset, posted}
use Rattle.channels.specs.Layers as layers
use Rattle.channels.specs.Claims.{Seated, Bounded, StartBounded, KeepsBounds}
use Rattle.channels.proofs.Seats.{Seat, seat, each_set}
use Rattle.channels.proofs.Seating.{seated-put, seated-opened, seated-closed, seated-start, each_start}
use Rattle.channels.proofs.Holding.{orderly-put}

pub waits-put : (s : Channels) (p : ℕ) (c : Channel) → ((q : ℕ) → (channel_at s q).waiting ≤ place_octets) → c.waiting ≤ place_octets
    → (q : ℕ) → (channel_at (put s p c) q).waiting ≤ place_octets
waits-put s p c h k = each_set (λ (d : Channel). d.waiting ≤ place_octets) vacant s.at p c h k

pub numbers-put : (s : Channels) (p : ℕ) (c : Channel) → ((q : ℕ) → NumbersInRange (channel_at s q).numbers) → NumbersInRange c.numbers
    → (q : ℕ) → NumbersInRange (channel_at (put s p c) q).numbers
numbers-put s p c h k = each_set (λ (d : Channel). NumbersInRange d.numbers) vacant s.at p c h k

module _ (s : Channels) (h w : List ℕ) (b : Bounded s h w) where
  -- one place of the channels changed
  pub bounded-put : (p : ℕ) (c : Channel) → p < place_count → c.held ≤ place_octets → (c.segmentable ≡ false → c.held ≡ 0) → c.waiting ≤ place_octets
      → NumbersInRange c.numbers → Seated (put s p c) → Bounded (put s p c) h w
  bounded-put p c i k g l m z = record {
    orderly = orderly-put b.orderly i c h k g b.orderly.room;
    seated = z;
    waits = waits-put s p c b.waits l;
    numbers = numbers-put s p c b.numbers m;
    space = b.space;
  }

  -- .. of an open channel that keeps its seat, where what it holds and what waits stays
  like : (n : ℕ) (c : Channel) → place_of s n < place_count → seat c ≡ seat (channel_at s (place_of s n)) → c.held ≡ (channel_at s (place_of s n)).held
      → c.waiting ≡ (channel_at s (place_of s n)).waiting → NumbersInRange c.numbers → Bounded (put s (place_of s n) c) h w
  like n c i g e l m =
      let p = place_of s n in
      let f = ap (λ (z : Seat). z.segmentable) g in
      bounded-put p c i (rw e (b.orderly.bounded p)) (λ q. e ∙ b.orderly.whole p (rw f at q)) (rw l (b.waits p)) m
      (seated-put s b.orderly.full b.seated n c i g)

  inside : (n : ℕ) → not (is_in s n) ≡ false → place_of s n < place_count
  inside n e = ltb-true (place_of s n) place_count (not-false (is_in s n) e)

  opening : (n : ℕ) (g : Bool) → Bounded (opened s n g).left h w
  unfolding opened
  opening n g =
      checked_keeps s (open_tests s n) (λ r. Bounded r h w) (leaving tt (put s (free_place s) (fresh n g))) b
      λ e. bounded-put (free_place s) (fresh n g) (leb-false place_count (free_place s) (search e)) (omega arith) (λ q. refl) (omega arith) range_kept.first
      (seated-opened s b.orderly.full b.seated n g (search e) (leb-false place_count (free_place s) (search e)))

  closing : (n : ℕ) → Bounded (closed s n).left h w
  unfolding closed
  closing n =
      checked_keeps s (close_tests s n) (λ r. Bounded r h w) (leaving tt (put s (place_of s n) vacant)) b
      λ e. bounded-put (place_of s n) vacant (inside n (search e)) (omega arith) (λ q. refl) (omega arith) range_kept.first
      (seated-closed s b.orderly.full b.seated n (eqb-false n 0 (search e)) (inside n (search e)))

  resetting : (n : ℕ) → Bounded (reset s n).left h w
  unfolding reset
  resetting n =
      checked_keeps s (reset_tests s n) (λ r. Bounded r h w) _ b
      λ e. bounded-put (place_of s n) _ (inside n e.0) (omega arith) (λ q. refl) (b.waits (place_of s n)) range_kept.first
      (seated-put s b.orderly.full b.seated n _ (inside n e.0) refl)

  posting : (n : ℕ) (u : List ℕ) → Bounded (posted s w n u).left.channels h (posted s w n u).left.octets
  unfolding posted
  posting n u =
      let p = place_of s n in
      let c = waiting (channel_at s p) (length u) in
      let at = place_octets * p + (place_octets - length u) in
      checked_keeps (record { channels = s; octets = w }) (post_tests s n u) (λ (r : Post). Bounded r.channels h r.octets)
      (leaving tt (record { channels = put s p c; octets = written w at u })) b
      (λ none.
      let i = inside n (search none) in
      let t = leb-true (length u) place_octets (both_true (leb 1 (length u)) (leb (length u) place_octets) (not-false (is_unit place_octets u) (search none))).1 in
      let o = b.orderly in
      record {
        orderly = orderly-put o i c h (o.bounded p) (o.whole p) o.room;
        seated = seated-put s o.full b.seated n c i refl;
        waits = waits-put s p c b.waits t;
        numbers = numbers-put s p c b.numbers (b.numbers p);
        space = written-length w at u (omega (arith, b.space)) ∙ b.space;
      })

  -- AL2: a channel's numbers alone change
  sending : (n : ℕ) (numbered : Bool) (u out : List ℕ) → Bounded (layers.sending (record { channels = s; output = out }) n numbered u).left.channels h w
  unfolding layers.sending
  sending n numbered u out =
      checked_keeps (record { channels = s; output = out }) (layers.sending_tests (record { channels = s; output = out }) n numbered u)
      (λ (r : layers.SendLent). Bounded r.channels h w) _ b
      λ e. like n _ (inside n e.0) refl refl refl (range_kept.sent numbered (channel_at s (place_of s n)).numbers (b.numbers (place_of s n)))

  taking : (n : ℕ) (numbered : Bool) (x : List ℕ) → Bounded (layers.taking s n numbered x).left h w
  unfolding layers.taking
  taking n numbered x =
      let m = b.numbers (place_of s n) in
      checked_keeps s (layers.taking_tests s n numbered x) (λ (r : Channels). Bounded r h w) _ b
      λ e. like n _ (inside n e.0) refl refl refl (m.0, range_kept.taken numbered x (channel_at s (place_of s n)).numbers.due m.1)

pub keeps_bounds : (s : Channels) (h w : List ℕ) → Bounded s h w → KeepsBounds s h w
keeps_bounds s h w b = record {
  opening = opening s h w b;
  closing = closing s h w b;
  resetting = resetting s h w b;
  posting = posting s h w b;
  sending = sending s h w b;
  taking = taking s h w b;
}

-- ---- at first

pub start-bounded : StartBounded
unfolding start
start-bounded h w eh ew = record {
  orderly = record {
    full = refl;
    room = eh;
    bounded = each_start (λ c. c.held ≤ place_octets) (omega arith) (omega arith);
    whole = each_start (λ c. c.segmentable ≡ false → c.held ≡ 0) (λ e. refl) (λ e. refl);
  };
  seated = seated-start;
  waits = each_start (λ c. c.waiting ≤ place_octets) (omega arith) (omega arith);
  numbers = each_start (λ c. NumbersInRange c.numbers) range_kept.first range_kept.first;
  space = ew;
}
