-- How far the walk goes, slot by slot.
--
--   total_is, walk_parts, walk_rules    the claims
--
-- Assumes nothing.
use mathlib.Core.Path.{◌≡◌, refl, ◌∙◌}
use mathlib.Core.Bool.{Bool, true, false, cond, or-true}
use mathlib.Core.List.{List, ◌∷◌}
use Prim.Native.Nat.{ℕ, ◌≤◌, ◌<◌}
use native.Mathlib.Omega.{arith}
use borrow.Author.Tests.{eq-eqb, ne_eqb, lt-ltb, le-ltb}
use lib.Dec.{eqb}
use Rattle.table.specs.Slots.{Slot}
use Rattle.channels.specs.declared.Channel.{Channel}
use Rattle.channels.specs.declared.Channels.{Channels}
use Rattle.channels.specs.Channels.{place_of, is_in, waits}
use Rattle.channels.specs.Claims.{channel_of}
use Rattle.multiplex.specs.Pieces.{Piece, piece, total}
use Rattle.multiplex.specs.Multiplexer.{Walk, is_blocked, goes_on, moved, left, stopped, sending, ending, walked}
use Rattle.multiplex.specs.Exactly.{TotalIs}
use Rattle.multiplex.specs.Rules.{WalkParts, WalkRules}

pub total_is : TotalIs
unfolding total
total_is q l = (refl, refl)

pub walk_parts : (s : Channels) (q : Piece) (r : Walk) (b : Bool) → WalkParts s q r b
walk_parts s q r b = record { stops = refl; ends = refl; sends = refl }

module _ (s : Channels) (n k : ℕ) (l : List Slot) (i : is_in s n ≡ true) where
  abbrev c : Channel
  c = channel_of s n

  -- by what the two tests say
  by_rule : (b g : Bool) → is_blocked c k ≡ b → goes_on c k ≡ g
      → walked s (record { channel = n; octets = k } ∷ l)
      ≡ cond b (stopped s true)
      (cond g (sending (piece (place_of s n) (moved c k)) (walked (left s (place_of s n) (moved c k)) l))
      (ending (piece (place_of s n) (moved c k)) (left s (place_of s n) (moved c k)) c.segmentable))
  unfolding walked
  by_rule b g e f = rw (i, e, f)

pub walk_rules : (s : Channels) (n k : ℕ) (l : List Slot) → WalkRules s n k l
unfolding walked
walk_rules s n k l =
    let c = channel_of s n in
    let go : (m : ℕ) → m ≡ moved c k → walked s (record { channel = n; octets = k } ∷ l)
    ≡ sending (piece (place_of s n) (moved c k)) (walked (left s (place_of s n) (moved c k)) l)
    → walked s (record { channel = n; octets = k } ∷ l) ≡ sending (piece (place_of s n) m) (walked (left s (place_of s n) m) l)
    = λ m q r. rw q r in
    let stop : (m : ℕ) (b : Bool) → m ≡ moved c k → walked s (record { channel = n; octets = k } ∷ l)
    ≡ ending (piece (place_of s n) (moved c k)) (left s (place_of s n) (moved c k)) b
    → walked s (record { channel = n; octets = k } ∷ l) ≡ ending (piece (place_of s n) m) (left s (place_of s n) m) b
    = λ m b q r. rw q r in
    record {
      at_end = refl;
      shut = λ i. rw i;
      idle = λ i z. by_rule s n k l i true (goes_on c k) (rw z) refl;
      too_long = λ i g h. by_rule s n k l i true (goes_on c k) (longer g h) refl;
      short = λ i g some h.
          stop (waits c) false (omega arith)
          (by_rule s n k l i false false (free g some (omega arith)) (rw (g, ne_eqb (waits c) k (λ z. omega arith))) ∙ rw g);
      filled = λ i g some h.
          go k (omega arith) (by_rule s n k l i false true (free g (omega arith) (omega arith)) (rw (g, eq-eqb (waits c) k h)));
      ended = λ i g some h.
          stop (waits c) true (omega arith) (by_rule s n k l i false false (open_free g some) (rw (g, le-ltb k (waits c) h)) ∙ rw g);
      more = λ i g h. go k (omega arith) (by_rule s n k l i false true (open_free g (omega arith)) (rw (g, lt-ltb k (waits c) h)));
    }
  where
    longer : (channel_of s n).segmentable ≡ false → k < waits (channel_of s n) → is_blocked (channel_of s n) k ≡ true
    longer g h = rw (g, lt-ltb k (waits (channel_of s n)) h) (or-true (eqb (waits (channel_of s n)) 0))

    free : (channel_of s n).segmentable ≡ false → 1 ≤ waits (channel_of s n) → waits (channel_of s n) ≤ k → is_blocked (channel_of s n) k ≡ false
    free g some h = rw (g, ne_eqb (waits (channel_of s n)) 0 (λ z. omega arith), le-ltb k (waits (channel_of s n)) h)

    open_free : (channel_of s n).segmentable ≡ true → 1 ≤ waits (channel_of s n) → is_blocked (channel_of s n) k ≡ false
    open_free g some = rw (g, ne_eqb (waits (channel_of s n)) 0 (λ z. omega arith))
