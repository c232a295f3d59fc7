-- The pieces that a walk sends are those that the demultiplexer sees.
--
--   Agrees r l x      the walk x over the slots l: cut to the octets that it sends, the slots are its pieces by the channels r, each open
--                     and with an octet; and there is a last one where it has the closing mark
--   neither           neither test holds
--   waits_some        a slot that is not blocked: an octet waits
--   goes-whole        the walk goes on after it: it is filled
--   walk-agrees       every walk agrees
--
-- Assumes nothing.
use mathlib.Core.Path.{◌≡◌, refl, sym, ◌∙◌}
use mathlib.Core.Bool.{Bool, true, false, cond, not, ◌&&◌, ◌||◌}
use mathlib.Core.List.{List, [], ◌∷◌}
use Prim.Native.Nat.{ℕ, ◌+◌, ◌-◌, ◌≤◌, min}
use native.Mathlib.Omega.{arith}
use borrow.Author.Tests.{eqb-true, eqb-false, ltb-true, ne_eqb}
use lib.Dec.{eqb, ltb}
use lib.ListN.{length}
use Rattle.octets.specs.Tests.{never}
use Rattle.table.specs.Slots.{Slot, cut, octets_of, numbers_of}
use Rattle.table.proofs.Laws.{Filled, cut-none}
use Rattle.channels.specs.declared.Channel.{Channel}
use Rattle.channels.specs.declared.Channels.{Channels}
use Rattle.channels.specs.Channels.{channel_at, place_of, is_in, waits, waiting, all_open}
use Rattle.multiplex.specs.Pieces.{Piece, placed, total}
use Rattle.multiplex.specs.Multiplexer.{Walk, is_blocked, goes_on, moved, left, stopped, sending, ending, walked}
use Rattle.calls.proofs.Laws.{by_test}
use Rattle.channels.proofs.Laws.{seats, place-seats, seats-put}

pub record Agrees (r : Channels) (l : List Slot) (x : Walk) : Type 0 where
  pub same : placed r (cut (total x.pieces) l) ≡ x.pieces
  pub opened : all_open r (numbers_of (cut (total x.pieces) l)) ≡ true
  pub within : total x.pieces ≤ octets_of l
  pub many : length x.pieces ≤ total x.pieces
  pub last : x.mark ≡ true → x.pieces ≡ [] → ⊥

agrees-stopped : (r s : Channels) (l : List Slot) (b : Bool) → Agrees r l (stopped s b)
unfolding total placed all_open
agrees-stopped r s l b = record {
  same = rw (cut-none l);
  opened = rw (cut-none l);
  within = omega arith;
  many = omega arith;
  last = λ e. never (cc);
}

-- ---- the cut of a slot of which k octets are sent

cut-ending : (k : ℕ) (y : Slot) (l : List Slot) → 1 ≤ k → k ≤ y.octets → cut (k + 0) (y ∷ l) ≡ record { channel = y.channel; octets = k } ∷ []
unfolding cut
cut-ending k y l h j =
    let z : k + 0 ≡ 0 → ⊥ = λ z. omega arith in
    let e : min y.octets (k + 0) ≡ k = omega arith in
    let f : k + 0 - y.octets ≡ 0 = omega arith in
    rw (ne_eqb (k + 0) 0 z, e, f, cut-none l)

cut-sending : (k n : ℕ) (y : Slot) (l : List Slot) → 1 ≤ k → k ≡ y.octets
    → cut (k + n) (y ∷ l) ≡ record { channel = y.channel; octets = k } ∷ cut n l
unfolding cut
cut-sending k n y l h j =
    let z : k + n ≡ 0 → ⊥ = λ z. omega arith in
    let e : min y.octets (k + n) ≡ k = omega arith in
    let f : k + n - y.octets ≡ n = omega arith in
    rw (ne_eqb (k + n) 0 z, e, f)

module _ (r s : Channels) (y : Slot) (l : List Slot) (alike : seats s ≡ seats r) (known : is_in s y.channel ≡ true) (k : ℕ) (some : 1 ≤ k) where
  abbrev first : Piece
  first = record { place = place_of s y.channel; octets = k }

  known-there : is_in r y.channel ≡ true
  known-there = rw (sym (place-seats s r alike y.channel)) known

  agrees-ending : (t : Channels) (mark : Bool) → k ≤ y.octets → Agrees r (y ∷ l) (ending first t mark)
  unfolding total placed all_open octets_of
  agrees-ending t mark h = record {
    same = rw (cut-ending k y l some h, place-seats s r alike y.channel);
    opened = rw (cut-ending k y l some h, known-there);
    within = omega arith;
    many = omega arith;
    last = λ e f. never (cc);
  }

  agrees-sending : (x : Walk) → k ≡ y.octets → Agrees r l x → Agrees r (y ∷ l) (sending first x)
  unfolding total placed all_open octets_of
  agrees-sending x h a = record {
    same = rw (cut-sending k (total x.pieces) y l some h, ← (place-seats s r alike y.channel), a.same);
    opened = rw (cut-sending k (total x.pieces) y l some h, known-there) a.opened;
    within = omega (arith, a.within);
    many = omega (arith, a.many);
    last = λ e f. never (cc);
  }

-- ---- what lets a walk go on

pub neither : (a b : Bool) → (a || b) ≡ false → (a ≡ false) × (b ≡ false)
neither true b e = never (cc)
neither false b e = (refl, e)

pub waits_some : (c : Channel) (n : ℕ) → is_blocked c n ≡ false → 1 ≤ waits c
waits_some c n e = omega (arith, eqb-false (waits c) 0 (neither (eqb (waits c) 0) (not c.segmentable && ltb n (waits c)) e).0)

pub goes-whole : (g : Bool) (w n : ℕ) → cond g (ltb n w) (eqb w n) ≡ true → n ≤ w
goes-whole true w n e = omega (arith, ltb-true n w e)
goes-whole false w n e = omega (arith, eqb-true w n e)

pub walk-agrees : (l : List Slot) (r s : Channels) → Filled l → seats s ≡ seats r → Agrees r l (walked s l)
unfolding walked Filled
walk-agrees [] r s f e = agrees-stopped r s [] true
walk-agrees (y ∷ l) r s f e =
    let p = place_of s y.channel in
    let c = channel_at s p in
    let n = y.octets in
    let some : is_blocked c n ≡ false → 1 ≤ moved c n = λ b. omega (arith, waits_some c n b, f.0) in
    by_test (Agrees r (y ∷ l)) (is_in s y.channel)
    (λ i. by_test (Agrees r (y ∷ l)) (is_blocked c n) (λ b. agrees-stopped r s (y ∷ l) true)
    (λ b. by_test (Agrees r (y ∷ l)) (goes_on c n)
    (λ g. agrees-sending r s y l e i (moved c n) (some b) (walked (left s p (moved c n)) l) (omega (arith, goes-whole c.segmentable (waits c) n g))
    (walk-agrees l r (left s p (moved c n)) f.1 (seats-put s p (waiting c (waits c - moved c n)) refl ∙ e)))
    (λ g. agrees-ending r s y l e i (moved c n) (some b) (left s p (moved c n)) c.segmentable (omega arith))))
    (λ i. agrees-stopped r s (y ∷ l) false)
