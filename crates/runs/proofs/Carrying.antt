-- A walk's pieces, one after another, from the sender to the receiver: the ends match after it, and the receiver refuses none of it.
--
--   carried           what the receiver makes of pieces and their octets, from a state in the midst of a payload
--   Step              one piece taken: it fits, and adds at most its octets and one unit
--   Carried           a walk carried over: sound after it; every held unit fits; at most the octets of a place more than its own are finished,
--                     and at most a unit for each piece; and the closing mark comes on a segmentable channel
--   walk-carried      so is every walk that reaches open channels only
--
-- Assumes nothing.
use mathlib.Core.Path.{◌≡◌, refl, sym, ap, ap₂, subst, ◌∙◌}
use mathlib.Core.Bool.{Bool, true, false, cond, not, ◌&&◌, ◌||◌, or-true}
use mathlib.Core.List.{List, [], ◌∷◌, ◌++◌}
use Prim.Native.Nat.{ℕ, ◌+◌, ◌*◌, ◌≤◌, ◌<◌}
use native.Mathlib.Omega.{arith}
use borrow.Author.Tests.{le-leb, ltb-true, ltb-false, eqb-true}
use lib.Dec.{leb, ltb, eqb}
use lib.ListN.{length, take, drop, length-append, length-take}
use lib.Seq.{take_at, drop_at}
use Rattle.octets.specs.Tests.{never}
use Rattle.table.specs.Slots.{Slot}
use Rattle.table.proofs.Laws.{Filled}
use Rattle.channels.specs.declared.Channel.{Channel}
use Rattle.channels.specs.declared.Channels.{Channels}
use Rattle.channels.specs.Channels.{place_of, channel_at, holding, is_in, waits, held_of, waiting_of, place_count, place_octets}
use Rattle.multiplex.specs.Pieces.{Piece, last_place, total}
use Rattle.multiplex.specs.Demultiplexer.{Delivery, finished, grown, joined, took, took_all, closed, counted, has_room, fits}
use Rattle.multiplex.specs.Multiplexer.{Walk, is_blocked, goes_on, moved, left, stopped, piece_at, sending, ending, walked, gathered}
use Rattle.multiplex.specs.Units.{UnitOn}
use Rattle.channels.proofs.Laws.{Seat, seats, seats-put, seat-at, put-there}
use Rattle.runs.proofs.Matching.{full-there}
use Rattle.calls.proofs.Laws.{by_test}
use Rattle.multiplex.proofs.Laws.{waits_some, walk-agrees}
use Rattle.multiplex.proofs.Laws.{neither}
use Rattle.runs.proofs.Passing.{piece-length, alike-there, Sound, sound-joined, sound-finished, sound-closed}

unfoldable pub carried : Delivery → Bool → List Piece → List ℕ → Delivery
carried r mark l xs = cond mark (closed (took_all r l xs) (last_place l)) (took_all r l xs)

abbrev of : ℕ → ℕ → Piece
of p k = record { place = p; octets = k }

carried_step : (r : Delivery) (mark : Bool) (p k : ℕ) (l : List Piece) (xs : List ℕ) → (mark ≡ true → l ≡ [] → ⊥)
    → carried r mark (of p k ∷ l) xs ≡ carried (took r p (take k xs)) mark l (drop k xs)
unfolding carried took_all last_place
carried_step r true p k [] xs f = absurd (f refl refl)
carried_step r true p k (q ∷ l) xs f = refl
carried_step r false p k l xs f = refl

carried-next : (r : Delivery) (mark : Bool) (p k : ℕ) (l : List Piece) (y z : List ℕ) → length y ≡ k → (mark ≡ true → l ≡ [] → ⊥)
    → carried r mark (of p k ∷ l) (y ++ z) ≡ carried (took r p y) mark l z
carried-next r mark p k l y z e f =
    carried_step r mark p k l (y ++ z) f ∙ ap₂ (λ (a b : List ℕ). carried (took r p a) mark l b) (take_at y z k e) (drop_at y z k e)

carried_none : (r : Delivery) (z : List ℕ) → carried r false [] z ≡ r
unfolding carried took_all
carried_none r z = refl

carried-last : (r : Delivery) (p k : ℕ) (y : List ℕ) → length y ≡ k → carried r true (of p k ∷ []) (y ++ []) ≡ closed (took r p y) p
unfolding carried took_all last_place
carried-last r p k y e = ap (λ (a : List ℕ). closed (took r p a) p) (take_at y [] k e)

-- ---- one piece

pub record Step (s : Channels) (w : List ℕ) (r : Delivery) (p k : ℕ) (r' : Delivery) : Type 0 where
  pub taken : took r p (take k (waiting_of s w p)) ≡ r'
  pub size : length (take k (waiting_of s w p)) ≡ k
  pub room : has_room r.channels p k ≡ true
  pub counts : counted r.channels p k ≡ r'.channels
  pub octets : length r'.octets ≤ length r.octets + k
  pub count : r'.count ≤ r.count + 1
  pub alike : seats r.channels ≡ seats r'.channels

module _ {s : Channels} {w : List ℕ} {sent base : List UnitOn} {r : Delivery} (o : Sound s w sent base r) (n p : ℕ) (place : place_of s n ≡ p)
    (inside : p < place_count) (k : ℕ) (most : k ≤ waits (channel_at s p)) where
  abbrev x : List ℕ
  x = take k (waiting_of s w p)

  abbrev d : Channel
  d = channel_at r.channels p

  size : length x ≡ k
  size = piece-length o.matched n p place inside k most

  step-joined : d.segmentable ≡ true → Step s w r p k (joined r p x)
  step-joined g = record {
    taken = ap (λ (t : Bool). cond t (joined r p x) (finished r d.number.0 x)) g;
    size = size;
    room = ap (λ (t : Bool). not d.segmentable || t) (le-leb (d.held + k) place_octets (omega (arith, (o.matched.each p).bounded)))
        ∙ or-true (not d.segmentable);
    counts = ap (λ (t : Bool). cond t (grown r.channels p k) r.channels) g ∙ ap (λ (j : ℕ). grown r.channels p j) (sym size);
    octets = omega arith;
    count = omega arith;
    alike = sym (seats-put r.channels p (holding d (d.held + length x)) refl);
  }

  step-finished : d.segmentable ≡ false → Step s w r p k (finished r d.number.0 x)
  step-finished g = record {
    taken = ap (λ (t : Bool). cond t (joined r p x) (finished r d.number.0 x)) g;
    size = size;
    room = ap (λ (t : Bool). not t || leb (d.held + k) place_octets) g;
    counts = ap (λ (t : Bool). cond t (grown r.channels p k) r.channels) g;
    octets = omega (arith, length-append r.octets x, size);
    count = omega arith;
    alike = refl;
  }

  -- what the closing mark then ends has at most 1,024 octets
  closed-octets : length (closed (joined r p x) p).octets ≤ length r.octets + place_octets
  closed-octets =
      let more = holding d (d.held + length x) in
      let mid = (joined r p x).channels in
      let at : channel_at mid p ≡ more = put-there r.channels (full-there o.matched) p more inside in
      let e : (channel_at mid p).held ≡ d.held + length x = ap (λ (c : Channel). c.held) at in
      omega (
        arith,
        length-append r.octets (held_of mid (joined r p x).held p),
        length-take (channel_at mid p).held
            (drop (place_octets * p) (joined r p x).held),
        e,
        size,
        (o.matched.each p).bounded,
      )

-- ---- a walk

pub record Carried (s : Channels) (w : List ℕ) (sent base : List UnitOn) (r : Delivery) (x : Walk) : Type 0 where
  pub sound : Sound x.channels w sent base (carried r x.mark x.pieces (gathered s w x.pieces))
  pub size : length (gathered s w x.pieces) ≡ total x.pieces
  pub fitting : fits r.channels x.pieces ≡ true
  pub octets : length (carried r x.mark x.pieces (gathered s w x.pieces)).octets ≤ length r.octets + total x.pieces + place_octets
  pub count : (carried r x.mark x.pieces (gathered s w x.pieces)).count ≤ r.count + length x.pieces
  pub marked : x.mark ≡ true → (channel_at r.channels (last_place x.pieces)).segmentable ≡ true

last-next : (q : Piece) (l : List Piece) → (l ≡ [] → ⊥) → last_place (q ∷ l) ≡ last_place l
unfolding last_place
last-next q [] f = absurd (f refl)
last-next q (a ∷ l) f = refl

module _ {w : List ℕ} {sent base : List UnitOn} {s : Channels} {r : Delivery} where
  stopped-carried : Sound s w sent base r → Carried s w sent base r (stopped s true)
  unfolding gathered total fits
  stopped-carried o = record {
    sound = subst (Sound s w sent base) (sym (carried_none r [])) o;
    size = refl;
    fitting = refl;
    octets = rw (carried_none r []) (omega arith);
    count = rw (carried_none r []) (omega arith);
    marked = λ e. never (cc);
  }

  module _ (p k : ℕ) (r' : Delivery) (t : Step s w r p k r') where
    sending-carried : (x : Walk) → (x.mark ≡ true → x.pieces ≡ [] → ⊥) → Carried (left s p k) w sent base r' x
        → Carried s w sent base r (sending (of p k) x)
    unfolding gathered total fits
    sending-carried x last c =
        let y = take k (waiting_of s w p) in
        let z = gathered (left s p k) w x.pieces in
        let e : carried r x.mark (of p k ∷ x.pieces) (y ++ z) ≡ carried r' x.mark x.pieces z
        = carried-next r x.mark p k x.pieces y z t.size last ∙ ap (λ (a : Delivery). carried a x.mark x.pieces z) t.taken in
        record {
          sound = subst (Sound x.channels w sent base) (sym e) c.sound;
          size = omega (arith, length-append y z, t.size, c.size);
          fitting = ap₂ (λ (a : Bool) (b : Channels). a && fits b x.pieces) t.room t.counts ∙ c.fitting;
          octets = omega (arith, ap (λ (a : Delivery). length a.octets) e, c.octets, t.octets);
          count = omega (arith, ap (λ (a : Delivery). a.count) e, c.count, t.count);
          marked = λ f. ap (λ (q : ℕ). (channel_at r.channels q).segmentable) (last-next (of p k) x.pieces (last f))
              ∙ ap (λ (a : Seat). a.segmentable) (seat-at r.channels r'.channels t.alike (last_place x.pieces)) ∙ c.marked f;
        }

    ending-carried : Sound (left s p k) w sent base r' → Carried s w sent base r (ending (of p k) (left s p k) false)
    unfolding gathered total fits
    ending-carried o =
        let y = take k (waiting_of s w p) in
        let e : carried r false (of p k ∷ []) (y ++ []) ≡ r'
        = carried-next r false p k [] y [] t.size (λ f. never (cc)) ∙ carried_none (took r p y) [] ∙ t.taken in
        record {
          sound = subst (Sound (left s p k) w sent base) (sym e) o;
          size = omega (arith, length-append y [], t.size);
          fitting = ap (λ (a : Bool). a && true) t.room;
          octets = omega (arith, ap (λ (a : Delivery). length a.octets) e, t.octets);
          count = omega (arith, ap (λ (a : Delivery). a.count) e, t.count);
          marked = λ f. never (cc);
        }

    closing-carried : Sound (left s p k) w sent base (closed r' p) → (channel_at r.channels p).segmentable ≡ true
        → length (closed r' p).octets ≤ length r.octets + place_octets → r'.count ≡ r.count → Carried s w sent base r (ending (of p k) (left s p k) true)
    unfolding gathered total fits last_place
    closing-carried o g short same =
        let y = take k (waiting_of s w p) in
        let e : carried r true (of p k ∷ []) (y ++ []) ≡ closed r' p = carried-last r p k y t.size ∙ ap (λ (a : Delivery). closed a p) t.taken in
        record {
          sound = subst (Sound (left s p k) w sent base) (sym e) o;
          size = omega (arith, length-append y [], t.size);
          fitting = ap (λ (a : Bool). a && true) t.room;
          octets = omega (arith, ap (λ (a : Delivery). length a.octets) e, short);
          count = omega (arith, ap (λ (a : Delivery). a.count) e, same);
          marked = λ f. g;
        }

-- ---- a slot that is not blocked

module _ {w : List ℕ} {sent base : List UnitOn} {s : Channels} {r : Delivery} (o : Sound s w sent base r) (j p : ℕ) (place : place_of s j ≡ p)
    (inside : p < place_count) (n : ℕ) (free : is_blocked (channel_at s p) n ≡ false) where
  abbrev c : Channel
  c = channel_at s p

  abbrev k : ℕ
  k = moved c n

  some : 1 ≤ waits c
  some = waits_some c n free

  most : k ≤ waits c
  most = omega arith

  there : (g : Bool) → c.segmentable ≡ g → (channel_at r.channels p).segmentable ≡ g
  there g e = alike-there o.matched j p place inside ∙ e

  whole : c.segmentable ≡ false → waits c ≤ n
  whole e =
      let f = (neither (eqb (waits c) 0) (not c.segmentable && ltb n (waits c)) free).1 in
      let h : ltb n (waits c) ≡ false = ap (λ (t : Bool). not t && ltb n (waits c)) (sym e) ∙ f in
      ltb-false n (waits c) h

  going : (g : Bool) → c.segmentable ≡ g → cond g (ltb n (waits c)) (eqb (waits c) n) ≡ true → (x : Walk) → (x.mark ≡ true → x.pieces ≡ [] → ⊥)
      → ((a : Delivery) → Sound (left s p k) w sent base a → Carried (left s p k) w sent base a x) → Carried s w sent base r (sending (piece_at s p n) x)
  going true e f x last ih =
      let l : k < waits c = omega (arith, ltb-true n (waits c) f) in
      sending-carried p k (joined r p (take k (waiting_of s w p))) (step-joined o j p place inside k most (there true e)) x last
      (ih (joined r p (take k (waiting_of s w p))) (sound-joined o j p place inside k l (there true e)))
  going false e f x last ih =
      let l : k ≡ waits c = omega (arith, eqb-true (waits c) n f) in
      sending-carried p k (finished r (channel_at r.channels p).number.0 (take k (waiting_of s w p)))
      (step-finished o j p place inside k most (there false e)) x last
      (ih (finished r (channel_at r.channels p).number.0 (take k (waiting_of s w p))) (sound-finished o j p place inside k l some (there false e)))

  stopping : (g : Bool) → c.segmentable ≡ g → cond g (ltb n (waits c)) (eqb (waits c) n) ≡ false
      → Carried s w sent base r (ending (piece_at s p n) (left s p k) g)
  stopping true e f =
      let l : k ≡ waits c = omega (arith, ltb-false n (waits c) f) in
      closing-carried p k (joined r p (take k (waiting_of s w p))) (step-joined o j p place inside k most (there true e))
      (sound-closed o j p place inside k l some) (there true e) (closed-octets o j p place inside k most) refl
  stopping false e f =
      let l : k ≡ waits c = omega (arith, whole e) in
      ending-carried p k (finished r (channel_at r.channels p).number.0 (take k (waiting_of s w p))) (step-finished o j p place inside k most (there false e))
      (sound-finished o j p place inside k l some (there false e))

pub walk-carried : (w : List ℕ) (sent base : List UnitOn) (l : List Slot) (s : Channels) (r : Delivery) → Filled l → Sound s w sent base r
    → (walked s l).all_open ≡ true → Carried s w sent base r (walked s l)
unfolding walked Filled
walk-carried w sent base [] s r f o = λ e. stopped-carried o
walk-carried w sent base (y ∷ l) s r f o =
    let p = place_of s y.channel in
    let c = channel_at s p in
    let n = y.octets in
    let Good : Walk → Type 0 = λ x. x.all_open ≡ true → Carried s w sent base r x in
    by_test Good (is_in s y.channel)
    (λ i. by_test Good (is_blocked c n) (λ b e. stopped-carried o)
    (λ b. by_test Good (goes_on c n)
    (λ g e. going o y.channel p refl (ltb-true p place_count i) n b c.segmentable refl g (walked (left s p (moved c n)) l)
    (walk-agrees l (left s p (moved c n)) (left s p (moved c n)) f.1 refl).last
    (λ a q. walk-carried w sent base l (left s p (moved c n)) a f.1 q e))
    (λ g e. stopping o y.channel p refl (ltb-true p place_count i) n b c.segmentable refl g)))
    (λ i e. never (cc))
