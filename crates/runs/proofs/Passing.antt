-- One piece from the sender to the receiver: it joins what is held there, or it ends the unit. Either leaves the ends matched.
--
--   orderly           the receiver is in order
--   waits-all         what waits is no more than counts
--   piece-length      a piece has the octets that it says
--   piece-all         .. and one with all that waits is that
--   alike-there       the channel there is segmentable if it is here
--   fitting           what is held has room for it
--   joined_matched    octets of a segmentable unit that is not at its end join what is held
--   ended_matched     the last of a unit: it is delivered, and nothing is held
--   Sound             a receiver in the midst of a payload: the units that it has finished, which with those delivered before match
--   sound-joined      the same three of it: a piece joined,
--   sound-finished    a slot that is a unit,
--   sound-closed      and a piece joined and the unit ended by the closing mark
--
-- Assumes nothing.
use mathlib.Core.Path.{◌≡◌, refl, sym, ap, ap₂, subst, ◌∙◌}
use mathlib.Core.Logic.{◌≢◌}
use mathlib.Core.Bool.{Bool, true, false, cond}
use mathlib.Core.List.{List, [], ◌∷◌, ◌++◌, append_assoc, append-nil}
use Prim.Native.Nat.{ℕ, ◌+◌, ◌*◌, ◌-◌, ◌≤◌, ◌<◌}
use native.Mathlib.Omega.{arith}
use borrow.Author.Tests.{le-leb}
use lib.Dec.{leb}
use lib.ListN.{length, take, drop, length-set, take-append-drop}
use lib.Seq.{length-take-le, take_all}
use Rattle.octets.specs.Tests.{never}
use Rattle.octets.specs.Written.{written}
use Rattle.channels.specs.declared.Channel.{Channel}
use Rattle.channels.specs.declared.Channels.{Channels}
use Rattle.channels.specs.Channels.{place_of, channel_at, put, waiting, holding, waits, waiting_of, place_count, all_octets, place_octets}
use Rattle.multiplex.specs.Demultiplexer.{Delivery, finished, joined, closed}
use Rattle.multiplex.specs.Multiplexer.{left}
use Rattle.multiplex.specs.Units.{UnitOn, units_on}
use Rattle.channels.specs.Claims.{Orderly}
use Rattle.channels.proofs.Laws.{seats, Seat, seats-put, seat-at, place_unique, put-there, put-elsewhere, held_at, filled-room, number-seats}
use Rattle.channels.proofs.Laws.{held_grown, held_else}
use Rattle.multiplex.proofs.Laws.{unit_on, Tells, tells-finished, on_this, on-other, waiting-left, waiting-length}
use Rattle.runs.proofs.Matching.{waiting_at, way, Twin, Matched, full-there, changed}

pub orderly : {s : Channels} {w : List ℕ} {r : Channels} {h : List ℕ} {sent got : List UnitOn} → Matched s w r h sent got → Orderly r h
orderly m = record {
  full = full-there m;
  room = m.held_room;
  bounded = λ p. omega (arith, (m.each p).bounded);
  whole = λ p. (m.each p).whole;
}

module _ {s : Channels} {w : List ℕ} {r : Channels} {h : List ℕ} {sent got : List UnitOn} (m : Matched s w r h sent got) (n p : ℕ) (place : place_of s n ≡ p)
    (inside : p < place_count) where
  abbrev here : Channel
  here = channel_at s p

  abbrev there : Channel
  there = channel_at r p

  pub waits-all : waits here ≡ here.waiting
  waits-all = omega (arith, (m.each p).bounded)

  size : length (waiting_at here w p) ≡ waits here
  size = waiting-length here w p inside m.waiting_room

  pub piece-length : (k : ℕ) → k ≤ waits here → length (take k (waiting_at here w p)) ≡ k
  piece-length k l = length-take-le k (waiting_at here w p) (rw size l)

  pub piece-all : (k : ℕ) → k ≡ waits here → take k (waiting_at here w p) ≡ waiting_at here w p
  piece-all k e = take_all k (waiting_at here w p) (omega (arith, size))

  pub alike-there : there.segmentable ≡ here.segmentable
  alike-there = sym (ap (λ (z : Seat). z.segmentable) (seat-at s r m.alike p))

  number-there : there.number.0 ≡ n
  number-there = number-seats s r (sym m.alike) m.full n p place inside

  log-here : (k : ℕ) → place_of s k ≡ p → units_on k sent ≡ units_on k got ++ way here w there h p
  log-here k e = rw e at (m.log k)

  -- ---- a piece that joins what is held

  module _ (k : ℕ) (most : k ≤ waits here) where
    abbrev x : List ℕ
    x = take k (waiting_at here w p)

    abbrev more : Channel
    more = holding there (there.held + length x)

    abbrev filled : List ℕ
    filled = written h (place_octets * p + there.held) x

    pub fitting : there.held + length x ≤ place_octets
    fitting = omega (arith, (m.each p).bounded, piece-length k most)

    module _ (less : k < waits here) where
      same-unit : held_at more filled p ++ waiting_at (waiting here (waits here - k)) w p ≡ held_at there h p ++ waiting_at here w p
      same-unit =
          ap₂ (λ (a b : List ℕ). a ++ b) (held_grown (orderly m) inside x fitting) (waiting-left here w p k most)
          ∙ append_assoc (held_at there h p) x (drop k (waiting_at here w p))
          ∙ ap (λ (a : List ℕ). held_at there h p ++ a) (take-append-drop k (waiting_at here w p))

      same_way : way here w there h p ≡ way (waiting here (waits here - k)) w more filled p
      same_way =
          let a : 1 ≤ here.waiting = omega (arith, waits-all) in
          let b : 1 ≤ waits here - k = omega arith in
          ap (λ (t : Bool). cond t ((held_at there h p ++ waiting_at here w p) ∷ []) []) (le-leb 1 here.waiting a)
          ∙ ap (λ (u : List ℕ). u ∷ []) (sym same-unit)
          ∙ sym (ap (λ (t : Bool). cond t ((held_at more filled p ++ waiting_at (waiting here (waits here - k)) w p) ∷ []) []) (le-leb 1 (waits here - k) b))

      twin-joined : there.segmentable ≡ true → Twin (waiting here (waits here - k)) more
      twin-joined g = record {
        bounded = omega (arith, (m.each p).bounded, piece-length k most);
        ended = λ e. absurd (omega arith);
        whole = λ e. never (cc);
      }

      pub joined_matched : there.segmentable ≡ true → Matched (left s p k) w (put r p more) filled sent got
      joined_matched g = changed m inside (record {
        seated = refl;
        alike = seats-put r p more refl;
        others = λ q f. put-elsewhere r p q more f;
        waiting_room = m.waiting_room;
        held_room = filled-room (orderly m) inside x fitting;
        twin = subst (Twin (waiting here (waits here - k))) (sym (put-there r (full-there m) p more inside)) (twin-joined g);
        waits_else = λ q l f. refl;
        holds_else = λ q l f. held_else (orderly m) inside x fitting q f;
        here = λ j e. log-here j e ∙ ap (λ (u : List (List ℕ)). units_on j got ++ u) (same_way
            ∙ ap (λ (d : Channel). way (waiting here (waits here - k)) w d filled p) (sym (put-there r (full-there m) p more inside)));
        elsewhere = λ j f. (refl, refl);
      })

  -- ---- the last piece of a unit

  module _ (k : ℕ) (last : k ≡ waits here) (some : 1 ≤ waits here) (r' : Channels) (h' : List ℕ) (alike : seats r' ≡ seats r)
      (others : (q : ℕ) → q ≢ p → channel_at r' q ≡ channel_at r q) (roomy : length h' ≡ all_octets) (none : (channel_at r' p).held ≡ 0)
      (else : (q : ℕ) → q < place_count → q ≢ p → held_at (channel_at r q) h' q ≡ held_at (channel_at r q) h q) where
    abbrev unit : List ℕ
    unit = held_at there h p ++ waiting_at here w p

    no_way : way (waiting here (waits here - k)) w (channel_at r' p) h' p ≡ []
    no_way =
        let e : waits here - k ≡ 0 = omega arith in
        ap (λ (j : ℕ). cond (leb 1 j) ((held_at (channel_at r' p) h' p ++ waiting_at (waiting here (waits here - k)) w p) ∷ []) []) e

    one_way : way here w there h p ≡ unit ∷ []
    one_way =
        let a : 1 ≤ here.waiting = omega (arith, waits-all) in
        ap (λ (t : Bool). cond t (unit ∷ []) []) (le-leb 1 here.waiting a)

    ended_here : (j : ℕ) → place_of s j ≡ p
        → units_on j sent ≡ units_on j (got ++ unit_on there.number.0 unit ∷ []) ++ way (waiting here (waits here - k)) w (channel_at r' p) h' p
    ended_here j e =
        log-here j e ∙ ap (λ (u : List (List ℕ)). units_on j got ++ u) one_way
        ∙ sym (on_this j there.number.0 got unit (number-there ∙ place_unique s m.full n j p inside place e))
        ∙ sym (append-nil (units_on j (got ++ unit_on there.number.0 unit ∷ [])))
        ∙ ap (λ (u : List (List ℕ)). units_on j (got ++ unit_on there.number.0 unit ∷ []) ++ u) (sym no_way)

    pub ended_matched : Matched (left s p k) w r' h' sent (got ++ unit_on there.number.0 unit ∷ [])
    ended_matched = changed m inside (record {
      seated = refl;
      alike = alike;
      others = others;
      waiting_room = m.waiting_room;
      held_room = roomy;
      twin = record { bounded = omega arith; ended = λ e. none; whole = λ e. none };
      waits_else = λ q l f. refl;
      holds_else = else;
      here = ended_here;
      elsewhere = λ j f. (refl, on-other j there.number.0 got unit (λ e. f (ap (place_of s) (sym e ∙ number-there) ∙ place)));
    })

-- ---- the same of a delivery

pub record Sound (s : Channels) (w : List ℕ) (sent base : List UnitOn) (r : Delivery) : Type 0 where
  pub units : List UnitOn
  pub tells : Tells r units
  pub matched : Matched s w r.channels r.held sent (base ++ units)

module _ {s : Channels} {w : List ℕ} {sent base : List UnitOn} {r : Delivery} (o : Sound s w sent base r) (n p : ℕ) (place : place_of s n ≡ p)
    (inside : p < place_count) (k : ℕ) where
  abbrev piece : List ℕ
  piece = take k (waiting_of s w p)

  abbrev number : ℕ
  number = (channel_at r.channels p).number.0

  pub sound-joined : k < waits (channel_at s p) → (channel_at r.channels p).segmentable ≡ true → Sound (left s p k) w sent base (joined r p piece)
  sound-joined l g = record {
    units = o.units;
    tells = record { octets = o.tells.octets; units = o.tells.units; count = o.tells.count };
    matched = joined_matched o.matched n p place inside k (omega arith) l g;
  }

  pub sound-finished : k ≡ waits (channel_at s p) → 1 ≤ waits (channel_at s p) → (channel_at r.channels p).segmentable ≡ false
      → Sound (left s p k) w sent base (finished r number piece)
  sound-finished e some g =
      let none : (channel_at r.channels p).held ≡ 0 = (o.matched.each p).whole g in
      let f : held_at (channel_at r.channels p) r.held p ++ waiting_at (channel_at s p) w p ≡ piece
      = ap (λ (j : ℕ). take j (drop (place_octets * p) r.held) ++ waiting_at (channel_at s p) w p) none ∙ sym (piece-all o.matched n p place inside k e) in
      record {
        units = o.units ++ unit_on number piece ∷ [];
        tells = tells-finished r o.units number piece o.tells;
        matched = subst (λ (u : List UnitOn). Matched (left s p k) w r.channels r.held sent u)
            (ap (λ (u : List ℕ). base ++ o.units ++ unit_on number u ∷ []) f ∙ append_assoc base o.units (unit_on number piece ∷ []))
            (ended_matched o.matched n p place inside k e some r.channels r.held refl (λ q f. refl) o.matched.held_room none (λ q l f. refl));
      }

  pub sound-closed : k ≡ waits (channel_at s p) → 1 ≤ waits (channel_at s p) → Sound (left s p k) w sent base (closed (joined r p piece) p)
  sound-closed e some =
      let full = full-there o.matched in
      let most : k ≤ waits (channel_at s p) = omega arith in
      let fits = fitting o.matched n p place inside k most in
      let held = (joined r p piece).held in
      let mid = (joined r p piece).channels in
      let more = holding (channel_at r.channels p) ((channel_at r.channels p).held + length piece) in
      let at : channel_at mid p ≡ more = put-there r.channels full p more inside in
      let number' : number ≡ (channel_at mid p).number.0 = ap (λ (d : Channel). d.number.0) (sym at) in
      let unit : held_at (channel_at r.channels p) r.held p ++ waiting_at (channel_at s p) w p ≡ held_at (channel_at mid p) held p
      = ap (λ (u : List ℕ). held_at (channel_at r.channels p) r.held p ++ u) (sym (piece-all o.matched n p place inside k e))
      ∙ sym (held_grown (orderly o.matched) inside piece fits) ∙ ap (λ (d : Channel). held_at d held p) (sym at) in
      let again = tells-finished (joined r p piece) o.units (channel_at mid p).number.0 (held_at (channel_at mid p) held p)
      (record { octets = o.tells.octets; units = o.tells.units; count = o.tells.count }) in
      record {
        units = o.units ++ unit_on (channel_at mid p).number.0 (held_at (channel_at mid p) held p) ∷ [];
        tells = record { octets = again.octets; units = again.units; count = again.count };
        matched = subst (λ (u : List UnitOn). Matched (left s p k) w (closed (joined r p piece) p).channels held sent u)
            (ap₂ (λ (j : ℕ) (u : List ℕ). base ++ o.units ++ unit_on j u ∷ []) number' unit
            ∙ append_assoc base o.units (unit_on (channel_at mid p).number.0 (held_at (channel_at mid p) held p) ∷ []))
            (ended_matched o.matched n p place inside k e some (closed (joined r p piece) p).channels held
            (seats-put mid p (holding (channel_at mid p) 0) refl ∙ seats-put r.channels p more refl)
            (λ q f. put-elsewhere mid p q (holding (channel_at mid p) 0) f ∙ put-elsewhere r.channels p q more f)
            (filled-room (orderly o.matched) inside piece fits)
            (ap (λ (d : Channel). d.held) (put-there mid (length-set r.channels.at p more ∙ full) p (holding (channel_at mid p) 0) inside))
            (λ q l f. held_else (orderly o.matched) inside piece fits q f));
      }
