-- No octet of an accepted payload is lost or doubled.
--
--   Holds s n u r     the delivery r is in order, and has of channel n the octets u: in its finished units, and held
--   going-first       a slot's octets first
--   nothing-holds     at first all that a channel has is held
--   took-holds        a piece taken
--   closed-holds      a unit that is ended
--   counted-took      the channels after one piece
--   slots_hold        the octets of a payload's slots, one slot after another
--   last-known        the last piece is of an open channel
--
-- Assumes nothing.
use mathlib.Core.Path.{◌≡◌, refl, sym, ap, ap₂, subst, ◌∙◌}
use mathlib.Core.Logic.{◌≢◌}
use mathlib.Core.Bool.{Bool, true, false, cond, not, ◌||◌}
use mathlib.Core.List.{List, [], ◌∷◌, ◌++◌, append-nil, append_assoc, flatten}
use Prim.Native.Nat.{ℕ, zero, suc, ◌+◌, ◌*◌, ◌≤◌, ◌<◌}
use native.Mathlib.Nat.{not-suc-le-zero, le_of_suc-le-suc}
use native.Mathlib.Decide.{ℕ_discrete}
use native.Mathlib.Omega.{arith}
use borrow.Author.Tests.{eq-eqb, ne_eqb, ltb-true, leb-true}
use lib.Dec.{eqb, leb}
use lib.ListN.{length, take, drop, length-drop}
use lib.Seq.{length-take-le}
use Rattle.octets.specs.Tests.{both_true}
use Rattle.table.specs.Slots.{Slot, copies, octets_of, channels_of, numbers_of}
use Rattle.channels.specs.declared.Channel.{Channel}
use Rattle.channels.specs.declared.Channels.{Channels}
use Rattle.channels.specs.Channels.{place_of, is_in, channel_at, put, holding, held_of, place_count, place_octets, all_open}
use Rattle.multiplex.specs.Pieces.{placed, last_place}
use Rattle.multiplex.specs.Demultiplexer.{Delivery, finished, joined, took, took_all, closed, counted, has_room, fits, nothing}
use Rattle.multiplex.specs.Units.{UnitOn, units_on}
use Rattle.channels.specs.Claims.{Orderly}
use Rattle.multiplex.specs.Claims.{going_to}
use Rattle.channels.proofs.Laws.{seats, seats-put, seats-length, place_unique, put-there, put-elsewhere, held_at, number-seats}
use Rattle.channels.proofs.Laws.{held_grown, held_else, orderly_joined, orderly_emptied}
use Rattle.multiplex.proofs.Records.{unit_on, Tells, tells-nothing, tells-finished, on_this, on-other}

flatten-snoc : (l : List (List ℕ)) (u : List ℕ) → flatten (l ++ u ∷ []) ≡ flatten l ++ u
unfolding flatten
flatten-snoc [] u = append-nil u
flatten-snoc (v ∷ l) u = ap (λ (x : List ℕ). v ++ x) (flatten-snoc l u) ∙ sym (append_assoc v (flatten l) u)

-- ---- a slot's octets

none-either : (b : Bool) (g : List ℕ) → g ≡ cond b [] [] ++ g
none-either true g = refl
none-either false g = refl

one-either : (b : Bool) (x : ℕ) (u g : List ℕ) → cond b (x ∷ (cond b u [] ++ g)) (cond b u [] ++ g) ≡ cond b (x ∷ u) [] ++ g
one-either true x u g = refl
one-either false x u g = refl

pub going-first : (n m k : ℕ) (ns xs : List ℕ) → k ≤ length xs → going_to n (copies k (m ∷ []) ++ ns) xs ≡ cond (eqb m n) (take k xs) [] ++ going_to n ns (drop k xs)
unfolding going_to copies
going-first n m zero ns xs h = none-either (eqb m n) (going_to n ns xs)
going-first n m (suc k) ns [] h = absurd (not-suc-le-zero h)
going-first n m (suc k) ns (x ∷ xs) h =
    ap (λ (g : List ℕ). cond (eqb m n) (x ∷ g) g) (going-first n m k ns xs (le_of_suc-le-suc h)) ∙ one-either (eqb m n) x (take k xs) (going_to n ns (drop k xs))

-- ---- one piece

pub record Holds (s : Channels) (n : ℕ) (u : List ℕ) (r : Delivery) : Type 0 where
  pub units : List UnitOn
  pub tells : Tells r units
  pub orderly : Orderly r.channels r.held
  pub alike : seats r.channels ≡ seats s
  pub all : u ≡ flatten (units_on n units) ++ held_of r.channels r.held (place_of s n)

pub nothing-holds : (s : Channels) (h : List ℕ) (n : ℕ) → Orderly s h → Holds s n (held_of s h (place_of s n)) (nothing s h)
unfolding flatten units_on
nothing-holds s h n o = record { units = []; tells = tells-nothing s h; orderly = o; alike = refl; all = refl }

module _ {s : Channels} {n : ℕ} {u : List ℕ} {r : Delivery} (o : Holds s n u r) (m p : ℕ) (place : place_of s m ≡ p) (inside : p < place_count) where
  abbrev there : Channel
  there = channel_at r.channels p

  full : length s.at ≡ place_count
  full = sym (seats-length r.channels s o.alike) ∙ o.orderly.full

  number-there : there.number.0 ≡ m
  number-there = number-seats s r.channels o.alike full m p place inside

  -- another channel has another place
  off : m ≢ n → place_of s n ≢ p
  off f e = f (place_unique s full m n p inside place e)

  -- the units with one more, of channel m
  this-unit : (v : List ℕ) → m ≡ n → flatten (units_on n (o.units ++ unit_on there.number.0 v ∷ [])) ≡ flatten (units_on n o.units) ++ v
  this-unit v e = ap flatten (on_this n there.number.0 o.units v (number-there ∙ e)) ∙ flatten-snoc (units_on n o.units) v

  other-unit : (v : List ℕ) → m ≢ n → flatten (units_on n (o.units ++ unit_on there.number.0 v ∷ [])) ≡ flatten (units_on n o.units)
  other-unit v f = ap flatten (on-other n there.number.0 o.units v (λ e. f (sym number-there ∙ e)))

  module _ (x : List ℕ) where
    abbrev with : List ℕ
    with = u ++ cond (eqb m n) x []

    this-with : m ≡ n → with ≡ u ++ x
    this-with e = ap (λ (b : Bool). u ++ cond b x []) (eq-eqb m n e)

    other-with : m ≢ n → with ≡ u
    other-with f = ap (λ (b : Bool). u ++ cond b x []) (ne_eqb m n f) ∙ append-nil u

    -- they join what is held

    module _ (room : there.held + length x ≤ place_octets) where
      abbrev more : Channel
      more = holding there (there.held + length x)

      abbrev filled : List ℕ
      filled = (joined r p x).held

      joined-all : Dec (m ≡ n) → with ≡ flatten (units_on n o.units) ++ held_at (channel_at (put r.channels p more) (place_of s n)) filled (place_of s n)
      joined-all (yes e) =
          let q : place_of s n ≡ p = ap (place_of s) (sym e) ∙ place in
          this-with e ∙ ap (λ (v : List ℕ). v ++ x) o.all ∙ append_assoc (flatten (units_on n o.units)) (held_of r.channels r.held (place_of s n)) x
          ∙ ap (λ (v : List ℕ). flatten (units_on n o.units) ++ v)
          (ap (λ (j : ℕ). held_of r.channels r.held j ++ x) q ∙ sym (held_grown o.orderly inside x room)
          ∙ ap (λ (c : Channel). held_at c filled p) (sym (put-there r.channels o.orderly.full p more inside))
          ∙ ap (λ (j : ℕ). held_at (channel_at (put r.channels p more) j) filled j) (sym q))
      joined-all (no f) =
          other-with f ∙ o.all
          ∙ ap (λ (v : List ℕ). flatten (units_on n o.units) ++ v)
          (sym (held_else o.orderly inside x room (place_of s n) (off f))
          ∙ ap (λ (c : Channel). held_at c filled (place_of s n)) (sym (put-elsewhere r.channels p (place_of s n) more (off f))))

      joined-holds : there.segmentable ≡ true → Holds s n with (joined r p x)
      joined-holds g = record {
        units = o.units;
        tells = record { octets = o.tells.octets; units = o.tells.units; count = o.tells.count };
        orderly = orderly_joined o.orderly inside x room g;
        alike = seats-put r.channels p more refl ∙ o.alike;
        all = joined-all (ℕ_discrete m n);
      }

    -- they are a unit

    finished-all : there.segmentable ≡ false → Dec (m ≡ n)
        → with ≡ flatten (units_on n (o.units ++ unit_on there.number.0 x ∷ [])) ++ held_of r.channels r.held (place_of s n)
    finished-all g (yes e) =
        let q : place_of s n ≡ p = ap (place_of s) (sym e) ∙ place in
        let none : held_of r.channels r.held (place_of s n) ≡ []
        = ap (held_of r.channels r.held) q ∙ ap (λ (j : ℕ). take j (drop (place_octets * p) r.held)) (o.orderly.whole p g) in
        let before : u ≡ flatten (units_on n o.units) =
        o.all ∙ ap (λ (v : List ℕ). flatten (units_on n o.units) ++ v) none ∙ append-nil (flatten (units_on n o.units)) in
        this-with e ∙ ap (λ (v : List ℕ). v ++ x) before ∙ sym (this-unit x e)
        ∙ sym (append-nil (flatten (units_on n (o.units ++ unit_on there.number.0 x ∷ []))))
        ∙ ap (λ (v : List ℕ). flatten (units_on n (o.units ++ unit_on there.number.0 x ∷ [])) ++ v) (sym none)
    finished-all g (no f) = other-with f ∙ o.all ∙ ap (λ (v : List ℕ). v ++ held_of r.channels r.held (place_of s n)) (sym (other-unit x f))

    finished-holds : there.segmentable ≡ false → Holds s n with (finished r there.number.0 x)
    finished-holds g = record {
      units = o.units ++ unit_on there.number.0 x ∷ [];
      tells = tells-finished r o.units there.number.0 x o.tells;
      orderly = o.orderly;
      alike = o.alike;
      all = finished-all g (ℕ_discrete m n);
    }

    pub took-holds : has_room r.channels p (length x) ≡ true → Holds s n with (took r p x)
    took-holds h = by there.segmentable refl h
      where
        by : (g : Bool) → there.segmentable ≡ g → (not g || leb (there.held + length x) place_octets) ≡ true
            → Holds s n with (cond g (joined r p x) (finished r there.number.0 x))
        by true g h = joined-holds (leb-true (there.held + length x) place_octets h) g
        by false g h = finished-holds g

  -- the unit is ended

  abbrev held : List ℕ
  held = held_of r.channels r.held p

  closed_all : Dec (m ≡ n)
      → u ≡ flatten (units_on n (o.units ++ unit_on there.number.0 held ∷ [])) ++ held_at (channel_at (put r.channels p (holding there 0)) (place_of s n))
      r.held (place_of s n)
  closed_all (yes e) =
      let q : place_of s n ≡ p = ap (place_of s) (sym e) ∙ place in
      let none : held_at (channel_at (put r.channels p (holding there 0)) (place_of s n)) r.held (place_of s n) ≡ []
      = ap (λ (j : ℕ). held_at (channel_at (put r.channels p (holding there 0)) j) r.held j) q
      ∙ ap (λ (c : Channel). held_at c r.held p) (put-there r.channels o.orderly.full p (holding there 0) inside) in
      o.all ∙ ap (λ (j : ℕ). flatten (units_on n o.units) ++ held_of r.channels r.held j) q ∙ sym (this-unit held e)
      ∙ sym (append-nil (flatten (units_on n (o.units ++ unit_on there.number.0 held ∷ []))))
      ∙ ap (λ (v : List ℕ). flatten (units_on n (o.units ++ unit_on there.number.0 held ∷ [])) ++ v) (sym none)
  closed_all (no f) =
      o.all
      ∙ ap₂ (λ (v : List ℕ) (c : Channel). v ++ held_at c r.held (place_of s n)) (sym (other-unit held f))
      (sym (put-elsewhere r.channels p (place_of s n) (holding there 0) (off f)))

  pub closed-holds : Holds s n u (closed r p)
  closed-holds =
      let again = tells-finished r o.units there.number.0 held o.tells in
      record {
        units = o.units ++ unit_on there.number.0 held ∷ [];
        tells = record { octets = again.octets; units = again.units; count = again.count };
        orderly = orderly_emptied o.orderly inside;
        alike = seats-put r.channels p (holding there 0) refl ∙ o.alike;
        all = closed_all (ℕ_discrete m n);
      }

-- ---- slot after slot

either-channels : (g : Bool) (a b : Delivery) → cond g a.channels b.channels ≡ (cond g a b).channels
either-channels true a b = refl
either-channels false a b = refl

pub counted-took : (r : Delivery) (p : ℕ) (x : List ℕ) → counted r.channels p (length x) ≡ (took r p x).channels
counted-took r p x = either-channels (channel_at r.channels p).segmentable (joined r p x) (finished r (channel_at r.channels p).number.0 x)

pub slots_hold : {s : Channels} {n : ℕ} (l : List Slot) {u : List ℕ} {r : Delivery} (xs : List ℕ) → Holds s n u r → all_open s (numbers_of l) ≡ true
    → fits r.channels (placed s l) ≡ true → octets_of l ≤ length xs → Holds s n (u ++ going_to n (channels_of l) xs) (took_all r (placed s l) xs)
unfolding all_open fits placed octets_of channels_of going_to took_all
slots_hold {s} {n} [] {u} {r} xs o a f h = subst (λ (v : List ℕ). Holds s n v r) (sym (append-nil u)) o
slots_hold {s} {n} (y ∷ l) {u} {r} xs o a f h =
    let k = y.octets in
    let p = place_of s y.channel in
    let x = take k xs in
    let size : length x ≡ k = length-take-le k xs (omega arith) in
    let known = both_true (is_in s y.channel) (all_open s (numbers_of l)) a in
    let fitting = both_true (has_room r.channels p k) (fits (counted r.channels p k) (placed s l)) f in
    let room : has_room r.channels p (length x) ≡ true = ap (has_room r.channels p) size ∙ fitting.0 in
    let same : counted r.channels p k ≡ (took r p x).channels = ap (counted r.channels p) (sym size) ∙ counted-took r p x in
    let next = took-holds o y.channel p refl (ltb-true p place_count known.0) x room in
    let rest =
    slots_hold l (drop k xs) next known.1 (ap (λ (t : Channels). fits t (placed s l)) (sym same) ∙ fitting.1) (rw (length-drop k xs) (omega arith)) in
    subst (λ (v : List ℕ). Holds s n v (took_all (took r p x) (placed s l) (drop k xs)))
    (append_assoc u (cond (eqb y.channel n) x []) (going_to n (channels_of l) (drop k xs))
    ∙ ap (λ (v : List ℕ). u ++ v) (sym (going-first n y.channel k (channels_of l) xs (omega arith)))) rest

pub last-known : (s : Channels) (l : List Slot) → last_place (placed s l) < place_count → (m : ℕ) × (place_of s m ≡ last_place (placed s l))
unfolding placed last_place
last-known s [] h = absurd (omega arith)
last-known s (y ∷ []) h = (y.channel, refl)
last-known s (y ∷ z ∷ l) h = last-known s (z ∷ l) h
