-- Finished units are ordered by their last octet.
--
--   Ordered P r       the units that the delivery r has finished rise so
--   slots_ordered     those of a payload's slots do, all on channels that are not segmentable
--   delivery_ordered  .. and with the one that the closing mark ends
--   lasts-rise        the claim
--
-- Assumes nothing.
use mathlib.Core.Path.{◌≡◌, refl, sym, ap, ap₂, subst, ◌∙◌}
use mathlib.Core.Bool.{Bool, true, false, cond, not, ◌&&◌}
use mathlib.Core.List.{List, [], ◌∷◌, ◌++◌, append_assoc, append-nil, flatten}
use Prim.Native.Nat.{ℕ, zero, suc, ◌+◌, ◌*◌, ◌-◌, ◌≤◌, ◌<◌}
use native.Mathlib.Nat.{not-suc-le-zero}
use native.Mathlib.Decide.{dec_lt}
use native.Mathlib.Omega.{arith}
use borrow.Author.Tests.{ltb-true, not-false}
use lib.Dec.{eqb}
use lib.ListN.{length, get_or, take, drop, length-append, length-drop, take-append-drop}
use lib.Seq.{length-take-le, take_all, take-append_seam, get_or-append_seam, get_or-append-add}
use Rattle.octets.specs.Tests.{never, both_true}
use Rattle.table.specs.Slots.{Slot, copies, payload_slots, octets_of, channels_of, numbers_of}
use Rattle.table.specs.Table.{entry_of}
use Rattle.table.proofs.Laws.{Filled, payload_slots_filled, payload_slots_most}
use Rattle.channels.specs.declared.Channel.{Channel}
use Rattle.channels.specs.declared.Channels.{Channels}
use Rattle.channels.specs.Channels.{place_count, place_octets, place_of, is_in, all_open, channel_at, holding, held_of}
use Rattle.channels.proofs.Laws.{Seat, seat-at, number-seats, put-there, segmentable-place}
use Rattle.multiplex.specs.Pieces.{placed, last_place}
use Rattle.multiplex.specs.Demultiplexer.{DemuxLent, Delivery, finished, joined, took, took_all, closed, counted, has_room, fits, nothing, delivery}
use Rattle.multiplex.specs.Units.{UnitOn, units_on, units_in}
use Rattle.channels.specs.Claims.{Orderly}
use Rattle.multiplex.specs.Claims.{going_to, held_on, EndsWith, LastsRise}
use Rattle.multiplex.proofs.Records.{unit_on, Tells, tells-finished, tells-nothing, tells_read}
use Rattle.multiplex.proofs.Tallying.{took-channels}
use Rattle.multiplex.proofs.Keeping.{Holds, going-first, took-holds, closed-holds, slots_hold, nothing-holds}
use Rattle.multiplex.proofs.Leaving.{going-append, copies_length, channels-length}
use Rattle.multiplex.proofs.Rising.{Rises, rises-kept, rises-more}
use Rattle.multiplex.proofs.Unrefused.{is-accepted}

-- ---- the octets of one slot

one_going : (n m k : ℕ) (x : List ℕ) → length x ≡ k → going_to n (copies k (m ∷ [])) x ≡ cond (eqb m n) x []
unfolding going_to
one_going n m k x e =
    ap (λ (l : List ℕ). going_to n l x) (sym (append-nil (copies k (m ∷ [])))) ∙ going-first n m k [] x (omega arith)
    ∙ ap (λ (a : List ℕ). cond (eqb m n) a [] ++ []) (take_all k x (omega arith)) ∙ append-nil (cond (eqb m n) x [])

turn_at : (m k j : ℕ) (l : List ℕ) → j < k → get_or (copies k (m ∷ []) ++ l) j 0 ≡ m
unfolding copies
turn_at m zero j l h = absurd (omega arith)
turn_at m (suc k) zero l h = refl
turn_at m (suc k) (suc j) l h = turn_at m k j l (omega arith)

-- the last octet's channel has the last place
last_turn : (s : Channels) (l : List Slot) → Filled l → last_place (placed s l) < place_count
    → (m : ℕ) × (place_of s m ≡ last_place (placed s l)) × (get_or (channels_of l) (octets_of l - 1) 0 ≡ m) × (1 ≤ octets_of l)
unfolding placed last_place Filled channels_of octets_of
last_turn s [] f h = absurd (omega arith)
last_turn s (y ∷ []) f h = (y.channel, refl, turn_at y.channel y.octets (y.octets + 0 - 1) [] (omega (arith, f.0)), omega (arith, f.0))
last_turn s (y ∷ z ∷ l) f h =
    let t = last_turn s (z ∷ l) f.1 h in
    let c = copies y.octets (y.channel ∷ []) in
    let o = z.octets + octets_of l in
    let e : y.octets + o - 1 ≡ length c + (o - 1) = omega (arith, copies_length y.octets y.channel, t.3) in
    (t.0, t.1, rw e (get_or-append-add c (channels_of (z ∷ l)) (o - 1) 0) ∙ t.2, omega arith)

-- ---- a delivery

-- ns are the channels of the payload's octets xs, and h what all places held before
module _ (s : Channels) (full : length s.at ≡ place_count) (h ns xs : List ℕ) where
  abbrev held : ℕ → List ℕ
  held n = held_of s h (place_of s n)

  abbrev Low : ℕ → ℕ → Type 0
  Low a b = (b < a) × ((channel_at s (place_of s (get_or ns b 0))).segmentable ≡ false)

  pub record Ordered (P : ℕ → Type 0) (r : Delivery) : Type 0 where
    pub units : List UnitOn
    pub tells : Tells r units
    pub rises : Rises ns xs held P units

  -- one more unit of channel m, which payload octet i ends
  module _ (m i : ℕ) (r : Delivery) (us : List UnitOn) (q : ℕ) (v before came rest more : List ℕ) (turns : ns ≡ before ++ rest) (comes : xs ≡ came ++ more)
      (turned : length before ≡ i + 1) (gone : length came ≡ i + 1) where
    unit_ends : q ≡ m → get_or ns i 0 ≡ m → Tells r (us ++ unit_on q v ∷ []) → Holds s m (held m ++ going_to m before came) r
        → held_of r.channels r.held (place_of s m) ≡ [] → EndsWith ns xs held (us ++ unit_on q v ∷ []) (length us) i
    unit_ends number turn tells o none =
        let new = us ++ unit_on q v ∷ [] in
        let a : take (i + 1) ns ≡ before = ap₂ (λ (j : ℕ) (l : List ℕ). take j l) (sym turned) turns ∙ take-append_seam before rest in
        let b : take (i + 1) xs ≡ came = ap₂ (λ (j : ℕ) (l : List ℕ). take j l) (sym gone) comes ∙ take-append_seam came more in
        let c : take (length us + 1) new ≡ new = take_all (length us + 1) new (omega (arith, length-append us (unit_on q v ∷ []))) in
        let same : o.units ≡ new = sym (tells_read r o.units [] [] o.tells) ∙ tells_read r new [] [] tells in
        let d : held m ++ going_to m before came ≡ flatten (units_on m new)
        = o.all ∙ ap₂ (λ (u : List UnitOn) (z : List ℕ). flatten (units_on m u) ++ z) same none ∙ append-nil (flatten (units_on m new)) in
        record {
          turn = omega (arith, ap length turns, length-append before rest);
          present = omega (arith, ap length comes, length-append came more);
          own = ap (λ (u : UnitOn). u.channel) (get_or-append_seam us (unit_on q v) [] (unit_on 0 [])) ∙ number ∙ sym turn;
          all = rw (turn, a, b, c) d;
        }

  -- one slot
  module _ (y : Slot) (r : Delivery) (before came rest zs : List ℕ) (turns : ns ≡ before ++ (copies y.octets (y.channel ∷ []) ++ rest))
      (comes : xs ≡ came ++ zs) (even : length before ≡ length came) (some : 1 ≤ y.octets) (known : is_in s y.channel ≡ true)
      (enough : y.octets ≤ length zs) (o : (n : ℕ) → Holds s n (held n ++ going_to n before came) r)
      (room : has_room r.channels (place_of s y.channel) y.octets ≡ true) where
    abbrev m : ℕ
    m = y.channel

    abbrev k : ℕ
    k = y.octets

    abbrev p : ℕ
    p = place_of s m

    abbrev x : List ℕ
    x = take k zs

    abbrev turned : List ℕ
    turned = before ++ copies k (m ∷ [])

    abbrev gone : List ℕ
    gone = came ++ x

    abbrev there : Channel
    there = channel_at r.channels p

    inside : p < place_count
    inside = ltb-true p place_count known

    piece-size : length x ≡ k
    piece-size = length-take-le k zs enough

    turned-length : length turned ≡ length before + k
    turned-length = length-append before (copies k (m ∷ [])) ∙ omega (arith, copies_length k m)

    slot_even : length turned ≡ length gone
    slot_even = turned-length ∙ omega (arith, length-append came x, piece-size, even)

    slot_turns : ns ≡ turned ++ rest
    slot_turns = turns ∙ sym (append_assoc before (copies k (m ∷ [])) rest)

    slot-comes : xs ≡ gone ++ drop k zs
    slot-comes = comes ∙ ap (λ (l : List ℕ). came ++ l) (sym (take-append-drop k zs)) ∙ sym (append_assoc came x (drop k zs))

    slot-holds : (n : ℕ) → Holds s n (held n ++ going_to n turned gone) (took r p x)
    slot-holds n =
        subst (λ (u : List ℕ). Holds s n u (took r p x))
        (append_assoc (held n) (going_to n before came) (cond (eqb m n) x [])
        ∙ ap (λ (u : List ℕ). held n ++ u) (sym (going-append n before (copies k (m ∷ [])) came x even
        ∙ ap (λ (u : List ℕ). going_to n before came ++ u) (one_going n m k x piece-size))))
        (took-holds (o n) m p refl inside x (ap (has_room r.channels p) piece-size ∙ room))

    slot_ordered : Ordered (Low (length before)) r → Ordered (Low (length turned)) (took r p x)
    slot_ordered z = by there.segmentable refl
      where
        turn : get_or ns (length before + (k - 1)) 0 ≡ m
        turn =
            ap (λ (l : List ℕ). get_or l (length before + (k - 1)) 0) turns ∙ get_or-append-add before (copies k (m ∷ []) ++ rest) (k - 1) 0
            ∙ turn_at m k (k - 1) rest (omega (arith, some))

        by : (g : Bool) → there.segmentable ≡ g → Ordered (Low (length turned)) (took r p x)
        by true e = subst (Ordered (Low (length turned))) (ap (λ (b : Bool). cond b (joined r p x) (finished r there.number.0 x)) (sym e)) (record {
          units = z.units;
          tells = record { octets = z.tells.octets; units = z.tells.units; count = z.tells.count };
          rises = rises-kept ns xs held (Low (length before)) (Low (length turned)) z.units (λ b l. (omega (arith, l.0, turned-length), l.1)) z.rises;
        })
        by false e =
            let q = there.number.0 in
            let i = length before + (k - 1) in
            let is : took r p x ≡ finished r q x = ap (λ (b : Bool). cond b (joined r p x) (finished r q x)) e in
            let tells = tells-finished r z.units q x z.tells in
            let whole : (channel_at s p).segmentable ≡ false = sym (ap (λ (c : Seat). c.segmentable) (seat-at r.channels s (o m).alike p)) ∙ e in
            let none : held_of r.channels r.held p ≡ [] = ap (λ (j : ℕ). take j (drop (place_octets * p) r.held)) ((o m).orderly.whole p e) in
            subst (Ordered (Low (length turned))) (sym is) (record {
              units = z.units ++ unit_on q x ∷ [];
              tells = tells;
              rises = rises-more ns xs held (Low (length before)) (Low (length turned)) z.units z.rises (unit_on q x) i
                  (λ b l. omega (arith, l.0, some))
                  (λ b l. (omega (arith, l.0, turned-length), l.1)) (omega (arith, some, turned-length), rw turn whole)
                  (unit_ends m i (finished r q x) z.units q x turned gone rest (drop k zs) slot_turns slot-comes
                  (turned-length ∙ omega (arith, some)) (sym slot_even ∙ turned-length ∙ omega (arith, some))
                  (number-seats s r.channels (o m).alike full m p refl inside) turn tells (subst (Holds s m (held m ++ going_to m turned gone)) is (slot-holds m)) none);
            })

  pub slots_ordered : (l : List Slot) (r : Delivery) (before came zs : List ℕ) → ns ≡ before ++ channels_of l → xs ≡ came ++ zs → length before ≡ length came
      → Filled l → all_open s (numbers_of l) ≡ true → fits r.channels (placed s l) ≡ true → octets_of l ≤ length zs
      → ((n : ℕ) → Holds s n (held n ++ going_to n before came) r) → Ordered (Low (length before)) r → Ordered (Low (length ns)) (took_all r (placed s l) zs)
  unfolding Filled all_open fits placed octets_of channels_of took_all
  slots_ordered [] r before came zs turns comes even f a g enough o z =
      subst (λ (j : ℕ). Ordered (Low j) r) (ap length (sym (turns ∙ append-nil before))) z
  slots_ordered (y ∷ l) r before came zs turns comes even f a g enough o z =
      let k = y.octets in
      let p = place_of s y.channel in
      let x = take k zs in
      let known = both_true (is_in s y.channel) (all_open s (numbers_of l)) a in
      let fitting = both_true (has_room r.channels p k) (fits (counted r.channels p k) (placed s l)) g in
      let few : k ≤ length zs = omega arith in
      let size = piece-size y r before came (channels_of l) zs turns comes even f.0 known.0 few o fitting.0 in
      slots_ordered l (took r p x) (before ++ copies k (y.channel ∷ [])) (came ++ x) (drop k zs)
      (slot_turns y r before came (channels_of l) zs turns comes even f.0 known.0 few o fitting.0)
      (slot-comes y r before came (channels_of l) zs turns comes even f.0 known.0 few o fitting.0)
      (slot_even y r before came (channels_of l) zs turns comes even f.0 known.0 few o fitting.0)
      f.1 known.1
      (ap (λ (t : Channels). fits t (placed s l)) (took-channels r p x ∙ ap (counted r.channels p) size) ∙ fitting.1)
      (rw (length-drop k zs) (omega arith))
      (slot-holds y r before came (channels_of l) zs turns comes even f.0 known.0 few o fitting.0)
      (slot_ordered y r before came (channels_of l) zs turns comes even f.0 known.0 few o fitting.0 z)

  abbrev Any : ℕ → Type 0
  Any b = Unit {0}

  -- the closing mark: the last octet is on a segmentable channel, so that no unit has ended with it
  marked_ordered : (l : List Slot) (r : Delivery) → Filled l → ns ≡ channels_of l → length ns ≡ length xs → ((n : ℕ) → Holds s n (held n ++ going_to n ns xs) r)
      → Ordered (Low (length ns)) r → (channel_at s (last_place (placed s l))).segmentable ≡ true → Ordered Any (closed r (last_place (placed s l)))
  marked_ordered l r filled turns even o z goes =
      let end = last_place (placed s l) in
      let near = segmentable-place s end full goes in
      let t = last_turn s l filled near in
      let m = t.0 in
      let i = octets_of l - 1 in
      let q = (channel_at r.channels end).number.0 in
      let v = held_of r.channels r.held end in
      let size : length ns ≡ octets_of l = ap length turns ∙ channels-length l in
      let turn : get_or ns i 0 ≡ m = ap (λ (c : List ℕ). get_or c i 0) turns ∙ t.2 in
      let none : held_of (closed r end).channels r.held (place_of s m) ≡ []
      = ap (held_of (closed r end).channels r.held) t.1
      ∙ ap (λ (c : Channel). take c.held (drop (place_octets * end) r.held))
      (put-there r.channels (o m).orderly.full end (holding (channel_at r.channels end) 0) near) in
      let again = tells-finished r z.units q v z.tells in
      let tells : Tells (closed r end) (z.units ++ unit_on q v ∷ []) = record { octets = again.octets; units = again.units; count = again.count } in
      record {
        units = z.units ++ unit_on q v ∷ [];
        tells = tells;
        rises = rises-more ns xs held (Low (length ns)) Any z.units z.rises (unit_on q v) i
            (λ b w. before m i end turn t.1 goes b w (omega (arith, size, w.0, t.3))) (λ b w. tt) tt
            (unit_ends m i (closed r end) z.units q v ns xs [] [] (sym (append-nil ns)) (sym (append-nil xs)) (omega (arith, size, t.3))
            (omega (arith, size, even, t.3)) (number-seats s r.channels (o m).alike full m end t.1 near) turn tells
            (closed-holds (o m) m end t.1 near) none);
      }
    where
      before : (m i end : ℕ) → get_or ns i 0 ≡ m → place_of s m ≡ end → (channel_at s end).segmentable ≡ true → (b : ℕ) → Low (length ns) b → b ≤ i → b < i
      before m i end turn place goes b w most = by (dec_lt b i)
        where
          by : Dec (b < i) → b < i
          by (yes k) = k
          by (no k) =
              let e : b ≡ i = omega arith in
              let f : place_of s (get_or ns b 0) ≡ end = ap (λ (j : ℕ). place_of s (get_or ns j 0)) e ∙ ap (place_of s) turn ∙ place in
              let c : (channel_at s end).segmentable ≡ false = ap (λ (j : ℕ). (channel_at s j).segmentable) (sym f) ∙ w.1 in
              never (cc)

  pub delivery_ordered : (mark : Bool) (l : List Slot) → Orderly s h → Filled l → ns ≡ channels_of l → length ns ≡ length xs → all_open s (numbers_of l) ≡ true
      → fits s (placed s l) ≡ true → (mark && not (channel_at s (last_place (placed s l))).segmentable) ≡ false → Ordered Any (delivery s h mark (placed s l) xs)
  unfolding delivery going_to
  delivery_ordered mark l o filled turns even opened fitting marked = by mark marked
    where
      most : octets_of l ≤ length xs
      most = omega (arith, even, ap length turns, channels-length l)

      start : Ordered (Low 0) (nothing s h)
      start = record {
        units = [];
        tells = tells-nothing s h;
        rises = record { last = λ j. 0; ends = λ j e. absurd (not-suc-le-zero e); each = λ j e. absurd (not-suc-le-zero e); rise = λ j e. absurd (not-suc-le-zero e) };
      }

      taken : Ordered (Low (length ns)) (took_all (nothing s h) (placed s l) xs)
      taken =
          slots_ordered l (nothing s h) [] [] xs turns refl refl filled opened fitting most
          (λ n. subst (λ (u : List ℕ). Holds s n u (nothing s h)) (sym (append-nil (held n))) (nothing-holds s h n o)) start

      holds : (n : ℕ) → Holds s n (held n ++ going_to n ns xs) (took_all (nothing s h) (placed s l) xs)
      holds n =
          subst (λ (c : List ℕ). Holds s n (held n ++ going_to n c xs) (took_all (nothing s h) (placed s l) xs)) (sym turns)
          (slots_hold l xs (nothing-holds s h n o) opened fitting most)

      by : (b : Bool) → (b && not (channel_at s (last_place (placed s l))).segmentable) ≡ false → Ordered Any (delivery s h b (placed s l) xs)
      by true e =
          marked_ordered l (took_all (nothing s h) (placed s l) xs) filled turns even holds taken
          (not-false (channel_at s (last_place (placed s l))).segmentable e)
      by false e = record {
        units = taken.units;
        tells = taken.tells;
        rises = rises-kept ns xs held (Low (length ns)) Any taken.units (λ b w. tt) taken.rises;
      }

-- ---- the claim

pub lasts-rise : LastsRise
lasts-rise x y t c mark xs k o e =
    let l = payload_slots (entry_of t c) (length xs) in
    let ns = channels_of l in
    let a = is-accepted x y t c mark xs k e in
    let even : length ns ≡ length xs = channels-length l ∙ omega (arith, a.enough, payload_slots_most (entry_of t c) (length xs)) in
    let d = delivery x.channels x.held mark (placed x.channels l) xs in
    let f = delivery_ordered x.channels o.full x.held ns xs mark l o (payload_slots_filled (entry_of t c) (length xs)) refl even a.opened a.fitting
    a.marked in
    let read : f.units ≡ units_in y.output y.units k
    = sym (tells_read d f.units x.output x.units f.tells)
    ∙ ap₂ (λ (z : DemuxLent) (j : ℕ). units_in z.output z.units j) a.left a.count in
    let size : length f.units ≡ k = sym f.tells.count ∙ a.count in (
      f.rises.last,
      λ j h. subst (λ (us : List UnitOn). EndsWith ns xs (held_on x) us j (f.rises.last j)) read (f.rises.ends j (rw size h)),
      λ j h. f.rises.rise j (rw size h),
    )
