-- Channels that are seated as they must be, and what keeps them so.
--
--   seated-kept       a place that keeps its seat; a free one stays as it was
--   seated-put        the place of an open channel that keeps its seat
--   seated-opened     a channel opened that was not open
--   seated-closed     a channel closed that is not channel 0
--   seated-start      the channels at first
--   each_start        what is true of a free place, and of the first one at first, is true of every place at first
--
-- Assumes nothing.
use mathlib.Core.Path.{◌≡◌, refl, sym, ap, ◌∙◌}
use mathlib.Core.Logic.{◌≢◌}
use mathlib.Core.Bool.{Bool, true, false, cond}
use Prim.Native.Nat.{ℕ, zero, suc, ◌-◌, ◌<◌}
use native.Mathlib.Decide.{ℕ_discrete}
use native.Mathlib.Omega.{arith}
use borrow.Author.Tests.{lt-ltb, ne_eqb, eq-eqb}
use lib.Dec.{eqb}
use lib.ListN.{length, get_or, replicate}
use Rattle.octets.specs.Tests.{never}
use Rattle.channels.specs.declared.Channel.{Channel}
use Rattle.channels.specs.declared.Channels.{Channels}
use Rattle.channels.specs.Channels.{place_count, vacant, fresh, start, is_channel, place_of, free_place, is_in, channel_at, put}
use Rattle.channels.specs.Search.{first}
use Rattle.channels.specs.Claims.{Seated}
use Rattle.channels.proofs.Seats.{Seat, seat, seats-put, place-seats, seat-at, first-least, first-set, each_set, known-place}
use Rattle.channels.proofs.Seats.{place_open, place-number, place_unique, put-there, put-elsewhere, place-old, place-not_free}

module _ (s : Channels) (p : ℕ) (c : Channel) (d : Seated s) where
  abbrev r : Channels
  r = put s p c

  at : seat c ≡ seat (channel_at s p) → (q : ℕ) → seat (channel_at r q) ≡ seat (channel_at s q)
  at e = seat-at r s (seats-put s p c e)

  pub seated-kept : seat c ≡ seat (channel_at s p) → (c.«open» ≡ false → c ≡ vacant) → Seated r
  seated-kept e v = record {
    control = rw (place-seats r s (seats-put s p c e) 0) d.control;
    segmentable = ap (λ (z : Seat). z.segmentable) (at e (place_of r 0)) ∙ rw (place-seats r s (seats-put s p c e) 0) d.segmentable;
    once = λ i j a b f.
        d.once i j (sym (ap (λ (z : Seat). z.taken) (at e i)) ∙ a) (sym (ap (λ (z : Seat). z.taken) (at e j)) ∙ b)
        (sym (ap (λ (z : Seat). z.number) (at e i)) ∙ f ∙ ap (λ (z : Seat). z.number) (at e j));
    free = each_set (λ (k : Channel). k.«open» ≡ false → k ≡ vacant) vacant s.at p c d.free v;
  }

  -- another channel at a place that is not channel 0's, with a number that no open channel has elsewhere
  seated-new : place_of r 0 ≡ place_of s 0 → place_of s 0 ≢ p → ((q : ℕ) → q ≢ p → (channel_at s q).«open» ≡ true → c.«open» ≡ true → c.number.0 ≢ (channel_at s q).number.0)
      → length s.at ≡ place_count → p < place_count → (c.«open» ≡ false → c ≡ vacant) → Seated r
  seated-new zero-there else other full inside v = record {
    control = rw zero-there d.control;
    segmentable = rw (zero-there, put-elsewhere s p (place_of s 0) c else) d.segmentable;
    once = λ i j a b f. by i j (ℕ_discrete i p) (ℕ_discrete j p) a b f;
    free = each_set (λ (k : Channel). k.«open» ≡ false → k ≡ vacant) vacant s.at p c d.free v;
  }
    where
      there : (i : ℕ) → i ≡ p → channel_at r i ≡ c
      there i e = ap (channel_at r) e ∙ put-there s full p c inside

      apart : (i j : ℕ) → i ≡ p → j ≢ p → (channel_at r i).«open» ≡ true → (channel_at r j).«open» ≡ true → (channel_at r i).number.0 ≡ (channel_at r j).number.0 → ⊥
      apart i j e g a b f =
          let k = put-elsewhere s p j c g in
          other j g (ap (λ (k : Channel). k.«open») (sym k) ∙ b) (ap (λ (k : Channel). k.«open») (sym (there i e)) ∙ a)
          (ap (λ (k : Channel). k.number.0) (sym (there i e)) ∙ f ∙ ap (λ (k : Channel). k.number.0) k)

      by : (i j : ℕ) → Dec (i ≡ p) → Dec (j ≡ p) → (channel_at r i).«open» ≡ true → (channel_at r j).«open» ≡ true → (channel_at r i).number.0 ≡ (channel_at r j).number.0 → i ≡ j
      by i j (yes e) (yes g) a b f = e ∙ sym g
      by i j (yes e) (no g) a b f = absurd (apart i j e g a b f)
      by i j (no e) (yes g) a b f = absurd (apart j i g e b a (sym f))
      by i j (no e) (no g) a b f =
          let k = put-elsewhere s p i c e in
          let l = put-elsewhere s p j c g in
          d.once i j (ap (λ (k : Channel). k.«open») (sym k) ∙ a) (ap (λ (k : Channel). k.«open») (sym l) ∙ b)
          (ap (λ (k : Channel). k.number.0) (sym k) ∙ f ∙ ap (λ (k : Channel). k.number.0) l)

not-0 : (b : Bool) (m : ℕ) → m ≢ 0 → false ≡ cond b (eqb m 0) false
not-0 true m f = sym (ne_eqb m 0 f)
not-0 false m f = refl

module _ (s : Channels) (full : length s.at ≡ place_count) (d : Seated s) (n : ℕ) where
  is-place : (q : ℕ) → (channel_at s q).«open» ≡ true → n ≡ (channel_at s q).number.0 → is_in s n ≡ true
  unfolding place_of
  is-place q a e =
      let h = known-place s (λ c. c.«open») q full refl a in
      lt-ltb (place_of s n) place_count (omega (arith, first-least (is_channel n) vacant s.at q (rw full h) (rw a (eq-eqb _ _ (sym e))), h))

  pub seated-put : (c : Channel) → place_of s n < place_count → seat c ≡ seat (channel_at s (place_of s n)) → Seated (put s (place_of s n) c)
  seated-put c inside e =
      let a = place_open s full n inside in
      let b = ap (λ (z : Seat). z.taken) e in
      seated-kept s (place_of s n) c d e (λ f. never (cc))

  pub seated-opened : (g : Bool) → is_in s n ≡ false → free_place s < place_count → Seated (put s (free_place s) (fresh n g))
  seated-opened g unknown inside =
      seated-new s (free_place s) (fresh n g) d (place-old s full (free_place s) refl inside n g 0 other) (place-not_free s full (free_place s) refl inside 0)
      (λ q f a b e. let k = is-place q a e in never (cc)) full inside (λ e. never (cc))
    where
      other : n ≢ 0
      other e = let k : is_in s n ≡ true = ap (is_in s) e ∙ d.control in never (cc)

  pub seated-closed : n ≢ 0 → place_of s n < place_count → Seated (put s (place_of s n) vacant)
  unfolding place_of
  seated-closed f inside =
      seated-new s (place_of s n) vacant d same (λ e. f (place_unique s full n 0 (place_of s n) inside refl e)) (λ q g a b e. never (cc)) full inside (λ e. refl)
    where
      same : place_of (put s (place_of s n) vacant) 0 ≡ place_of s 0
      same = first-set (is_channel 0) s.at (place_of s n) vacant vacant
          (not-0 (channel_at s (place_of s n)).«open» (channel_at s (place_of s n)).number.0 (λ e. f (sym (place-number s full n inside) ∙ e)))

-- ---- at first

each-vacant : (P : Channel → Type 0) → P vacant → (n i : ℕ) → P (get_or (replicate n vacant) i vacant)
each-vacant P v zero i = v
each-vacant P v (suc n) zero = v
each-vacant P v (suc n) (suc i) = each-vacant P v n i

pub each_start : (P : Channel → Type 0) → P vacant → P (channel_at start 0) → (i : ℕ) → P (channel_at start i)
unfolding start
each_start P v f zero = f
each_start P v f (suc i) = each-vacant P v (place_count - 1) i

pub seated-start : Seated start
unfolding start place_of first
seated-start = record {
  control = refl;
  segmentable = refl;
  once = λ p q a b e. only p a ∙ sym (only q b);
  free = each_start (λ c. c.«open» ≡ false → c ≡ vacant) (λ e. refl) (λ e. never (cc));
}
  where
    only : (p : ℕ) → (channel_at start p).«open» ≡ true → p ≡ 0
    only zero e = refl
    only (suc i) e = let k = each-vacant (λ c. c.«open» ≡ false) refl (place_count - 1) i in never (cc)
