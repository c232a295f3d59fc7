-- A channel opened at both ends leaves them matched.
--
--   opened_matched   the seats stay alike; the new channel has nothing under way, and no other's place changes
--   start_alike      at first every place is as channel 0, just opened, and a free one are alike
--   start_matched    both ends fresh match
--
-- Assumes nothing.
use mathlib.Core.Path.{◌≡◌, refl, sym, ap, ◌∙◌}
use mathlib.Core.Logic.{◌≢◌}
use mathlib.Core.Bool.{Bool, true}
use mathlib.Core.List.{List, [], ◌++◌}
use Prim.Native.Nat.{ℕ, zero, suc, ◌≤◌, ◌<◌, ◌-◌}
use native.Mathlib.Decide.{ℕ_discrete}
use native.Mathlib.Omega.{arith}
use lib.ListN.{length, get_or, set, length-set, replicate}
use Rattle.channels.specs.declared.Channel.{Channel}
use Rattle.channels.specs.declared.Channels.{Channels}
use Rattle.channels.specs.Channels.{vacant, fresh, start, place_of, free_place, channel_at, put, place_count, all_octets}
use Rattle.multiplex.specs.Units.{UnitOn, units_on}
use Rattle.channels.proofs.Laws.{Seat, seat, vacant-behind, put-there, put-elsewhere, place-new, place-old, place-not_free}
use Rattle.runs.proofs.Same.{map-set}
use Rattle.runs.proofs.Matching.{way, Twin, Matched, full-there}

twin-fresh : (n : ℕ) (g : Bool) → Twin (fresh n g) (fresh n g)
twin-fresh n g = record { bounded = omega arith; ended = λ e. refl; whole = λ e. refl }

module _ {s : Channels} {w : List ℕ} {r : Channels} {h : List ℕ} {sent got : List UnitOn} (m : Matched s w r h sent got) (n : ℕ) (g : Bool)
    (p : ℕ) (place : free_place s ≡ p) (inside : p < place_count) (unknown : place_count ≤ place_of s n) where
  abbrev next : Channels
  next = put s p (fresh n g)

  new : place_of next n ≡ p
  new = place-new s m.full p place inside n g unknown

  old : (k : ℕ) → n ≢ k → place_of next k ≡ place_of s k
  old = place-old s m.full p place inside n g

  not_there : (k : ℕ) → place_of s k ≢ p
  not_there = place-not_free s m.full p place inside

  twins : (q : ℕ) → Dec (q ≡ p) → Twin (channel_at (put s p (fresh n g)) q) (channel_at (put r p (fresh n g)) q)
  twins q (yes e) = rw (e, put-there s m.full p (fresh n g) inside, put-there r (full-there m) p (fresh n g) inside) (twin-fresh n g)
  twins q (no f) = rw (put-elsewhere s p q (fresh n g) f, put-elsewhere r p q (fresh n g) f) (m.each q)

  log-new : units_on n sent ≡ units_on n got ++ []
  log-new =
      let e : way (channel_at s (place_of s n)) w (channel_at r (place_of s n)) h (place_of s n) ≡ [] = rw (vacant-behind s m.full (place_of s n) unknown) in
      m.log n ∙ ap (λ (x : List (List ℕ)). units_on n got ++ x) e

  logs : (k : ℕ) → Dec (n ≡ k)
      → units_on k sent
      ≡ units_on k got ++ way (channel_at (put s p (fresh n g)) (place_of (put s p (fresh n g)) k)) w
      (channel_at (put r p (fresh n g)) (place_of (put s p (fresh n g)) k)) h (place_of (put s p (fresh n g)) k)
  logs k (yes e) = rw (← e, new, put-there s m.full p (fresh n g) inside) log-new
  logs k (no f) =
      rw (old k f, put-elsewhere s p (place_of s k) (fresh n g) (not_there k), put-elsewhere r p (place_of s k) (fresh n g) (not_there k)) (m.log k)

  pub opened_matched : Matched (put s p (fresh n g)) w (put r p (fresh n g)) h sent got
  opened_matched = record {
    alike = map-set seat s.at p (fresh n g) ∙ ap (λ (l : List Seat). set l p (seat (fresh n g))) m.alike ∙ sym (map-set seat r.at p (fresh n g));
    full = length-set s.at p (fresh n g) ∙ m.full;
    waiting_room = m.waiting_room;
    held_room = m.held_room;
    each = λ q. twins q (ℕ_discrete q p);
    log = λ k. logs k (ℕ_discrete n k);
  }

-- ---- at first

none-waits : (n i : ℕ) → get_or (replicate n vacant) i vacant ≡ vacant
none-waits zero i = refl
none-waits (suc n) zero = refl
none-waits (suc n) (suc i) = none-waits n i

pub start_alike : {A : Type 0} (f : Channel → A) (a : A) → f vacant ≡ a → f (fresh 0 true) ≡ a → (p : ℕ) → f (channel_at start p) ≡ a
unfolding start
start_alike f a v e zero = e
start_alike f a v e (suc p) = ap f (none-waits (place_count - 1) p) ∙ v

start-each : (p : ℕ) → Twin (channel_at start p) (channel_at start p)
unfolding start
start-each zero = twin-fresh 0 true
start-each (suc p) = rw (none-waits (place_count - 1) p) (record { bounded = omega arith; ended = λ e. refl; whole = λ e. refl })

start-way : (w h : List ℕ) (p : ℕ) → way (channel_at start p) w (channel_at start p) h p ≡ []
unfolding start
start-way w h zero = refl
start-way w h (suc p) = rw (none-waits (place_count - 1) p)

pub start_matched : (w h : List ℕ) → length w ≡ all_octets → length h ≡ all_octets → Matched start w start h [] []
unfolding start units_on
start_matched w h e f = record {
  alike = refl;
  full = refl;
  waiting_room = e;
  held_room = f;
  each = start-each;
  log = λ n. sym (start-way w h (place_of start n));
}
