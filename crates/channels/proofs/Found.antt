-- A channel is open exactly where some place has it, and channels all are where each is.
--
--   open_exactly, all_open_exactly     the claims of specs/Exactly.antt
--
-- Assumes nothing.
use mathlib.Core.Path.{◌≡◌, refl}
use mathlib.Core.Bool.{true}
use mathlib.Core.List.{[], ◌∷◌}
use Prim.Native.Nat.{ℕ, zero, suc, ◌<◌}
use native.Mathlib.Nat.{not-suc-le-zero}
use native.Mathlib.Omega.{arith}
use borrow.Author.Tests.{ltb-true, lt-ltb, eq-eqb}
use lib.ListN.{length, get_or}
use Rattle.octets.specs.Tests.{both_true}
use Rattle.channels.specs.Channels.{vacant, is_channel, place_of, is_in, all_open, channel_at}
use Rattle.channels.specs.Exactly.{OpenExactly, AllOpenExactly}
use Rattle.channels.proofs.Seats.{first-least, place_open, place-number, known-place}

pub open_exactly : OpenExactly
unfolding place_of
open_exactly s n full = (
  λ e. let h = ltb-true (place_of s n) 16 e in (place_of s n, place_open s full n h, place-number s full n h),
  λ q.
      let g : is_channel n (channel_at s q.0) ≡ true = rw q.1 (eq-eqb _ n q.2) in
      let h : q.0 < 16 = known-place s (is_channel n) q.0 full refl g in
      lt-ltb (place_of s n) 16 (omega (arith, first-least (is_channel n) vacant s.at q.0 (rw full h) g)),
)

pub all_open_exactly : AllOpenExactly
unfolding all_open
all_open_exactly s [] = (λ e j h. absurd (not-suc-le-zero h), λ h. refl)
all_open_exactly s (n ∷ l) = (
  λ e.
      let known = both_true (is_in s n) (all_open s l) e in
      each known.0 ((all_open_exactly s l).0 known.1),
  λ h. rw (h 0 (omega arith)) ((all_open_exactly s l).1 (λ j k. h (suc j) (omega arith))),
)
  where
    each : is_in s n ≡ true → ((j : ℕ) → j < length l → is_in s (get_or l j 0) ≡ true) → (j : ℕ) → j < suc (length l) → is_in s (get_or (n ∷ l) j 0) ≡ true
    each first rest zero h = first
    each first rest (suc j) h = rest j (omega arith)
