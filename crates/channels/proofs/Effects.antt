-- What the calls on channels do that are accepted.
--
--   opened_is, closed_is, reset_is   the claims of specs/Effects.antt
--
-- Assumes nothing.
use mathlib.Core.Path.{◌≡◌, refl, sym, ap, subst, ◌∙◌}
use mathlib.Core.Logic.{◌≢◌}
use mathlib.Core.Bool.{true, false}
use Prim.Native.Nat.{ℕ, ◌<◌}
use native.Mathlib.Decide.{ℕ_discrete, dec_lt}
use native.Mathlib.Omega.{arith}
use borrow.Author.Tests.{ltb-true, ltb-false, le-ltb, leb-false, ne_eqb, not-false}
use lib.ListN.{length, length-set}
use Rattle.octets.specs.Tests.{never}
use Rattle.calls.specs.Refusal.{Ended, leaving, refusing}
use Rattle.calls.proofs.Laws.{told-refused, leaving-same, by_tests}
use Rattle.adaptation.specs.AL2.{first_numbers}
use Rattle.channels.specs.declared.Channel.{Channel}
use Rattle.channels.specs.declared.Channels.{Channels}
use Rattle.channels.specs.Channels.{place_count, vacant, fresh, is_channel, place_of, free_place, is_in, channel_at, put, holding, numbering}
use Rattle.channels.specs.Channels.{open_tests, close_tests, reset_tests, opened, closed, reset}
use Rattle.channels.specs.Claims.{Seated, channel_of}
use Rattle.channels.specs.Effects.{OthersStay, OpenedIs, ClosedIs, ResetIs}
use Rattle.channels.proofs.Seats.{first-set, place_open, place-number, place_unique, put-there, put-elsewhere, place-new, place-old, place-not_free}
use Rattle.channels.proofs.Keeping.{channel-put, channel_else}

-- what is left where no test holds, and what was to be shown of it
through : (P : Channels → Type 0) (t a : Channels) → P a → ◌≡◌ {A = Ended (Unit {0}) Channels} (leaving tt a) (leaving tt t) → P t
through P t a p e = subst P (leaving-same tt tt a t e).1 p

refused_none : {P : Type 0} {s t : Channels} (k : ℕ) → refusing {A = Unit {0}} s k ≡ leaving tt t → P
refused_none k e = told-refused (ap (λ (r : Ended (Unit {0}) Channels). r.answer) e) refl

pub opened_is : OpenedIs
unfolding opened
opened_is s t n g full =
    by_tests (λ (r : Ended (Unit {0}) Channels). r ≡ leaving tt t → (channel_of t n ≡ fresh n g) × OthersStay s t n) (refusing s) (open_tests s n) _
    (λ k. refused_none k)
    (λ none.
    let i = leb-false place_count (free_place s) (search none) in
    let u = ltb-false (place_of s n) place_count (search none) in
    through (λ (v : Channels). (channel_of v n ≡ fresh n g) × OthersStay s v n) t (put s (free_place s) (fresh n g)) (
      rw (place-new s full (free_place s) refl i n g u) (put-there s full (free_place s) (fresh n g) i),
      λ m f.
          rw (place-old s full (free_place s) refl i n g m f)
          (put-elsewhere s (free_place s) (place_of s m) (fresh n g) (place-not_free s full (free_place s) refl i m)),
    ))

pub reset_is : ResetIs
unfolding reset
reset_is s t n full =
    let c = numbering (holding (channel_of s n) 0) first_numbers in
    by_tests (λ (r : Ended (Unit {0}) Channels). r ≡ leaving tt t → (channel_of t n ≡ c) × OthersStay s t n) (refusing s) (reset_tests s n) _
    (λ k. refused_none k)
    (λ none.
    let i = ltb-true (place_of s n) place_count (not-false (is_in s n) (search none)) in
    through (λ (v : Channels). (channel_of v n ≡ c) × OthersStay s v n) t (put s (place_of s n) c) (
      channel-put s n c full i refl,
      λ m f. channel_else s n m c full i refl f,
    ))

-- ---- closing

place-gone : (s : Channels) (p : ℕ) (c : Channel) (m : ℕ) → is_channel m c ≡ is_channel m (channel_at s p) → place_of (put s p c) m ≡ place_of s m
unfolding place_of
place-gone s p c m e = first-set (is_channel m) s.at p c vacant e

module _ (s : Channels) (n : ℕ) (full : length s.at ≡ place_count) (d : Seated s) (inside : place_of s n < place_count) where
  abbrev p : ℕ
  p = place_of s n

  abbrev gone : Channels
  gone = put s p vacant

  gone-full : length gone.at ≡ place_count
  gone-full = length-set s.at p vacant ∙ full

  not_there : Dec (place_of gone n < place_count) → is_in gone n ≡ false
  not_there (no f) = le-ltb (place_of gone n) place_count (omega arith)
  not_there (yes h) = absurd (by (ℕ_discrete (place_of gone n) p))
    where
      there : (channel_at gone (place_of gone n)).«open» ≡ true
      there = place_open gone gone-full n h

      by : Dec (place_of gone n ≡ p) → ⊥
      by (yes e) =
          let z : false ≡ true = ap (λ (c : Channel). c.«open») (sym (put-there s full p vacant inside)) ∙ ap (λ (q : ℕ). (channel_at gone q).«open») (sym e) ∙ there in
          never (cc)
      by (no f) =
          let same : channel_at gone (place_of gone n) ≡ channel_at s (place_of gone n) = put-elsewhere s p (place_of gone n) vacant f in
          f (d.once (place_of gone n) p (ap (λ (c : Channel). c.«open») (sym same) ∙ there) (place_open s full n inside)
          (ap (λ (c : Channel). c.number.0) (sym same) ∙ place-number gone gone-full n h ∙ sym (place-number s full n inside)))

  -- channel n is no other
  not_this : (m : ℕ) → n ≢ m → is_channel m vacant ≡ is_channel m (channel_at s p)
  not_this m f = sym (rw (place_open s full n inside, place-number s full n inside, ne_eqb n m f))

  others : OthersStay s gone n
  others m f =
      let alike : place_of gone m ≡ place_of s m = place-gone s p vacant m (not_this m f) in
      ap (channel_at gone) alike ∙ put-elsewhere s p (place_of s m) vacant (λ e. f (place_unique s full n m p inside refl e))

pub closed_is : ClosedIs
unfolding closed
closed_is s t n full d =
    by_tests (λ (r : Ended (Unit {0}) Channels). r ≡ leaving tt t → (is_in t n ≡ false) × OthersStay s t n) (refusing s) (close_tests s n) _
    (λ k. refused_none k)
    (λ none.
    let i = ltb-true (place_of s n) place_count (not-false (is_in s n) (search none)) in
    through (λ (v : Channels). (is_in v n ≡ false) × OthersStay s v n) t (put s (place_of s n) vacant)
    (not_there s n full d i (dec_lt (place_of (put s (place_of s n) vacant) n) place_count), others s n full d i))
