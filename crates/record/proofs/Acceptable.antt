-- What is in range, and what a list is as it is lent, in the ticket's words (specs/Form.antt).
--
--   ChangedIs b k   k is a changed count that goes with badge b, in these words
--   badge_cases     a badge that is not 1 or 3 is 0, 2 or 4
--   changed_is      a changed count that goes with a badge is one in these words
--   changed_from    .. and the other way round
--   ranges_so       the ranges of badge, changed count and length
--   ranges_are, lists_are, numbers_are   the claims
--
-- Assumes nothing.
use mathlib.Core.Path.{◌≡◌, refl}
use mathlib.Core.Logic.{◌↔◌, ◌⊎◌, inl, inr}
use mathlib.Core.Bool.{Bool, true, false}
use Prim.Native.Nat.{ℕ, ◌≤◌}
use native.Mathlib.Omega.{arith}
use borrow.Author.Tests.{eqb-true, eqb-false}
use lib.Dec.{eqb}
use lib.ListN.{length}
use Rattle.record.specs.Recorded.{Changed, Ranges, flat}
use Rattle.record.specs.Form.{InWords, RangesAre, ListsAre, NumbersAre}

abbrev ChangedIs : ℕ → ℕ → Type 0
ChangedIs b k =
    ((b ≡ 1) × (1 ≤ k) × (k ≤ 127)) ⊎ (((b ≡ 3) × (k ≤ 127)) ⊎ (((b ≡ 0) ⊎ ((b ≡ 2) ⊎ (b ≡ 4))) × (k ≡ 0)))

badge_cases : (b : ℕ) → b ≤ 4 → (b ≡ 1 → ⊥) → (b ≡ 3 → ⊥) → (b ≡ 0) ⊎ ((b ≡ 2) ⊎ (b ≡ 4))
badge_cases b h f g = by (eqb b 0) (eqb b 2) refl refl
  where
    by : (p q : Bool) → eqb b 0 ≡ p → eqb b 2 ≡ q → (b ≡ 0) ⊎ ((b ≡ 2) ⊎ (b ≡ 4))
    by true q e k = inl (eqb-true b 0 e)
    by false true e k = inr (inl (eqb-true b 2 k))
    by false false e k =
        let z : b ≡ 0 → ⊥ = eqb-false b 0 e in
        let w : b ≡ 2 → ⊥ = eqb-false b 2 k in
        inr (inr (omega arith))

changed_is : (b k : ℕ) → b ≤ 4 → Changed b k → ChangedIs b k
changed_is b k h c = by (eqb b 1) (eqb b 3) refl refl
  where
    by : (p q : Bool) → eqb b 1 ≡ p → eqb b 3 ≡ q → ChangedIs b k
    by true q e f = let one = eqb-true b 1 e in inl (one, (c.corrected one).0, (c.corrected one).1)
    by false true e f = let three = eqb-true b 3 f in inr (inl (three, c.failed three))
    by false false e f = inr (inr (badge_cases b h (eqb-false b 1 e) (eqb-false b 3 f), c.other (eqb-false b 1 e) (eqb-false b 3 f)))

changed_from : (b k : ℕ) → ChangedIs b k → (b ≤ 4) × Changed b k
changed_from b k (inl (e, low, most)) = (omega arith, record { corrected = λ f. (low, most); failed = λ f. most; other = λ f g. absurd (f e) })
changed_from b k (inr (inl (e, most))) =
    (omega arith, record { corrected = λ f. absurd (omega arith); failed = λ f. most; other = λ f g. absurd (g e) })
changed_from b k (inr (inr (w, z))) = by w
  where
    none : b ≤ 4 → (b ≡ 1 → ⊥) → (b ≤ 4) × Changed b k
    none h f = (h, record { corrected = λ e. absurd (f e); failed = λ e. omega arith; other = λ g k. z })

    by : (b ≡ 0) ⊎ ((b ≡ 2) ⊎ (b ≡ 4)) → (b ≤ 4) × Changed b k
    by (inl e) = none (omega arith) (λ f. omega arith)
    by (inr (inl e)) = none (omega arith) (λ f. omega arith)
    by (inr (inr e)) = none (omega arith) (λ f. omega arith)

pub ranges_so : (b k n : ℕ) → Ranges b k n ↔ InWords b k n
ranges_so b k n = (
  λ r. (r.some, r.few, changed_is b k r.badge_is r.changed_is),
  λ h. let own = changed_from b k h.2 in record { badge_is = own.0; changed_is = own.1; some = h.0; few = h.1 },
)

pub ranges_are : RangesAre
ranges_are = record {
  no_units = tt;
  more_units = λ u us. (λ r. r, λ r. r);
  one = λ u.
      let so = ranges_so u.badge u.changed (length u.octets) in
      (λ r. (r.channel_is, r.octets_are, so.0 r.ranges), λ h. record { channel_is = h.0; ranges = so.1 h.2; octets_are = h.1 });
}

pub lists_are : ListsAre
unfolding flat
lists_are = record {
  no_numbers = refl;
  no_octets = refl;
  numbers = λ u us. refl;
  octets = λ u us. refl;
  lent = λ us n o. (λ l. (l.numbers, l.octets), λ h. record { numbers = h.0; octets = h.1 });
}

pub numbers_are : NumbersAre
numbers_are a b c d = (omega arith, omega arith, omega arith)
