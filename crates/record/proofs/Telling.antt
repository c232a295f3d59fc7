-- What a record tells of a channel, in the words of its claims: the last unit on it is the one with none on it behind, and each unit counts once.
--
--   last-behind       units on other channels do not change a channel's last
--   last_none         where all are on others there is no last one
--   last-offset       a unit with none of its channel behind it is the last, and stands behind those before it
--   units_counted     how many units are on a channel, onto those before
--   units-told        .. of a whole list
--   damaged_of         how many of the units have badge 2 or 3
--   damaged_counted   how many units on a channel have, onto those before
--   damaged-told      .. of a whole list
--
-- Assumes nothing.
use mathlib.Core.Path.{◌≡◌, refl, sym, ap, ◌∙◌}
use mathlib.Core.Logic.{inl, inr}
use mathlib.Core.Bool.{Bool, true, false, cond, ◌&&◌, ◌||◌}
use mathlib.Core.List.{List, [], ◌∷◌, ◌++◌, reverse, reverse_aux, reverse_aux-append}
use Prim.Native.Nat.{ℕ, suc, ◌+◌}
use native.Mathlib.Omega.{arith}
use borrow.Author.Tests.{eq-eqb, ne_eqb, eqb-true}
use lib.Dec.{eqb}
use lib.ListN.{length}
use Rattle.record.specs.Recorded.{Recorded, is_damaged}
use Rattle.record.specs.Layout.{no_offset, last}
use Rattle.record.specs.Trailer.{units_on, damaged_on}
use Rattle.record.specs.Form.{offset, NoneOn, on_channel, with_badge}
use Rattle.record.proofs.Forming.{total-turned}
use Rattle.record.proofs.Channelled.{offset-total}

-- ---- the last unit

last-behind : (c : ℕ) (us past : List Recorded) → NoneOn c us → last c (reverse_aux us past) ≡ last c past
unfolding last
last-behind c [] past f = refl
last-behind c (u ∷ us) past f = last-behind c us (u ∷ past) (λ h. f (inr h)) ∙ rw (ne_eqb u.channel c (λ e. f (inl e)))

pub last_none : (c : ℕ) (us : List Recorded) → NoneOn c us → last c (reverse us) ≡ no_offset
unfolding last
last_none c us f = last-behind c us [] f

pub last-offset : (c : ℕ) (a b : List Recorded) (v : Recorded) → v.channel ≡ c → NoneOn c b → last c (reverse (a ++ v ∷ b)) ≡ offset a
unfolding last
last-offset c a b v e f =
    ap (last c) (reverse_aux-append a (v ∷ b) []) ∙ last-behind c b (v ∷ reverse a) f
    ∙ rw (eq-eqb v.channel c e) (total-turned a ∙ sym (offset-total a))

-- ---- how many

units_counted : (c : ℕ) (us past : List Recorded) → units_on c (reverse_aux us past) ≡ length (on_channel c us) + units_on c past
unfolding units_on on_channel
units_counted c [] past = omega arith
units_counted c (u ∷ us) past = units_counted c us (u ∷ past) ∙ by (eqb u.channel c)
  where
    by : (b : Bool) → length (on_channel c us) + cond b (suc (units_on c past)) (units_on c past)
        ≡ length (cond b (u ∷ on_channel c us) (on_channel c us)) + units_on c past
    by true = omega arith
    by false = refl

pub units-told : (c : ℕ) (us : List Recorded) → units_on c (reverse us) ≡ length (on_channel c us)
unfolding units_on
units-told c us = omega (arith, units_counted c us [])

abbrev damaged_of : List Recorded → ℕ
damaged_of us = length (with_badge 2 us) + length (with_badge 3 us)

damaged_counted : (c : ℕ) (us past : List Recorded) → damaged_on c (reverse_aux us past) ≡ damaged_of (on_channel c us) + damaged_on c past
unfolding damaged_on on_channel with_badge
damaged_counted c [] past = omega arith
damaged_counted c (u ∷ us) past = damaged_counted c us (u ∷ past) ∙ by (eqb u.channel c)
  where
    on : List Recorded
    on = on_channel c us

    n : ℕ
    n = damaged_on c past

    own : (p q : Bool) → eqb u.badge 2 ≡ p → eqb u.badge 3 ≡ q → damaged_of on + cond (p || q) (suc n) n
        ≡ length (cond p (u ∷ with_badge 2 on) (with_badge 2 on)) + length (cond q (u ∷ with_badge 3 on) (with_badge 3 on)) + n
    own true true e f = absurd (omega (arith, eqb-true u.badge 2 e, eqb-true u.badge 3 f))
    own true false e f = omega arith
    own false true e f = omega arith
    own false false e f = refl

    by : (b : Bool) → damaged_of on + cond (b && is_damaged u) (suc n) n ≡ damaged_of (cond b (u ∷ on) on) + n
    by true = own (eqb u.badge 2) (eqb u.badge 3) refl refl
    by false = refl

pub damaged-told : (c : ℕ) (us : List Recorded)
    → damaged_on c (reverse us) ≡ length (with_badge 2 (on_channel c us)) + length (with_badge 3 (on_channel c us))
unfolding damaged_on
damaged-told c us = omega (arith, damaged_counted c us [])
