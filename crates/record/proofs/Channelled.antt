-- The channels of a list of units, in the words of its claims. They are one list only, since numbers that ascend are told by their members.
--
--   offset-total      the offset behind units is what they take
--   above_rising      where each of x and more numbers is below the next, each is below all behind it
--   ascending_rising  .. of ascending numbers
--   rising_ascending  .. and the other way round
--   has_among         a number that is there stands at a place
--   among_has         .. and the other way round
--   first_below       what stands above a number is above it
--   used_only         a used channel is that of a unit
--   used_all          .. and that of each unit is used
--   used-channels     the used channels are the units' channels
--   member_else       of a first number and others, one that is above the first is of the others
--   ascending-same    two ascending lists with the same members are equal
--   channels_only     .. so that the units' channels are the used ones
--
-- Assumes nothing.
use mathlib.Core.Path.{◌≡◌, refl, sym, ap₂, subst}
use mathlib.Core.Logic.{◌⊎◌, inl, inr}
use mathlib.Core.List.{List, [], ◌∷◌, reverse, reverse_aux}
use Prim.Native.Nat.{ℕ, zero, suc, ◌<◌}
use native.Mathlib.Omega.{arith}
use Rattle.record.specs.Recorded.{Recorded}
use Rattle.record.specs.Layout.{total}
use Rattle.record.specs.Trailer.{used}
use Rattle.record.specs.Form.{offset, HasOn, Among, Rising, Channels}
use Rattle.record.proofs.Ranking.{
  Above,
  Ascending,
  Has,
  above_ascending,
  used_ascending,
  used_has,
  insert_only,
}

pub offset-total : (us : List Recorded) → offset us ≡ total us
unfolding offset total
offset-total [] = refl
offset-total (u ∷ us) = omega (arith, offset-total us)

-- ---- ascending numbers

above_rising : (x : ℕ) (cs : List ℕ) → Above x cs → Rising (x ∷ cs)
above_rising x cs a i zero h l = absurd (omega arith)
above_rising x [] a i (suc j) h l = absurd (omega arith)
above_rising x (y ∷ cs) a zero (suc zero) h l = a.0
above_rising x (y ∷ cs) a zero (suc (suc j)) h l = omega (arith, a.0, above_rising y cs a.1 zero (suc j) (omega arith) (omega arith))
above_rising x (y ∷ cs) a (suc i) (suc j) h l = above_rising y cs a.1 i j (omega arith) (omega arith)

ascending_rising : (cs : List ℕ) → Ascending cs → Rising cs
ascending_rising [] a i j h l = absurd (omega arith)
ascending_rising (x ∷ cs) a i j h l = above_rising x cs a i j h l

rising_ascending : (cs : List ℕ) → Rising cs → Ascending cs
rising_ascending [] r = tt
rising_ascending (x ∷ []) r = tt
rising_ascending (x ∷ y ∷ cs) r =
    (r 0 1 (omega arith) (omega arith), rising_ascending (y ∷ cs) (λ i j h l. r (suc i) (suc j) (omega arith) (omega arith)))

has_among : (c : ℕ) (cs : List ℕ) → Has c cs → Among c cs
has_among c [] h = absurd h
has_among c (x ∷ cs) (inl e) = (0, omega arith, e)
has_among c (x ∷ cs) (inr h) = let on = has_among c cs h in (suc on.0, omega (arith, on.1), on.2)

among_has : (c : ℕ) (cs : List ℕ) → Among c cs → Has c cs
among_has c [] (i, h, e) = absurd (omega arith)
among_has c (x ∷ cs) (zero, h, e) = inl e
among_has c (x ∷ cs) (suc i, h, e) = inr (among_has c cs (i, omega arith, e))

first_below : (x c : ℕ) (cs : List ℕ) → Above x cs → Has c cs → x < c
first_below x c cs a h =
    let on = has_among c cs h in
    omega (arith, on.2, above_rising x cs a 0 (suc on.0) (omega arith) (omega (arith, on.1)))

-- ---- the used channels

used_only : (c : ℕ) (us past : List Recorded) → Has c (used (reverse_aux us past)) → HasOn c us ⊎ Has c (used past)
unfolding used
used_only c [] past h = inr h
used_only c (u ∷ us) past h = by (used_only c us (u ∷ past) h)
  where
    on : (c ≡ u.channel) ⊎ Has c (used past) → HasOn c (u ∷ us) ⊎ Has c (used past)
    on (inl e) = inl (inl (sym e))
    on (inr g) = inr g

    by : HasOn c us ⊎ Has c (used (u ∷ past)) → HasOn c (u ∷ us) ⊎ Has c (used past)
    by (inl g) = inl (inr g)
    by (inr g) = on (insert_only u.channel c (used past) g)

used_all : (c : ℕ) (us past : List Recorded) → HasOn c us → Has c (used (reverse_aux us past))
used_all c [] past h = absurd h
used_all c (u ∷ us) past (inl e) = subst (λ (d : ℕ). Has d (used (reverse_aux us (u ∷ past)))) e (used_has past us u)
used_all c (u ∷ us) past (inr h) = used_all c us (u ∷ past) h

pub used-channels : (us : List Recorded) → Channels us (used (reverse us))
unfolding used
used-channels us = record {
  rising = ascending_rising (used (reverse us)) (used_ascending (reverse us));
  exactly = λ c. (
    λ h. by c (used_only c us [] (among_has c (used (reverse us)) h)),
    λ h. has_among c (used (reverse us)) (used_all c us [] h),
  );
}
  where
    by : (c : ℕ) → HasOn c us ⊎ Has c (used []) → HasOn c us
    by c (inl h) = h
    by c (inr h) = absurd h

-- ---- one list only

member_else : (x c : ℕ) (cs : List ℕ) → x < c → Has c (x ∷ cs) → Has c cs
member_else x c cs l (inl e) = absurd (omega arith)
member_else x c cs l (inr h) = h

ascending-same : (cs ds : List ℕ) → Ascending cs → Ascending ds → ((c : ℕ) → Has c cs → Has c ds) → ((c : ℕ) → Has c ds → Has c cs) → cs ≡ ds
ascending-same [] [] a b f g = refl
ascending-same [] (d ∷ ds) a b f g = absurd (g d (inl refl))
ascending-same (c ∷ cs) [] a b f g = absurd (f c (inl refl))
ascending-same (c ∷ cs) (d ∷ ds) a b f g =
    ap₂ (λ (n : ℕ) (l : List ℕ). n ∷ l) same
    (ascending-same cs ds (above_ascending c cs a) (above_ascending d ds b)
    (λ e h. member_else d e ds (rw same at (first_below c e cs a h)) (f e (inr h)))
    (λ e h. member_else c e cs (rw (← same) at (first_below d e ds b h)) (g e (inr h))))
  where
    by : Has c (d ∷ ds) → Has d (c ∷ cs) → c ≡ d
    by (inl e) k = sym e
    by (inr h) (inl e) = e
    by (inr h) (inr k) = absurd (omega (arith, first_below d c ds b h, first_below c d cs a k))

    same : c ≡ d
    same = by (f c (inl refl)) (g d (inl refl))

pub channels_only : (us : List Recorded) (cs : List ℕ) → Channels us cs → cs ≡ used (reverse us)
channels_only us cs h =
    let ds = used (reverse us) in
    ascending-same cs ds (rising_ascending cs h.rising) (used_ascending (reverse us))
    (λ c k. used_all c us [] ((h.exactly c).0 (has_among c cs k)))
    (λ c k. among_has c cs ((h.exactly c).1 (((used-channels us).exactly c).0 (has_among c ds k))))
