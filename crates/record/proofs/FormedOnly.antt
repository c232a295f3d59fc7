-- Two lists of octets in which the same units and the same trailer stand are equal: they are gone through from the front, a number or a row
-- of octets at a time, and a number tells its octets.
--
--   Latest c us     the units us have none on channel c, or a last one
--   latest          .. which is found
--   used_stand      the used places stand in the order of the units' channels
--   unused_stand    .. and the others behind them
--   Till n          the first n octets of the two are the same
--   octets-on       .. and so are some more, where in both the same octets stand
--   number-on       .. or the same number
--   unit-on         .. or a unit
--   place-on        .. or the used place of a channel
--   unit_next       .. or the next of the units
--   units-on        .. or all of them
--   place_next      .. or the next place
--   places-on       .. or the first j of them
--   form-same       and then the two are the same
--   form_only       so that what has the form of a record is that record
--
-- Assumes nothing.
use mathlib.Core.Path.{◌≡◌, refl, sym, ap, ap₂, subst, ◌∙◌}
use mathlib.Core.Logic.{inl, inr}
use mathlib.Core.Bool.{Bool, true, false}
use mathlib.Core.List.{List, [], ◌∷◌, ◌++◌, append_assoc, append-nil, reverse}
use Prim.Native.Nat.{ℕ, zero, suc, ◌+◌, ◌*◌, ◌≤◌, ◌<◌}
use native.Mathlib.Omega.{arith}
use borrow.Author.Tests.{eqb-true, eqb-false, ltb-true, ltb-false}
use lib.Dec.{eqb, ltb}
use lib.ListN.{length, get_or, take, drop}
use lib.Seq.{take-add, take_all}
use Rattle.octets.proofs.Laws.{worth-same}
use Rattle.record.specs.Recorded.{Recorded, Octets}
use Rattle.record.specs.Layout.{total}
use Rattle.record.specs.Trailer.{used, record_of}
use Rattle.record.specs.Form.{
  number_at,
  offset,
  HasOn,
  NoneOn,
  UnitStands,
  EachStands,
  PlaceStands,
  unused_place,
  TrailerStands,
  FormOnly,
}
use Rattle.record.proofs.Channelled.{offset-total, used-channels, channels_only}
use Rattle.record.proofs.FormedUnits.{total-append, units_stand}
use Rattle.record.proofs.FormedTrailer.{trailers_stand}
use Rattle.record.proofs.FormedOctets.{record_octets}

-- ---- a channel's last unit

data Latest (c : ℕ) (us : List Recorded) : Type 0 where
  none : NoneOn c us → Latest c us
  one : (a b : List Recorded) (v : Recorded) → us ≡ a ++ v ∷ b → v.channel ≡ c → NoneOn c b → Latest c us

latest : (c : ℕ) (us : List Recorded) → Latest c us
latest c [] = none (λ h. h)
latest c (u ∷ us) = by (latest c us)
  where
    neither : (u.channel ≡ c → ⊥) → NoneOn c us → HasOn c (u ∷ us) → ⊥
    neither f g (inl e) = f e
    neither f g (inr h) = g h

    own : (t : Bool) → eqb u.channel c ≡ t → NoneOn c us → Latest c (u ∷ us)
    own true e g = one [] us u refl (eqb-true u.channel c e) g
    own false e g = none (neither (eqb-false u.channel c e) g)

    by : Latest c us → Latest c (u ∷ us)
    by (none g) = own (eqb u.channel c) refl g
    by (one a b v e on g) = one (u ∷ a) b v (ap (λ (l : List Recorded). u ∷ l) e) on g

-- ---- the places of a trailer, by the units' channels

module _ (us : List Recorded) (s : List ℕ) (at : ℕ) (r : TrailerStands s at us) where
  used_stand : (j : ℕ) → j < length (used (reverse us)) → PlaceStands s (at + 14 * j) (get_or (used (reverse us)) j 0) us
  used_stand =
      subst (λ (cs : List ℕ). (j : ℕ) → j < length cs → PlaceStands s (at + 14 * j) (get_or cs j 0) us)
      (channels_only us r.channels r.channels_are) r.used_places

  unused_stand : (j : ℕ) → length (used (reverse us)) ≤ j → j < 16 → take 14 (drop (at + 14 * j) s) ≡ unused_place
  unused_stand =
      subst (λ (cs : List ℕ). (j : ℕ) → length cs ≤ j → j < 16 → take 14 (drop (at + 14 * j) s) ≡ unused_place)
      (channels_only us r.channels r.channels_are) r.unused_places

-- ---- octets that are the same

module _ (s t : List ℕ) where
  abbrev Till : ℕ → Type 0
  Till n = take n s ≡ take n t

  octets-on : (n k m : ℕ) (l : List ℕ) → m ≡ n + k → take k (drop n s) ≡ l → take k (drop n t) ≡ l → Till n → Till m
  octets-on n k m l o e f h =
      ap (λ (i : ℕ). take i s) o ∙ take-add n k s ∙ ap₂ (λ (a b : List ℕ). a ++ b) h (e ∙ sym f) ∙ sym (take-add n k t)
      ∙ ap (λ (i : ℕ). take i t) (sym o)

  module _ (os : Octets s) (ot : Octets t) (long : length t ≡ length s) where
    number-on : (n k m x : ℕ) → m ≡ n + k → m ≤ length s → number_at k s n ≡ x → number_at k t n ≡ x → Till n → Till m
    number-on n k m x o small e f h =
        octets-on n k m (take k (drop n t)) o (worth-same k n s t (omega arith) (omega arith) os ot (e ∙ sym f)) refl h

    unit-on : (at back m : ℕ) (u : Recorded) → m ≡ at + 10 + length u.octets → m ≤ length s → UnitStands s at back u → UnitStands t at back u
        → Till at → Till m
    unit-on at back m u o small p q h0 =
        let h1 = number-on at 2 (at + 2) u.channel refl (omega arith) p.channel_stands q.channel_stands h0 in
        let h2 = number-on (at + 2) 1 (at + 3) u.badge (omega arith) (omega arith) p.badge_stands q.badge_stands h1 in
        let h3 = number-on (at + 3) 1 (at + 4) u.changed (omega arith) (omega arith) p.changed_stands q.changed_stands h2 in
        let h4 = number-on (at + 4) 2 (at + 6) (length u.octets) (omega arith) (omega arith) p.length_stands q.length_stands h3 in
        let h5 = number-on (at + 6) 4 (at + 10) back (omega arith) (omega arith) p.back_stands q.back_stands h4 in
        octets-on (at + 10) (length u.octets) m u.octets o p.octets_stand q.octets_stand h5

    place-on : (at c : ℕ) (us : List Recorded) → at + 14 ≤ length s → HasOn c us → PlaceStands s at c us → PlaceStands t at c us → Till at
        → Till (at + 14)
    place-on at c us small on p q h0 =
        let h1 = number-on at 2 (at + 2) c refl (omega arith) p.channel_stands q.channel_stands h0 in
        let h2 = by h1 (latest c us) in
        let h3 = number-on (at + 6) 4 (at + 10) _ (omega arith) (omega arith) p.units_stand q.units_stand h2 in
        number-on (at + 10) 4 (at + 14) _ (omega arith) (omega arith) p.damaged_stand q.damaged_stand h3
      where
        by : Till (at + 2) → Latest c us → Till (at + 6)
        by h (none f) = absurd (f on)
        by h (one a b v e k f) =
            number-on (at + 2) 4 (at + 6) (offset a) (omega arith) (omega arith) (p.last_stands a b v e k f) (q.last_stands a b v e k f) h

    module _ (us : List Recorded) (es : EachStands s us) (et : EachStands t us) (rs : TrailerStands s (offset us) us)
        (rt : TrailerStands t (offset us) us) where
      unit_next : (front rest : List Recorded) (u : Recorded) (m : ℕ) → us ≡ front ++ u ∷ rest → m ≡ offset front + 10 + length u.octets
          → m ≤ length s → Till (offset front) → Till m
      unit_next front rest u m e o small h = by (latest u.channel front)
        where
          by : Latest u.channel front → Till m
          by (none f) =
              unit-on (offset front) 4294967295 m u o small (es.first front rest u e f) (et.first front rest u e f) h
          by (one a b v w k f) =
              let split : us ≡ (a ++ v ∷ b) ++ u ∷ rest = e ∙ ap (λ (l : List Recorded). l ++ u ∷ rest) w in
              let here : offset front ≡ offset (a ++ v ∷ b) = ap offset w in
              unit-on (offset (a ++ v ∷ b)) (offset a) m u (omega arith) small (es.later a b rest v u split k f) (et.later a b rest v u split k f)
              (subst Till here h)

      units-on : (front rest : List Recorded) → us ≡ front ++ rest → Till (offset front) → Till (offset us)
      unfolding total
      units-on front [] e h = subst (λ (l : List Recorded). Till (offset l)) (sym (e ∙ append-nil front)) h
      units-on front (u ∷ rest) e h =
          let more = front ++ u ∷ [] in
          let split : us ≡ more ++ rest = e ∙ sym (append_assoc front (u ∷ []) rest) in
          let all : offset us ≡ total more + total rest = offset-total us ∙ ap total split ∙ total-append more rest in
          units-on more rest split
          (unit_next front rest u (offset more) e (omega (arith, offset-total more, offset-total front, total-append front (u ∷ [])))
          (omega (arith, all, offset-total more, rs.long)) h)

      place_next : (j : ℕ) → j < 16 → Till (offset us + 14 * j) → Till (offset us + 14 * j + 14)
      place_next j small h = by (ltb j (length cs)) refl
        where
          cs : List ℕ
          cs = used (reverse us)

          at : ℕ
          at = offset us + 14 * j

          by : (b : Bool) → ltb j (length cs) ≡ b → Till (at + 14)
          by true e =
              let l = ltb-true j (length cs) e in
              place-on at (get_or cs j 0) us (omega (arith, rs.long)) (((used-channels us).exactly (get_or cs j 0)).0 (j, l, refl))
              (used_stand us s (offset us) rs j l) (used_stand us t (offset us) rt j l) h
          by false e =
              let l = ltb-false j (length cs) e in
              octets-on at 14 (at + 14) unused_place refl (unused_stand us s (offset us) rs j l small) (unused_stand us t (offset us) rt j l small) h

      places-on : (j : ℕ) → j ≤ 16 → Till (offset us) → Till (offset us + 14 * j)
      places-on zero small h = let same : offset us ≡ offset us + 14 * 0 = omega arith in subst Till same h
      places-on (suc j) small h =
          let more : offset us + 14 * j + 14 ≡ offset us + 14 * suc j = omega arith in
          subst Till more (place_next j (omega arith) (places-on j (omega arith) h))

      form-same : s ≡ t
      unfolding offset
      form-same =
          let at = offset us in
          let h0 = places-on 16 (omega arith) (units-on [] us refl refl) in
          let h1 = number-on (at + 224) 4 (at + 228) (length us) (omega arith) (omega (arith, rs.long)) rs.units_stand rt.units_stand h0 in
          let h2 = number-on (at + 228) 4 (at + 232) at (omega arith) (omega (arith, rs.long)) rs.before_stands rt.before_stands h1 in
          let h3 = octets-on (at + 232) 4 (at + 236) (72 ∷ 50 ∷ 50 ∷ 51 ∷ []) (omega arith) rs.mark_stands rt.mark_stands h2 in
          sym (take_all (at + 236) s (omega (arith, rs.long))) ∙ h3 ∙ take_all (at + 236) t (omega (arith, rt.long))

pub form_only : FormOnly
form_only us s t o e r =
    let own = trailers_stand us t in
    form-same s (record_of us) o (record_octets us t.ranges) (own.long ∙ sym r.long) us e (units_stand us t) r own
