-- The walk that writes units: what is still to be written stands behind what is written.
--
--   Putting             what the walk keeps, where numbers m and octets l are left: with the rest of the units, the output would be as it
--                       ought to be
--   putting-none        .. at first
--   same_octets         a header and octets that are a stored unit's are its octets
--   putting_front       four numbers that are left are the next unit's
--   Placed              .. and those numbers as they are read
--   first, others       .. the unit, and those behind it
--   channel_is, badge_is, changed_is, length_is   .. the numbers are its own
--   first_range, others_ranges   .. it is in range, and so are the others
--   Cut                 what is left cut behind the octets of a unit with these numbers
--   own_split           .. its octets are the next that are left
--   putting-end         .. and whole
--   putting-own, putting-behind   .. where they are cut off, the others' are left
--   putting_counted     .. of which the places know
--   putting_can         .. and can note it
--   putting-before      .. its offset is no more than it may be
--   total-split         .. the rest takes what it takes and what the others take
--   putting_room        .. and there is room for it
--   putting_next        one unit on
--   putting-all         at the end
--
-- Assumes nothing.
use mathlib.Core.Path.{◌≡◌, refl, sym, ap, ap₂, subst, ◌∙◌}
use mathlib.Core.List.{List, [], ◌∷◌, ◌++◌, reverse, reverse_aux, reverse-reverse}
use Prim.Native.Nat.{ℕ, ◌+◌, ◌≤◌, ◌<◌}
use native.Mathlib.Omega.{arith}
use lib.ListN.{length, get_or, take, drop, length-append}
use lib.Seq.{take_at, drop_at}
use Rattle.octets.specs.Written.{written, written_nothing, written-append, written-length}
use Rattle.record.specs.Recorded.{Recorded, InRange, AllInRange, flat, numbers_of, octets_of, Lent}
use Rattle.record.specs.Layout.{header_octets, size, total, last, Stored, stored_octets, laid, backed, body_of}
use Rattle.record.specs.Trailer.{used, most_before}
use Rattle.record.specs.Walk.{PlacesAre, place_in, noted_in, CanNote, numbers_in, head, Ready, Wrote}
use Rattle.record.specs.declared.places.Places.{Places}
use Rattle.record.specs.declared.unit.Numbers.{Numbers}
use Rattle.record.proofs.Laying.{stored-length}
use Rattle.record.proofs.Listing.{Front, four_lent, none_lent}
use Rattle.record.proofs.Counting.{Counted, counted_none, counted-past, counted_next, counted-last, counted_can}

pub record Putting (n o out₀ m l out : List ℕ) (p : Places) (to : ℕ) : Type 0 where
  pub list : List Recorded
  pub lent : Lent list n o
  pub ranges : AllInRange list
  pub past : List Recorded
  pub rest : List Recorded
  pub rest_ranges : AllInRange rest
  pub numbers : m ≡ numbers_of rest
  pub own : l ≡ octets_of rest
  pub place : to ≡ total past
  pub body : written out to (laid (backed past rest)) ≡ written out₀ 0 (body_of list)
  pub room : to + total rest ≤ length out
  pub long : length out ≡ length out₀
  pub counted : Counted list past rest p

pub putting-none : (n o out m : List ℕ) (p : Places) → m ≡ n → Ready n o p (length out) → Putting n o out m o out p 0
unfolding total
putting-none n o out m p e r = record {
  list = r.list;
  lent = r.lent;
  ranges = r.ranges;
  past = [];
  rest = r.list;
  rest_ranges = r.ranges;
  numbers = e ∙ r.lent.numbers;
  own = r.lent.octets;
  place = refl;
  body = refl;
  room = omega (arith, r.fits);
  long = refl;
  counted = counted_none r.list p r.places r.short;
}

same_octets : (q : Stored) {c b k n back : ℕ} {own : List ℕ} → c ≡ q.unit.channel → b ≡ q.unit.badge → k ≡ q.unit.changed
    → n ≡ length q.unit.octets → back ≡ q.back → own ≡ q.unit.octets
    → head (record { numbers = record { channel = c; badge = b; changed = k; length = n }; back = back }) ++ own ≡ stored_octets q
same_octets q c_is b-is k-is n-is back-is own_is = rw (c_is, b-is, k-is, n-is, back-is, own_is)

pub record Placed {n o out₀ m l out : List ℕ} {p : Places} {to : ℕ} (d : Putting n o out₀ m l out p to) (v : Numbers) (k : List ℕ) : Type 0 where
  pub front : Front (numbers_in v) k d.rest

-- l cut behind the unit's own octets
pub record Cut (l : List ℕ) (v : Numbers) (own behind : List ℕ) : Type 0 where
  pub own_is : own ≡ take v.length l
  pub behind_is : behind ≡ drop v.length l

module _ {n o out₀ m l out : List ℕ} {p : Places} {to : ℕ} (d : Putting n o out₀ m l out p to) where
  pub putting_front : (v : Numbers) (k : List ℕ) {x : List ℕ} → m ≡ x ++ k → x ≡ numbers_in v → Placed d v k
  putting_front v k cut is =
      record { front = four_lent (numbers_in v) k d.rest refl (sym (cut ∙ ap (λ (r : List ℕ). r ++ k) is) ∙ d.numbers) }

module _ {n o out₀ m l out : List ℕ} {p : Places} {to : ℕ} {d : Putting n o out₀ m l out p to} {v : Numbers} {k : List ℕ} (x : Placed d v k) where
  abbrev first : Recorded
  first = x.front.first

  abbrev others : List Recorded
  others = x.front.others

  pub channel_is : v.channel ≡ first.channel
  channel_is = ap (λ (s : List ℕ). get_or s 0 0) x.front.numbers

  badge_is : v.badge ≡ first.badge
  badge_is = ap (λ (s : List ℕ). get_or s 1 0) x.front.numbers

  changed_is : v.changed ≡ first.changed
  changed_is = ap (λ (s : List ℕ). get_or s 2 0) x.front.numbers

  length_is : v.length ≡ length first.octets
  length_is = ap (λ (s : List ℕ). get_or s 3 0) x.front.numbers

  ranges_split : InRange first × AllInRange others
  ranges_split = subst AllInRange x.front.list d.rest_ranges

  own_split : l ≡ first.octets ++ octets_of others
  unfolding flat
  own_split = d.own ∙ ap octets_of x.front.list

  pub putting-end : v.length ≤ length l
  putting-end = omega (arith, length_is, ap length own_split, length-append first.octets (octets_of others))

  putting_counted : Counted d.list d.past (first ∷ others) p
  putting_counted = subst (λ (r : List Recorded). Counted d.list d.past r p) x.front.list d.counted

  pub putting_can : CanNote p v.channel
  putting_can = subst (CanNote p) (sym channel_is) (counted_can putting_counted)

  pub putting-before : to ≤ most_before
  putting-before = omega (arith, d.place, counted-past putting_counted)

  total-split : total d.rest ≡ total others + size first
  unfolding total
  total-split = ap total x.front.list

  module _ {own behind : List ℕ} (c : Cut l v own behind) where
    putting-own : own ≡ first.octets
    putting-own = c.own_is ∙ ap (take v.length) own_split ∙ take_at first.octets (octets_of others) v.length (sym length_is)

    putting-behind : behind ≡ octets_of others
    putting-behind = c.behind_is ∙ ap (drop v.length) own_split ∙ drop_at first.octets (octets_of others) v.length (sym length_is)

    pub putting_room : to + header_octets + length own ≤ length out
    putting_room = omega (arith, ap length putting-own, d.room, total-split)

    pub putting_next : {back : ℕ} {after : List ℕ} {q : Places} → back ≡ (place_in p v.channel).last
        → after ≡ written out to (head (record { numbers = v; back = back }) ++ own)
        → q.count ≡ p.count → q.all ≡ noted_in p v.channel to v.badge
        → Putting n o out₀ k behind after q (to + (header_octets + length own))
    unfolding total backed flat
    putting_next {back} {after} {q} b e count all_are =
        let s : Stored = record { back = last first.channel d.past; unit = first } in
        let here : back ≡ s.back = b ∙ ap (λ (c : ℕ). (place_in p c).last) channel_is ∙ counted-last putting_counted in
        let octets = e ∙ ap (written out to) (same_octets s channel_is badge_is changed_is length_is here putting-own) in
        let fits : to + length (stored_octets s) ≤ length out = omega (arith, stored-length s, d.room, total-split) in
        let long = ap length octets ∙ written-length out to (stored_octets s) fits in
        let next : to + (header_octets + length own) ≡ to + length (stored_octets s)
        = omega (arith, ap length putting-own, stored-length s) in
        record {
          list = d.list;
          lent = d.lent;
          ranges = d.ranges;
          past = first ∷ d.past;
          rest = others;
          rest_ranges = ranges_split.1;
          numbers = x.front.behind;
          own = putting-behind;
          place = omega (arith, d.place, ap length putting-own);
          body = ap₂ (λ (r : List ℕ) (j : ℕ). written r j (laid (backed (first ∷ d.past) others))) octets next
              ∙ written-append out to (stored_octets s) fits (laid (backed (first ∷ d.past) others))
              ∙ ap (λ (r : List Recorded). written out to (laid (backed d.past r))) (sym x.front.list) ∙ d.body;
          room = omega (arith, d.room, total-split, long, ap length putting-own);
          long = long ∙ d.long;
          counted = counted_next putting_counted channel_is d.place badge_is count all_are;
        }

module _ {n o out₀ m l out : List ℕ} {p : Places} {to : ℕ} (d : Putting n o out₀ m l out p to) where
  pub putting-all : length m < 4 → Wrote n o out₀ out p
  unfolding backed flat
  putting-all few =
      let none = none_lent m d.rest few d.numbers in
      let units : d.list ≡ reverse d.past = d.counted.split ∙ ap (reverse_aux d.past) none in
      record {
        list = d.list;
        lent = d.lent;
        ranges = d.ranges;
        body = sym (written_nothing out to) ∙ ap (λ (r : List Recorded). written out to (laid (backed d.past r))) (sym none) ∙ d.body;
        places = subst (λ (r : List Recorded). PlacesAre (used (reverse d.list)) r p) (sym (ap reverse units ∙ reverse-reverse d.past))
            d.counted.places;
      }
