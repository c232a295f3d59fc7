-- The walk that compares back offsets: the units so far have those that they ought to have.
--
--   Comparing           what the walk keeps: the stored units of b are those so far, with right back offsets, and the rest
--   comparing-none      .. at first
--   comparing_faced     before the end there is a next unit
--   Placed              .. with its header
--   comparing_placed    .. which is what is read there
--   first, others       .. the unit, and those behind it
--   comparing_counted   .. of which the places know
--   comparing_can       .. and can note it
--   comparing-last      .. and its last offset is there
--   split-on            .. the unit stands between those so far and the others
--   comparing_wrong     where that is not its back offset, the stored units do not have those that they ought to have
--   comparing_next      one unit on, where it is
--   comparing-all       at the end they do
--
-- Assumes nothing.
use mathlib.Core.Path.{◌≡◌, refl, sym, ap, subst, ◌∙◌}
use mathlib.Core.List.{List, [], ◌∷◌, ◌++◌, append-nil, reverse, reverse_aux, reverse-reverse}
use Rattle.std.specs.Prelude.{Some, None}
use Prim.Native.Nat.{ℕ, ◌+◌, ◌≤◌, ◌<◌}
use native.Mathlib.Omega.{arith}
use lib.ListN.{length, take, drop}
use Rattle.record.specs.Recorded.{Recorded}
use Rattle.record.specs.Layout.{header_octets, size, total, last, Stored, laid, backed}
use Rattle.record.specs.Walk.{PlacesAre, place_in, noted_in, CanNote, HeaderIs, units_of, channels_of, AllStored, Fits, Surveyed, CheckedIs}
use Rattle.record.specs.declared.places.Places.{Places}
use Rattle.record.specs.declared.unit.Header.{Header}
use Rattle.record.proofs.Laying.{laid-length}
use Rattle.record.proofs.Backing.{back_right, back_next}
use Rattle.record.proofs.Counting.{Counted, counted_none, counted_next, counted-last, counted_can}
use Rattle.record.proofs.Delivering.{Facing, facing, facing_head, facing-end, all_faced}
use Rattle.record.proofs.Standing.{HeadIs, behind-here}

pub record Comparing (b : List ℕ) (p : Places) (at : ℕ) : Type 0 where
  pub list : List Stored
  pub fits : Fits list b
  pub past : List Recorded
  pub rest : List Stored
  pub split : list ≡ backed [] (reverse_aux past []) ++ rest
  pub ranges : AllStored rest
  pub octets : drop at b ≡ laid rest
  pub here : at ≤ length b
  pub place : at ≡ total past
  pub counted : Counted (units_of list) past (units_of rest) p

pub comparing-none : (b : List ℕ) (p : Places) → Surveyed b p → Comparing b p 0
unfolding backed total
comparing-none b p s = record {
  list = s.list;
  fits = s.fits;
  past = [];
  rest = s.list;
  split = refl;
  ranges = s.fits.ranges;
  octets = s.fits.octets;
  here = omega arith;
  place = refl;
  counted = counted_none (units_of s.list) p s.places (omega (arith, s.short, ap length s.fits.octets, laid-length s.list));
}

pub record Placed {b : List ℕ} {p : Places} {at : ℕ} (d : Comparing b p at) (h : Header) : Type 0 where
  pub face : Facing b at d.rest
  pub head : HeadIs h face.first

pub comparing_placed : {b : List ℕ} {p : Places} {at : ℕ} (d : Comparing b p at) (h : Header) → at < length b
    → HeaderIs (take header_octets (drop at b)) h → Placed d h
comparing_placed {b} {p} {at} d h inside is =
    let face = facing b at d.rest d.octets d.ranges inside in record { face = face; head = facing_head face h is }

module _ {b : List ℕ} {p : Places} {at : ℕ} {d : Comparing b p at} {h : Header} (x : Placed d h) where
  abbrev first : Stored
  first = x.face.first

  abbrev others : List Stored
  others = x.face.others

  comparing_counted : Counted (units_of d.list) d.past (first.unit ∷ units_of others) p
  comparing_counted = subst (λ (l : List Stored). Counted (units_of d.list) d.past (units_of l) p) x.face.list d.counted

  pub comparing_can : CanNote p h.numbers.channel
  comparing_can = subst (CanNote p) (sym x.head.channel_is) (counted_can comparing_counted)

  comparing-last : (place_in p h.numbers.channel).last ≡ last first.unit.channel d.past
  comparing-last = ap (λ (c : ℕ). (place_in p c).last) x.head.channel_is ∙ counted-last comparing_counted

  split-on : d.list ≡ backed [] (reverse_aux d.past []) ++ first ∷ others
  split-on = d.split ∙ ap (λ (l : List Stored). backed [] (reverse_aux d.past []) ++ l) x.face.list

  module _ {k : ℕ} (answer : k ≡ (place_in p h.numbers.channel).last) where
    pub comparing_wrong : (k ≡ h.back → ⊥) → CheckedIs b None
    unfolding backed
    comparing_wrong wrong = record {
      list = d.list;
      fits = d.fits;
      backs = λ e. wrong (answer ∙ comparing-last ∙ sym (x.head.back_is ∙ ap first_back (back_right d.past (first ∷ others)
          (subst (λ (l : List Stored). l ≡ backed [] (units_of l)) split-on e))));
    }
      where
        first_back : List Stored → ℕ
        first_back [] = 0
        first_back (q ∷ l) = q.back

    pub comparing_next : k ≡ h.back → {q : Places} → q.count ≡ p.count → q.all ≡ noted_in p h.numbers.channel at h.numbers.badge
        → Comparing b q (at + (header_octets + h.numbers.length))
    unfolding total
    comparing_next right count all_are =
        let v = first.unit in
        let next : at + (header_octets + h.numbers.length) ≡ at + size v = omega (arith, x.head.length_is) in
        record {
          list = d.list;
          fits = d.fits;
          past = v ∷ d.past;
          rest = others;
          split = split-on ∙ back_next d.past first others (sym x.head.back_is ∙ sym right ∙ answer ∙ comparing-last);
          ranges = x.face.ranges;
          octets = ap (λ (j : ℕ). drop j b) next ∙ behind-here b at first (laid others) x.face.octets;
          here = omega (arith, x.head.length_is, facing-end x.face d.here);
          place = omega (arith, next, d.place);
          counted = counted_next comparing_counted x.head.channel_is d.place x.head.badge_is count all_are;
        }

module _ {b : List ℕ} {p : Places} {at : ℕ} (d : Comparing b p at) where
  pub comparing_faced : at < length b → Facing b at d.rest
  comparing_faced = facing b at d.rest d.octets d.ranges

  pub comparing-all : length b ≤ at → CheckedIs b (Some p)
  comparing-all end =
      let none = all_faced b at d.rest d.octets end in
      let whole : d.list ≡ backed [] (reverse_aux d.past [])
      = d.split ∙ ap (λ (l : List Stored). backed [] (reverse_aux d.past []) ++ l) none ∙ append-nil (backed [] (reverse_aux d.past [])) in
      let units : units_of d.list ≡ reverse d.past
      = d.counted.split ∙ ap (λ (l : List Stored). reverse_aux d.past (units_of l)) none in
      record {
        list = d.list;
        fits = d.fits;
        backs = (
          whole ∙ ap (backed []) (sym units),
          subst (λ (l : List Recorded). PlacesAre (channels_of d.list) l p) (sym (ap reverse units ∙ reverse-reverse d.past)) d.counted.places,
        );
      }
