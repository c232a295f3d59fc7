-- Units that are gone through, and what is known of their channels on the way: each channel's place is found, and what stands there is its
-- last offset and its counts.
--
--   few-total         units are no more than the octets that they take
--   Counted           `p` has what there is to tell of the units `past`, the latest first; `rest` come behind them, and all have their places
--   counted_none      .. at first
--   counted_has       .. the next unit's channel is one of them
--   counted-past      .. the units before it take no more octets than there may be
--   counted-place     .. it stands at its rank
--   counted-kept      .. where its place is
--   counted-last      .. that has its last offset
--   counted_can       .. and its counts, which can go on: that is all that noting it asks
--   counted_next      one unit on
--
-- Assumes nothing.
use mathlib.Core.Path.{◌≡◌, refl, sym, ap, subst, ◌∙◌}
use mathlib.Core.List.{List, [], ◌∷◌, reverse, reverse_aux, reverse_aux-reverse_aux-nil}
use Prim.Native.Nat.{ℕ, ◌≤◌, ◌<◌}
use native.Mathlib.Omega.{arith}
use lib.ListN.{length, get_or}
use Rattle.record.specs.Recorded.{Recorded}
use Rattle.record.specs.Layout.{total, last}
use Rattle.record.specs.Trailer.{used, most_before}
use Rattle.record.specs.Walk.{rank, kept, PlacesAre, place_in, noted_in, CanNote}
use Rattle.record.specs.declared.place.Place.{Place}
use Rattle.record.specs.declared.places.Places.{Places}
use Rattle.record.proofs.Listing.{total-reverse}
use Rattle.record.proofs.Ranking.{Has, used_ascending, used_has, rank_found}
use Rattle.record.proofs.Placing.{places_rank, places_place, places_noted}
use Rattle.record.proofs.Tallying.{units_on_few, damaged_on_few}

pub few-total : (us : List Recorded) → length us ≤ total us
unfolding total
few-total [] = omega arith
few-total (u ∷ us) = omega (arith, few-total us)

pub record Counted (all past rest : List Recorded) (p : Places) : Type 0 where
  pub split : all ≡ reverse_aux past rest
  pub short : total all ≤ most_before
  pub places : PlacesAre (used (reverse all)) past p

pub counted_none : (all : List Recorded) (p : Places) → PlacesAre (used (reverse all)) [] p → total all ≤ most_before → Counted all [] all p
counted_none all p is short = record { split = refl; short = short; places = is }

module _ {all past rest : List Recorded} {v : Recorded} {p : Places} (h : Counted all past (v ∷ rest) p) where
  counted_has : Has v.channel (used (reverse all))
  counted_has =
      subst (λ (l : List Recorded). Has v.channel (used l)) (sym (ap reverse h.split ∙ reverse_aux-reverse_aux-nil past (v ∷ rest)))
      (used_has past rest v)

  pub counted-past : total past ≤ most_before
  counted-past = omega (arith, h.short, ap total h.split, total-reverse past (v ∷ rest))

  counted-place : (rank v.channel (used (reverse all)) < length (used (reverse all)))
      × (get_or (used (reverse all)) (rank v.channel (used (reverse all))) 0 ≡ v.channel)
  counted-place = rank_found v.channel (used (reverse all)) (used_ascending (reverse all)) counted_has

  counted-kept : place_in p v.channel ≡ kept past v.channel
  counted-kept = places_place h.places v counted-place.0 counted-place.1

  pub counted-last : (place_in p v.channel).last ≡ last v.channel past
  counted-last = ap (λ (q : Place). q.last) counted-kept

  pub counted_can : CanNote p v.channel
  counted_can =
      let c = v.channel in
      record {
        inside = omega (arith, places_rank h.places c, counted-place.0, h.places.few);
        units_few = omega (arith, ap (λ (q : Place). q.units) counted-kept, units_on_few c past, few-total past, counted-past);
        damaged_few = omega (arith, ap (λ (q : Place). q.damaged) counted-kept, damaged_on_few c past, few-total past, counted-past);
      }

  -- noted with what was read of it
  pub counted_next : {c at b : ℕ} → c ≡ v.channel → at ≡ total past → b ≡ v.badge → {q : Places} → q.count ≡ p.count
      → q.all ≡ noted_in p c at b → Counted all (v ∷ past) rest q
  counted_next e f g count all_are = record {
    split = h.split;
    short = h.short;
    places = places_noted h.places v counted-place.0 counted-place.1 (used_ascending (reverse all)) count (all_are ∙ rw (e, f, g));
  }
