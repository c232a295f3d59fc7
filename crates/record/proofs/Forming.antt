-- Octets that are a record: its trailer has 236 octets, so that what stands before it is known, and that can be read in one way only.
--
--   total-turned        units take as many octets whichever comes first
--   end-length          a trailer has 236 octets
--   record-length       a record has the octets of its units and 236 more
--   record_body         what stands before those is its units' octets
--   record-end          .. and those are the trailer
--   record-fits         so that its units, with their back offsets, are stored units that stand there
--   record_list         .. the only ones
--   record_right        .. and those that do have the back offsets that they ought to have
--   units_ranges        the units of stored units in range are in range
--   Whole               what is known of octets before any trailer is compared
--   us, taken           its units, and the octets that they take
--   whole-end           the trailer that would be written
--   whole_record        where it is there, there is a record
--   whole-none          where it is not, there is none
--
-- Assumes nothing.
use mathlib.Core.Path.{◌≡◌, sym, ap, ap₂, subst, ◌∙◌}
use mathlib.Core.List.{List, [], ◌∷◌, ◌++◌, reverse}
use Prim.Native.Nat.{ℕ, ◌+◌, ◌≤◌}
use native.Mathlib.Omega.{arith}
use lib.ListN.{length, take, drop, length-append, length-reverse, take-append-drop}
use lib.Seq.{take_at, drop_at, length-take-le}
use Rattle.record.specs.Recorded.{Recorded, AllInRange}
use Rattle.record.specs.Layout.{total, Stored, laid, backed, body_of}
use Rattle.record.specs.Trailer.{used, most_channels, trailer_of, trailer_octets, most_before}
use Rattle.record.specs.Call.{IsRecord}
use Rattle.record.specs.Walk.{PlacesAre, trailer_from, units_of, channels_of, AllStored, Fits}
use Rattle.record.specs.declared.places.Places.{Places}
use Rattle.record.proofs.Laying.{laid-length, laid_same}
use Rattle.record.proofs.Listing.{total-reverse}
use Rattle.record.proofs.Backing.{backed-units, backed_ranges, body-length}
use Rattle.record.proofs.Placing.{trailer-from}
use Rattle.record.proofs.Tallying.{trailer-length}

pub total-turned : (us : List Recorded) → total (reverse us) ≡ total us
unfolding total
total-turned us = total-reverse us [] ∙ omega arith

module _ {us : List Recorded} {s : List ℕ} (r : IsRecord us s) where
  end-length : length (trailer_of (reverse us)) ≡ trailer_octets
  end-length = trailer-length (reverse us) r.taken.channels

  pub record-length : length s ≡ total us + trailer_octets
  record-length =
      ap length r.octets ∙ length-append (body_of us) (trailer_of (reverse us)) ∙ ap₂ (λ (a b : ℕ). a + b) (body-length us) end-length

  module _ (k : ℕ) (at : k + trailer_octets ≡ length s) where
    end-at : length (body_of us) ≡ k
    end-at = omega (arith, body-length us, record-length)

    pub record_body : take k s ≡ body_of us
    record_body = ap (take k) r.octets ∙ take_at (body_of us) (trailer_of (reverse us)) k end-at

    pub record-end : drop k s ≡ trailer_of (reverse us)
    record-end = ap (drop k) r.octets ∙ drop_at (body_of us) (trailer_of (reverse us)) k end-at

    pub record-fits : Fits (backed [] us) (take k s)
    unfolding total
    record-fits = record {
      octets = record_body;
      ranges = backed_ranges [] us r.taken.ranges (omega (arith, r.taken.before));
      few = subst (λ (l : List Recorded). length (used (reverse l)) ≤ most_channels) (sym (backed-units [] us)) r.taken.channels;
    }

    pub record_list : (ps : List Stored) → Fits ps (take k s) → ps ≡ backed [] us
    record_list ps f = laid_same ps (backed [] us) f.ranges record-fits.ranges (sym f.octets ∙ record-fits.octets)

    pub record_right : (ps : List Stored) → Fits ps (take k s) → ps ≡ backed [] (units_of ps)
    record_right ps f = record_list ps f ∙ ap (backed []) (sym (ap units_of (record_list ps f) ∙ backed-units [] us))

units_ranges : (ps : List Stored) → AllStored ps → AllInRange (units_of ps)
units_ranges [] r = tt
units_ranges (p ∷ ps) r = (r.0.0, units_ranges ps r.1)

pub record Whole (s : List ℕ) (k : ℕ) (n : ℕ) (p : Places) : Type 0 where
  pub list : List Stored
  pub fits : Fits list (take k s)
  pub right : list ≡ backed [] (units_of list)
  pub count : n ≡ length (units_of list)
  pub places : PlacesAre (channels_of list) (reverse (units_of list)) p
  pub at : k + trailer_octets ≡ length s
  pub short : k ≤ most_before

module _ {s : List ℕ} {k : ℕ} {n : ℕ} {p : Places} (w : Whole s k n p) where
  us : List Recorded
  us = units_of w.list

  taken : k ≡ total us
  unfolding us
  taken = sym (length-take-le k s (omega (arith, w.at))) ∙ ap length w.fits.octets ∙ laid-length w.list

  pub whole-end : trailer_from p n k ≡ trailer_of (reverse (units_of w.list))
  unfolding us
  whole-end =
      ap₂ (trailer_from p) (w.count ∙ sym (length-reverse us)) (taken ∙ sym (total-turned us)) ∙ trailer-from (reverse us) w.places

  pub whole_record : drop k s ≡ trailer_from p n k → IsRecord (units_of w.list) s
  unfolding us
  whole_record e = record {
    taken = record { ranges = units_ranges w.list w.fits.ranges; channels = w.fits.few; before = omega (arith, taken, w.short) };
    octets = sym (take-append-drop k s) ∙ ap₂ (λ (a b : List ℕ). a ++ b) (w.fits.octets ∙ ap laid w.right) (e ∙ whole-end);
  }

  pub whole-none : (drop k s ≡ trailer_from p n k → ⊥) → (vs : List Recorded) → IsRecord vs s → ⊥
  unfolding us
  whole-none f vs r =
      f (record-end r k w.at ∙ ap (λ (l : List Recorded). trailer_of (reverse l)) (sym (backed-units [] vs) ∙ ap units_of (sym (record_list r k w.at w.list w.fits)))
      ∙ sym whole-end)
