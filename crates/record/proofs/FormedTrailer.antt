-- A record's trailer stands behind its units: sixteen places of fourteen octets, the used ones first, then the two numbers and the mark.
--
--   ranges_channel   the channel of units in range has two octets
--   place_numbers     the numbers of a channel's place
--   spare k          k places that are not used
--   end_numbers       the two numbers behind the places
--   ends             .. in octets, with the mark
--   free             what stands behind the used places
--   places-first     a trailer is its used places, and that
--   place_long       a place has fourteen octets
--   trailer-here     the trailer stands behind the units
--   few-units        there are no more units than octets
--   place_fit        the numbers of a used place fit
--   place-stands     .. so that they stand there in the claims' words
--   unused_stand     what stands at an unused place
--   ends-here        what stands behind the places
--   ends_stand       .. begins with two numbers
--   mark_stands      .. and ends with the mark
--   trailer-stands   the trailer in the claims' words
--   trailers_stand   .. of each record
--
-- Assumes nothing.
use mathlib.Core.Path.{◌≡◌, refl, sym, ap, ◌∙◌}
use mathlib.Core.Logic.{inl, inr}
use mathlib.Core.List.{List, [], ◌∷◌, ◌++◌, append_assoc, reverse}
use Prim.Native.Nat.{ℕ, suc, ◌+◌, ◌-◌, ◌*◌, ◌≤◌, ◌<◌}
use native.Mathlib.Omega.{arith}
use lib.ListN.{length, get_or, take, drop, replicate, length-append, length-replicate, length-reverse, get_or-replicate}
use lib.Seq.{drop-drop, drop_at}
use Rattle.octets.specs.High.{high, fields, Fit, widths}
use Rattle.octets.proofs.Laws.{fields-length}
use Rattle.record.specs.Recorded.{Recorded, AllInRange, flat}
use Rattle.record.specs.Layout.{no_offset, total, last, body_of}
use Rattle.record.specs.Trailer.{
  used,
  units_on,
  damaged_on,
  place_widths,
  place_of,
  unused,
  most_channels,
  places,
  mark,
  trailer_of,
  most_before,
  record_of,
}
use Rattle.record.specs.Call.{Taken}
use Rattle.record.specs.Form.{number_at, offset, HasOn, PlaceStands, unused_place, TrailerStands, TrailersStand}
use Rattle.record.proofs.Listing.{octets-length}
use Rattle.record.proofs.Backing.{body-length, last_small}
use Rattle.record.proofs.Tallying.{units_on_few, damaged_on_few, place-length, trailer-length}
use Rattle.record.proofs.Forming.{total-turned, record-length}
use Rattle.record.proofs.Channelled.{offset-total, used-channels}
use Rattle.record.proofs.Fielding.{field-stands, row_at, row-end}
use Rattle.record.proofs.Telling.{last-offset, units-told, damaged-told}

ranges_channel : (c : ℕ) (us : List Recorded) → AllInRange us → HasOn c us → c < 65536
ranges_channel c [] r h = absurd h
ranges_channel c (u ∷ us) r (inl e) = omega (arith, e, r.0.channel_is)
ranges_channel c (u ∷ us) r (inr h) = ranges_channel c us r.1 h

abbrev place_numbers : List Recorded → ℕ → List ℕ
place_numbers past c = c ∷ last c past ∷ units_on c past ∷ damaged_on c past ∷ []

abbrev spare : ℕ → List ℕ
spare k = flat (λ (none : List ℕ). none) (replicate k unused)

abbrev end_numbers : List Recorded → List ℕ
end_numbers past = length past ∷ total past ∷ []

abbrev ends : List Recorded → List ℕ
ends past = fields (4 ∷ 4 ∷ []) (end_numbers past) ++ mark

abbrev free : List Recorded → List ℕ
free past = spare (most_channels - length (used past)) ++ ends past

places-first : (past : List Recorded) → trailer_of past ≡ flat (place_of past) (used past) ++ free past
places-first past = append_assoc (flat (place_of past) (used past)) (spare (most_channels - length (used past))) (ends past)

place_long : (past : List Recorded) (c : ℕ) → length (place_of past c) ≡ 14
place_long past c = place-length c (last c past) (units_on c past) (damaged_on c past)

module _ (us : List Recorded) (t : Taken us) where
  trailer-here : (k : ℕ) → drop (offset us + k) (record_of us) ≡ drop k (trailer_of (reverse us))
  trailer-here k =
      sym (drop-drop k (offset us) (record_of us))
      ∙ ap (drop k) (drop_at (body_of us) (trailer_of (reverse us)) (offset us) (body-length us ∙ sym (offset-total us)))

  few-units : length (reverse us) ≤ most_before
  few-units = omega (arith, length-reverse us, octets-length us, t.before)

  -- ---- the used places

  place_fit : (c : ℕ) → HasOn c us → Fit place_widths (place_numbers (reverse us) c)
  place_fit c h = (
    ranges_channel c us t.ranges h,
    (
      last_small c (reverse us) (omega (arith, total-turned us, t.before)),
      (omega (arith, units_on_few c (reverse us), few-units), (omega (arith, damaged_on_few c (reverse us), few-units), tt)),
    ),
  )

  place-stands : (j : ℕ) → j < length (used (reverse us)) → PlaceStands (record_of us) (offset us + 14 * j) (get_or (used (reverse us)) j 0) us
  place-stands j h = record {
    channel_stands = field 0 at (omega arith) (omega arith);
    last_stands = λ a b v e on f.
        field 1 (at + 2) (omega arith) (omega arith) ∙ ap (λ (l : List Recorded). last c (reverse l)) e ∙ last-offset c a b v on f;
    units_stand = field 2 (at + 6) (omega arith) (omega arith) ∙ units-told c us;
    damaged_stand = field 3 (at + 10) (omega arith) (omega arith) ∙ damaged-told c us;
  }
    where
      past : List Recorded
      past = reverse us

      at : ℕ
      at = offset us + 14 * j

      c : ℕ
      c = get_or (used past) j 0

      field : (i k : ℕ) → i < 4 → k ≡ at + widths (take i place_widths)
          → number_at (get_or place_widths i 0) (record_of us) k ≡ get_or (place_numbers past c) i 0
      field i k g o =
          field-stands place_widths (place_numbers past c) i (record_of us) at k (flat (place_of past) (drop (suc j) (used past)) ++ free past)
          (place_fit c (((used-channels us).exactly c).0 (j, h, refl))) g
          (trailer-here (14 * j) ∙ ap (drop (14 * j)) (places-first past)
          ∙ row_at (place_of past) 0 (used past) (free past) (λ i f. place_long past (get_or (used past) i 0)) j h)
          o

  -- ---- the others

  unused_stand : (j : ℕ) → length (used (reverse us)) ≤ j → j < 16 → take 14 (drop (offset us + 14 * j) (record_of us)) ≡ unused_place
  unfolding high
  unused_stand j h g =
      ap (take 14) (trailer-here (14 * j) ∙ ap (λ (k : ℕ). drop k (trailer_of past)) split ∙ sym (drop-drop (14 * i) (14 * length cs) (trailer_of past))
      ∙ ap (drop (14 * i)) (ap (drop (14 * length cs)) (places-first past)
      ∙ row-end (place_of past) 0 cs (free past) (λ i f. place_long past (get_or cs i 0)))
      ∙ row_at own [] rows (ends past) (λ i f. ap length (same i (rw length-replicate at f)) ∙ place-length 0 no_offset 0 0) i
      (rw length-replicate inside))
      ∙ ap (λ (l : List ℕ). take 14 (l ++ (flat own (drop (suc i) rows) ++ ends past))) (same i inside)
    where
      past : List Recorded
      past = reverse us

      cs : List ℕ
      cs = used past

      i : ℕ
      i = j - length cs

      left : ℕ
      left = most_channels - length cs

      own : List ℕ → List ℕ
      own none = none

      rows : List (List ℕ)
      rows = replicate left unused

      inside : i < left
      inside = omega arith

      split : 14 * j ≡ 14 * length cs + 14 * i
      split = omega arith

      same : (i : ℕ) → i < left → get_or rows i [] ≡ unused
      same i f = get_or-replicate left i unused [] f

  -- ---- the end

  ends-here : drop (offset us + 224) (record_of us) ≡ ends (reverse us)
  ends-here =
      let past = reverse us in
      let long = trailer-length past t.channels in
      trailer-here 224
      ∙ drop_at (places past) (ends past) 224
      (omega (
        arith,
        long,
        length-append (places past) (ends past),
        length-append (fields (4 ∷ 4 ∷ []) (end_numbers past)) mark,
        fields-length (4 ∷ 4 ∷ []) (end_numbers past) refl,
      ))

  ends_stand : (i k : ℕ) → i < 2 → k ≡ offset us + 224 + widths (take i (4 ∷ 4 ∷ []))
      → number_at (get_or (4 ∷ 4 ∷ []) i 0) (record_of us) k ≡ get_or (end_numbers (reverse us)) i 0
  ends_stand i k h o =
      field-stands (4 ∷ 4 ∷ []) (end_numbers (reverse us)) i (record_of us) (offset us + 224) k mark
      (omega (arith, few-units), (omega (arith, total-turned us, t.before), tt)) h ends-here o

  mark_stands : take 4 (drop (offset us + 232) (record_of us)) ≡ mark
  mark_stands =
      let past = reverse us in
      let split : offset us + 232 ≡ offset us + 224 + 8 = omega arith in
      ap (take 4) (ap (λ (k : ℕ). drop k (record_of us)) split ∙ sym (drop-drop 8 (offset us + 224) (record_of us)) ∙ ap (drop 8) ends-here
      ∙ drop_at (fields (4 ∷ 4 ∷ []) (end_numbers past)) mark 8 (fields-length (4 ∷ 4 ∷ []) (end_numbers past) refl))

  trailer-stands : TrailerStands (record_of us) (offset us) us
  trailer-stands = record {
    long = omega (arith, offset-total us, record-length (record { taken = t; octets = refl }));
    channels = used (reverse us);
    channels_are = used-channels us;
    few = t.channels;
    used_places = place-stands;
    unused_places = unused_stand;
    units_stand = ends_stand 0 (offset us + 224) (omega arith) (omega arith) ∙ length-reverse us;
    before_stands = ends_stand 1 (offset us + 228) (omega arith) (omega arith) ∙ total-turned us ∙ sym (offset-total us);
    mark_stands = mark_stands;
  }

pub trailers_stand : TrailersStand
trailers_stand = trailer-stands
