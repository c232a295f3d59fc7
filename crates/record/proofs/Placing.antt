-- The places of channels, and what they say. A unit changes its own channel's place alone, since ascending channels are all different.
--
--   above_at          each of the numbers above x is above x
--   map_above         functions that agree above x, over numbers above x
--   map-changed       .. that agree but at one of ascending numbers: its place alone changes
--   channels_kept     the channels of places are the numbers that they were made of
--   channels_are      .. of the used ones
--   place_at          the place of one of them
--   kept-on           a unit is noted at its channel's place
--   kept-off          .. and changes no other
--   fresh_kept        before any unit
--   places_none       no channels
--   places_channels   the channels of the used places
--   places_rank       .. so that a rank is one among them
--   places-at         what stands at a used place
--   places_place      .. of a channel that is there
--   places_noted      one unit more
--   flat_map          the octets of what is made of a list
--   unused-octets     .. of places that are not used
--   trailer-from      the trailer that the places give
--   octets-length     a place's length
--
-- Assumes nothing.
use mathlib.Core.Path.{◌≡◌, refl, sym, ap, ap₂, ◌∙◌}
use mathlib.Core.List.{List, [], ◌∷◌, ◌++◌, map}
use Prim.Native.Nat.{ℕ, zero, suc, ◌-◌, ◌<◌}
use native.Mathlib.Numerals.{add-one}
use native.Mathlib.Omega.{arith}
use borrow.Author.Tests.{eq-eqb, ne_eqb}
use lib.ListN.{length, get_or, set, take, replicate, length-map, get_or-append}
use lib.Seq.{set-append_left, take_at}
use Rattle.std.proofs.lemmas.List.{get_or-map}
use Rattle.octets.specs.High.{fields}
use Rattle.octets.proofs.Laws.{fields-length}
use Rattle.record.specs.declared.place.Place.{Place}
use Rattle.record.specs.declared.places.Places.{Places}
use Rattle.record.specs.Recorded.{Recorded, flat}
use Rattle.record.specs.Layout.{total, last}
use Rattle.record.specs.Trailer.{used, units_on, damaged_on, place_widths, unused, most_channels, mark, trailer_of}
use Rattle.record.specs.Walk.{rank, fresh, kept, noted, place_octets, all_places, PlacesAre, rank_in, place_in, noted_in, trailer_from}
use Rattle.record.proofs.Laying.{flat_append}
use Rattle.record.proofs.Ranking.{Above, Ascending, above_ascending}

-- ---- numbers at places

above_at : (x : ℕ) (cs : List ℕ) (i : ℕ) → Above x cs → i < length cs → x < get_or cs i 0
above_at x [] i a h = absurd (omega arith)
above_at x (y ∷ cs) zero a h = a.0
above_at x (y ∷ cs) (suc i) a h = omega (arith, a.0, above_at y cs i a.1 (omega arith))

map_above : (f g : ℕ → Place) (x : ℕ) (cs : List ℕ) → Above x cs → ((d : ℕ) → x < d → f d ≡ g d) → map f cs ≡ map g cs
map_above f g x [] a e = refl
map_above f g x (y ∷ cs) a e =
    ap₂ (λ (n : Place) (l : List Place). n ∷ l) (e y a.0) (map_above f g y cs a.1 (λ d h. e d (omega (arith, h, a.0))))

map-changed : (f g : ℕ → Place) (cs : List ℕ) (i : ℕ) → Ascending cs → i < length cs → ((d : ℕ) → (d ≡ get_or cs i 0 → ⊥) → f d ≡ g d)
    → set (map f cs) i (g (get_or cs i 0)) ≡ map g cs
map-changed f g [] i a h e = absurd (omega arith)
map-changed f g (x ∷ cs) zero a h e = ap (λ (l : List Place). g x ∷ l) (map_above f g x cs a (λ d l. e d (λ s. omega arith)))
map-changed f g (x ∷ cs) (suc i) a h e =
    ap₂ (λ (n : Place) (l : List Place). n ∷ l) (e x (λ s. omega (arith, s, above_at x cs i a (omega arith))))
    (map-changed f g cs i (above_ascending x cs a) (omega arith) e)

-- ---- the places of channels

abbrev channel_of : Place → ℕ
channel_of q = q.channel

channels_kept : (past : List Recorded) (cs : List ℕ) → map channel_of (map (kept past) cs) ≡ cs
channels_kept past [] = refl
channels_kept past (c ∷ cs) = ap (λ (l : List ℕ). c ∷ l) (channels_kept past cs)

channels_are : (cs : List ℕ) (past : List Recorded) → map channel_of (take (length cs) (all_places cs past)) ≡ cs
channels_are cs past =
    ap (map channel_of) (take_at (map (kept past) cs) (replicate (most_channels - length cs) (fresh 0)) (length cs) (length-map cs (kept past)))
    ∙ channels_kept past cs

place_at : (cs : List ℕ) (past : List Recorded) (i : ℕ) (d : Place) → i < length cs → get_or (all_places cs past) i d ≡ kept past (get_or cs i 0)
place_at cs past i d h =
    get_or-append (map (kept past) cs) (replicate (most_channels - length cs) (fresh 0)) d i (rw length-map h)
    ∙ get_or-map (kept past) cs i 0 d h

kept-on : (u : Recorded) (past : List Recorded) (c : ℕ) → u.channel ≡ c → noted (kept past c) (total past) u.badge ≡ kept (u ∷ past) c
unfolding last units_on damaged_on
kept-on u past c e = rw (eq-eqb u.channel c e) (simp add-one)

kept-off : (u : Recorded) (past : List Recorded) (d : ℕ) → (u.channel ≡ d → ⊥) → kept past d ≡ kept (u ∷ past) d
unfolding last units_on damaged_on
kept-off u past d f = rw (ne_eqb u.channel d f) refl

pub fresh_kept : (cs : List ℕ) → map (kept []) cs ≡ map fresh cs
unfolding last units_on damaged_on
fresh_kept cs = refl

module _ {cs : List ℕ} {past : List Recorded} {p : Places} (h : PlacesAre cs past p) where
  pub places_channels : map channel_of (take p.count p.all) ≡ cs
  places_channels = ap₂ (λ (n : ℕ) (l : List Place). map channel_of (take n l)) h.count_is h.all_are ∙ channels_are cs past

  pub places_rank : (c : ℕ) → rank_in p c ≡ rank c cs
  places_rank c = ap (rank c) places_channels

  pub places-at : (i : ℕ) (d : Place) → i < length cs → get_or p.all i d ≡ kept past (get_or cs i 0)
  places-at i d l = ap (λ (x : List Place). get_or x i d) h.all_are ∙ place_at cs past i d l

  -- a unit whose channel is there
  module _ (u : Recorded) (inside : rank u.channel cs < length cs) (there : get_or cs (rank u.channel cs) 0 ≡ u.channel) where
    pub places_place : place_in p u.channel ≡ kept past u.channel
    places_place = ap (λ (i : ℕ). get_or p.all i (fresh 0)) (places_rank u.channel) ∙ places-at (rank u.channel cs) (fresh 0) inside ∙ ap (kept past) there

    pub places_noted : Ascending cs → {q : Places} → q.count ≡ p.count → q.all ≡ noted_in p u.channel (total past) u.badge → PlacesAre cs (u ∷ past) q
    places_noted a {q} count all =
        let i = rank u.channel cs in
        let put : set (map (kept past) cs) i (kept (u ∷ past) (get_or cs i 0)) ≡ map (kept (u ∷ past)) cs
        = map-changed (kept past) (kept (u ∷ past)) cs i a inside (λ d f. kept-off u past d (λ e. f (sym e ∙ sym there))) in
        let here : noted (place_in p u.channel) (total past) u.badge ≡ kept (u ∷ past) (get_or cs i 0)
        = ap (λ (x : Place). noted x (total past) u.badge) places_place ∙ kept-on u past u.channel refl ∙ ap (kept (u ∷ past)) (sym there) in
        record {
          few = h.few;
          count_is = count ∙ h.count_is;
          all_are = all ∙ ap₂ (λ (j : ℕ) (x : Place). set p.all j x) (places_rank u.channel) here
              ∙ ap (λ (l : List Place). set l i (kept (u ∷ past) (get_or cs i 0))) h.all_are
              ∙ set-append_left (map (kept past) cs) (replicate (most_channels - length cs) (fresh 0)) i (kept (u ∷ past) (get_or cs i 0)) (rw length-map inside)
              ∙ ap (λ (l : List Place). l ++ replicate (most_channels - length cs) (fresh 0)) put;
        }

-- ---- the trailer

flat_map : {A : Type 0} (f : Place → List ℕ) (g : A → Place) (l : List A) → flat f (map g l) ≡ flat (λ (x : A). f (g x)) l
unfolding flat
flat_map f g [] = refl
flat_map f g (x ∷ l) = ap (λ (r : List ℕ). f (g x) ++ r) (flat_map f g l)

unused-octets : (k : ℕ) → flat place_octets (replicate k (fresh 0)) ≡ flat (λ (none : List ℕ). none) (replicate k unused)
unfolding flat
unused-octets zero = refl
unused-octets (suc k) = ap (λ (r : List ℕ). unused ++ r) (unused-octets k)

pub trailer-from : (past : List Recorded) {p : Places} → PlacesAre (used past) past p → trailer_from p (length past) (total past) ≡ trailer_of past
trailer-from past h =
    let cs = used past in
    let k = most_channels - length cs in
    ap (λ (l : List ℕ). l ++ (fields (4 ∷ 4 ∷ []) (length past ∷ total past ∷ []) ++ mark))
    (ap (flat place_octets) h.all_are ∙ flat_append place_octets (map (kept past) cs) (replicate k (fresh 0))
    ∙ ap₂ (λ (a b : List ℕ). a ++ b) (flat_map place_octets (kept past) cs) (unused-octets k))

pub octets-length : (q : Place) → length (place_octets q) ≡ 14
octets-length q = fields-length place_widths (q.channel ∷ q.last ∷ q.units ∷ q.damaged ∷ []) refl
