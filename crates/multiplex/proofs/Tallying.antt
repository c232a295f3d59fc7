-- One more piece: counted as it is taken, and the way that the loops go, piece by piece.
--
--   at-once-most               no more are finished at once than come
--   room-held                  what has room on a segmentable channel stays within 1,024
--   took_ind                   what holds of octets joined, and of a finished unit, holds of octets taken
--   tallies-next               a tally with one more piece counted tells of one more piece taken
--   took-channels              the channels with it are those of refusal 8's definition
--   fits_met, fits_missed, fits-split, fits-end   `fits` by the room of the first piece, and of none
--   Grows d r n k              the delivery r has what d has finished, and at most n octets and k units more
--   took_all_grows              .. at most the octets and pieces that came
--   piece-at                   the pieces behind place j: the one there, whose place is one, and those behind it
--   Way                        what the first j pieces lead to, the octets behind them, and the whole by those
--   way-none, way_next, way-all   .. at the start, after one more piece, and after all
--   way-within                 the octets of the piece there are among those left
--   way-room                   where there is room for the whole, there is for what they lead to
--
-- Assumes nothing.
use mathlib.Core.Path.{◌≡◌, refl, sym, ap, ap₂, subst, ◌∙◌}
use mathlib.Core.List.{List, [], ◌∷◌}
use mathlib.Core.Bool.{Bool, true, false, cond, not, ◌||◌}
use Prim.Native.Nat.{ℕ, ◌+◌, ◌*◌, ◌≤◌, ◌<◌}
use native.Mathlib.Nat.{le_refl, le_trans}
use native.Mathlib.Omega.{arith}
use borrow.Author.Tests.{leb-true}
use lib.Dec.{leb}
use lib.ListN.{length, get_or, take, drop, length-append, length-drop}
use lib.Seq.{set-get_or, length-take-le}
use Rattle.octets.specs.Tests.{both_true}
use Rattle.channels.specs.declared.Channel.{Channel}
use Rattle.channels.specs.declared.Channels.{Channels}
use Rattle.multiplex.specs.declared.demultiplexer.Tally.{Tally}
use Rattle.channels.specs.Channels.{vacant, channel_at, put, place_count, place_octets}
use Rattle.multiplex.specs.Pieces.{Piece, piece, laid, total}
use Rattle.multiplex.specs.Demultiplexer.{Delivery, joined, finished, took, took_all, nothing, counted, room_in, has_room, fits}
use Rattle.multiplex.specs.Tally.{joins, at_once, begins, counts, Tallies, RoomFor, InPlaces}
use Rattle.multiplex.specs.Units.{listed}
use Rattle.multiplex.proofs.Slotting.{paired_at}

pub at-once-most : (c : Channel) (k : ℕ) → at_once c k ≤ k
at-once-most c k = by c.segmentable
  where
    by : (b : Bool) → cond b 0 k ≤ k
    by true = omega arith
    by false = le_refl k

pub room-held : (c : Channel) (n : ℕ) → room_in c n ≡ true → c.segmentable ≡ true → c.held + n ≤ place_octets
room-held c n h g = leb-true _ _ (sym (ap (λ (b : Bool). not b || leb (c.held + n) place_octets) g) ∙ h)

-- ---- one piece

-- by the two kinds of channel
pub took_ind : (d : Delivery) (p : ℕ) (x : List ℕ) (P : Delivery → Type 0) → ((channel_at d.channels p).segmentable ≡ true → P (joined d p x))
    → ((channel_at d.channels p).segmentable ≡ false → P (finished d (channel_at d.channels p).number.0 x)) → P (took d p x)
took_ind d p x P = by (channel_at d.channels p).segmentable
  where
    by : (b : Bool) → (b ≡ true → P (joined d p x)) → (b ≡ false → P (finished d (channel_at d.channels p).number.0 x))
        → P (cond b (joined d p x) (finished d (channel_at d.channels p).number.0 x))
    by true f g = f refl
    by false f g = g refl

pub record Grows (d r : Delivery) (n k : ℕ) : Type 0 where
  pub octets_least : length d.octets ≤ length r.octets
  pub units_least : length d.units ≤ length r.units
  pub octets_most : length r.octets ≤ length d.octets + n
  pub count_most : r.count ≤ d.count + k

counted_is : (s : Channels) (p n : ℕ) → put s p (joins (channel_at s p) n) ≡ counted s p n
counted_is s p n = by (channel_at s p).segmentable refl
  where
    by : (b : Bool) → (channel_at s p).segmentable ≡ b → put s p (joins (channel_at s p) n) ≡ counted s p n
    by true e = rw e
    by false e = rw (e, set-get_or s.at p vacant)

module _ (d : Delivery) (p : ℕ) (x : List ℕ) where
  abbrev units : List ℕ
  units = listed (channel_at d.channels p).number.0 (length d.octets) (length x)

  pub took-channels : (took d p x).channels ≡ counted d.channels p (length x)
  took-channels = took_ind d p x (λ r. r.channels ≡ counted d.channels p (length x)) (λ e. rw e) (λ e. rw e)

  pub tallies-next : (t : Tally) → Tallies d t → Tallies (took d p x) (counts t p (length x))
  tallies-next t w = record {
    channels = rw w.channels (counted_is d.channels p (length x) ∙ sym took-channels);
    octets =
        took_ind d p x (λ r. (counts t p (length x)).octets ≡ length r.octets)
        (λ e. rw (w.channels, e) (omega (arith, w.octets))) (λ e. rw (w.channels, e, length-append) (omega (arith, w.octets)));
    units =
        took_ind d p x (λ r. (counts t p (length x)).units ≡ r.count)
        (λ e. rw (w.channels, e) (omega (arith, w.units))) (λ e. rw (w.channels, e) (omega (arith, w.units)));
    even = took_ind d p x (λ r. length r.units ≡ 3 * r.count) (λ e. w.even) (λ e. length-append d.units units ∙ omega (arith, w.even));
  }

  took_grows : Grows d (took d p x) (length x) 1
  took_grows =
      took_ind d p x (λ r. Grows d r (length x) 1)
      (λ e. record { octets_least = le_refl _; units_least = le_refl _; octets_most = omega arith; count_most = omega arith })
      (λ e.
      let a = length-append d.octets x in
      let b = length-append d.units units in
      record { octets_least = omega arith; units_least = omega arith; octets_most = omega arith; count_most = le_refl _ })

-- ---- refusal 8

module _ (s : Channels) (p n : ℕ) {l k : List Piece} (e : l ≡ piece p n ∷ k) where
  pub fits_met : has_room s p n ≡ true → fits s l ≡ fits (put s p (joins (channel_at s p) n)) k
  unfolding fits
  fits_met h = rw (e, h, counted_is s p n)

  pub fits_missed : has_room s p n ≡ false → fits s l ≡ false
  unfolding fits
  fits_missed h = rw (e, h)

  pub fits-split : fits s l ≡ true → (has_room s p n ≡ true) × (fits (counted s p n) k ≡ true)
  unfolding fits
  fits-split h = both_true (has_room s p n) _ (rw e at h)

pub fits-end : (s : Channels) {l : List Piece} → l ≡ [] → fits s l ≡ true
unfolding fits
fits-end s e = rw e

-- ---- all pieces

pub took_all_grows : (d : Delivery) (l : List Piece) (xs : List ℕ) → total l ≤ length xs → Grows d (took_all d l xs) (total l) (length l)
unfolding took_all total
took_all_grows d [] xs h = record { octets_least = le_refl _; units_least = le_refl _; octets_most = omega arith; count_most = omega arith }
took_all_grows d (q ∷ l) xs h =
    let n = length-take-le q.octets xs (omega arith) in
    let a = took_grows d q.place (take q.octets xs) in
    let b = took_all_grows (took d q.place (take q.octets xs)) l (drop q.octets xs) (omega (arith, length-drop q.octets xs)) in
    record { octets_least = omega arith; units_least = omega arith; octets_most = omega arith; count_most = omega arith }

-- ---- the way

pub piece-at : {ps ls : List ℕ} {j p n : ℕ} → InPlaces ps ls → j < length ps → p ≡ get_or ps j 0 → n ≡ get_or ls j 0
    → (p < place_count) × (drop j (laid ps ls) ≡ piece p n ∷ drop (j + 1) (laid ps ls))
piece-at {ps} {ls} {j} w h e f = (rw e (w.within j h), rw (e, f) (paired_at piece ps ls j h (omega (arith, w.same))))

pub record Way (s : Channels) (h : List ℕ) (l : List Piece) (xs : List ℕ) (j : ℕ) (t : Tally) (far : Delivery) (rest : List ℕ) : Type 0 where
  pub tallies : Tallies far t
  pub onward : took_all far (drop j l) rest ≡ took_all (nothing s h) l xs
  pub enough : total (drop j l) ≤ length rest

pub way-none : (s : Channels) (h : List ℕ) (l : List Piece) (xs : List ℕ) → total l ≤ length xs
    → Way s h l xs 0 (begins s) (nothing s h) xs
way-none s h l xs k = record { tallies = record { channels = refl; octets = refl; units = refl; even = refl }; onward = refl; enough = k }

module _ {s : Channels} {h : List ℕ} {l : List Piece} {xs : List ℕ} {j : ℕ} {t : Tally} {far : Delivery} {rest : List ℕ}
    (w : Way s h l xs j t far rest) where
  -- the piece there, its octets x, and those behind it
  module _ (p n : ℕ) (e : drop j l ≡ piece p n ∷ drop (j + 1) l) where
    pub way-within : n + total (drop (j + 1) l) ≤ length rest
    unfolding total
    way-within = rw e at w.enough

    pub way_next : (x behind : List ℕ) → take n rest ≡ x → drop n rest ≡ behind → Way s h l xs (j + 1) (counts t p n) (took far p x) behind
    unfolding took_all
    way_next x behind f g =
        let m : length x ≡ n = ap length (sym f) ∙ length-take-le n rest (omega (arith, way-within)) in
        record {
          tallies = subst (λ (k : ℕ). Tallies (took far p x) (counts t p k)) m (tallies-next far p x t w.tallies);
          onward = ap₂ (λ (y b : List ℕ). took_all (took far p y) (drop (j + 1) l) b) (sym f) (sym g) ∙ rw e at w.onward;
          enough = omega (arith, way-within, length-drop n rest, ap length g);
        }

  pub way-room : (o u : List ℕ) → RoomFor o u (took_all (nothing s h) l xs) → RoomFor o u far
  way-room o u k =
      let b = rw w.onward at (took_all_grows far (drop j l) rest w.enough) in
      record { output = le_trans b.octets_least k.output; units = le_trans b.units_least k.units }

  pub way-all : drop j l ≡ [] → far ≡ took_all (nothing s h) l xs
  unfolding took_all
  way-all e = rw e at w.onward
