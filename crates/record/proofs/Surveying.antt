-- The walk that looks for stored units: what it has seen, one unit on, and why there are none where it stops.
--
--   Seen            what the walk keeps: the stored units before `at`, the latest first, their number and their channels
--   seen_none       .. at first
--   here_range      a header in range, with its octets behind it, is a stored unit in range
--   inserted, not_inserted   what came of giving the channel a place
--   seen_next       one unit on
--   seen_all        at the end, which is what the survey then says
--   Next            where octets are stored units, the first that is not yet seen
--   ranges-behind   those behind others are in range where all are
--   next_stored     .. there is one before the end
--   end             .. it ends before the octets do
--   next-header     .. its header is whole
--   next_head       .. and is what is read there
--   next_ranges     .. its numbers are in range
--   next_whole      .. it is whole
--   next_few        .. and its channel is one of at most 16
--
-- Assumes nothing.
use mathlib.Core.Path.{◌≡◌, refl, sym, ap, ap₂, subst, ◌∙◌}
use mathlib.Core.Bool.{true, false}
use mathlib.Core.List.{List, [], ◌∷◌, ◌++◌, append-nil, reverse, reverse_aux, reverse-cons}
use Rattle.std.specs.Prelude.{Some, Result, Ok, Err, is_ok}
use Rattle.octets.specs.Tests.{never}
use Rattle.calls.specs.declared.Refusal.{Refusal}
use Prim.Native.Nat.{ℕ, ◌+◌, ◌≤◌, ◌<◌}
use native.Mathlib.Omega.{arith}
use lib.ListN.{length, take, drop, length-reverse, take-append-drop, length-drop}
use lib.Seq.{take_all}
use Rattle.octets.specs.High.{Fit}
use Rattle.record.specs.Recorded.{Recorded, Octets, Ranges, InRange, flat}
use Rattle.record.specs.Layout.{header_widths, header_octets, size, Stored, stored_octets, laid}
use Rattle.record.specs.Trailer.{insert, used, most_channels}
use Rattle.record.specs.Walk.{PlacesAre, Inserts, head_numbers, HeaderIs, units_of, AllStored, Fits, SurveyIs}
use Rattle.record.specs.declared.places.Places.{Places}
use Rattle.record.specs.declared.unit.Header.{Header}
use Rattle.record.proofs.OctetParts.{part_octets}
use Rattle.record.proofs.Laying.{flat_append, laid_front, ranges-append}
use Rattle.record.proofs.Backing.{units-append, units-turned}
use Rattle.record.proofs.Ranking.{used-longer}
use Rattle.record.proofs.Standing.{HeadIs, head_is, end-here, stored_at, stored-octets, stands}

pub record Seen (b : List ℕ) (at n : ℕ) (p : Places) : Type 0 where
  pub past : List Stored
  pub front : take at b ≡ laid (reverse past)
  pub ranges : AllStored (reverse past)
  pub here : at ≤ length b
  pub places : PlacesAre (used (units_of past)) [] p
  pub count : n ≡ length past
  pub below : n ≤ at

pub seen_none : (b : List ℕ) (p : Places) → PlacesAre [] [] p → Seen b 0 0 p
unfolding flat used
seen_none b p h = record { past = []; front = refl; ranges = tt; here = omega arith; places = h; count = refl; below = omega arith }

pub here_range : (b : List ℕ) (at : ℕ) (h : Header) → Octets b → at + header_octets + h.numbers.length ≤ length b → Fit header_widths (head_numbers h)
    → Ranges h.numbers.badge h.numbers.changed h.numbers.length → InRange (stored_at b at h).unit × ((stored_at b at h).back < 4294967296)
here_range b at h octets fits fit r = (
  record {
    channel_is = fit.0;
    ranges = subst (Ranges h.numbers.badge h.numbers.changed) (sym (stored-octets b at h fits)) r;
    octets_are = part_octets b (at + header_octets) h.numbers.length octets;
  },
  fit.1.1.1.1.0,
)

pub inserted : (p q : Places) (c : ℕ) (r : Result (Unit {0}) Refusal) → true ≡ is_ok r → Inserts p c r q → Inserts p c (Ok tt) q
inserted p q c (Ok _) e f = f
inserted p q c (Err _) e f = never (cc)

pub not_inserted : (p q : Places) (c : ℕ) (r : Result (Unit {0}) Refusal) → false ≡ is_ok r → Inserts p c r q → (cs : List ℕ) → PlacesAre cs [] p
    → most_channels < length (insert c cs)
not_inserted p q c (Ok _) e f = never (cc)
not_inserted p q c (Err _) e f = f.1

module _ {b : List ℕ} {at n : ℕ} {p : Places} (s : Seen b at n p) (h : Header) (is : HeaderIs (take header_octets (drop at b)) h) where
  pub seen_next : Octets b → at + header_octets + h.numbers.length ≤ length b → Ranges h.numbers.badge h.numbers.changed h.numbers.length
      → {q : Places} → Inserts p h.numbers.channel (Ok tt) q → Seen b (at + header_octets + h.numbers.length) (n + 1) q
  unfolding flat used
  seen_next octets fits r {q} f =
      let v = stored_at b at h in
      record {
        past = v ∷ s.past;
        front = stands b at h fits is.octets ∙ ap₂ (λ (k l : List ℕ). k ++ l) s.front (sym (append-nil (stored_octets v)))
            ∙ sym (flat_append stored_octets (reverse s.past) (v ∷ [])) ∙ ap laid (sym (reverse-cons v s.past));
        ranges = subst AllStored (sym (reverse-cons v s.past))
            (ranges-append (reverse s.past) (v ∷ []) s.ranges (here_range b at h octets fits is.fit r, tt));
        here = fits;
        places = f (used (units_of s.past)) s.places;
        count = omega (arith, s.count);
        below = omega (arith, s.below);
      }

pub seen_all : {b : List ℕ} {at n : ℕ} {p : Places} → Seen b at n p → length b ≤ at → SurveyIs b (Some (record { units = n; places = p }))
seen_all {b} {at} {n} {p} s all = (reverse s.past, fits, subst (λ (cs : List Recorded). PlacesAre (used cs) [] p) units s.places, count)
  where
    units : units_of s.past ≡ reverse (units_of (reverse s.past))
    units = sym (ap reverse (sym (append-nil (units_of (reverse s.past)))) ∙ units-turned s.past [])

    fits : Fits (reverse s.past) b
    fits = record {
      octets = sym (take_all at b all) ∙ s.front;
      ranges = s.ranges;
      few = subst (λ (cs : List Recorded). length (used cs) ≤ most_channels) units s.places.few;
    }

    count : n ≡ length (reverse s.past)
    count = s.count ∙ sym (length-reverse s.past)

-- ---- why there are none

pub record Next (b : List ℕ) (at : ℕ) (past qs : List Stored) : Type 0 where
  pub first : Stored
  pub rest : List Stored
  pub list : qs ≡ reverse past ++ first ∷ rest
  pub octets : drop at b ≡ stored_octets first ++ laid rest
  pub range : InRange first.unit × (first.back < 4294967296)

ranges-behind : (ps qs : List Stored) → AllStored (ps ++ qs) → AllStored qs
ranges-behind [] qs r = r
ranges-behind (p ∷ ps) qs r = ranges-behind ps qs r.1

pub next_stored : {b : List ℕ} {at n : ℕ} {p : Places} (s : Seen b at n p) → at < length b → (qs : List Stored) → Fits qs b → Next b at s.past qs
unfolding flat
next_stored {b = b} {at = at} s more qs f =
    let split = laid_front (reverse s.past) qs (drop at b) s.ranges f.ranges
    (ap (λ (l : List ℕ). l ++ drop at b) (sym s.front) ∙ take-append-drop at b ∙ f.octets) in
    by split.0 split.1 split.2
  where
    by : (rest : List Stored) → qs ≡ reverse s.past ++ rest → drop at b ≡ laid rest → Next b at s.past qs
    by [] e l = absurd (omega (arith, length-drop at b, ap length l))
    by (q ∷ rest) e l = record {
      first = q;
      rest = rest;
      list = e;
      octets = l;
      range = (ranges-behind (reverse s.past) (q ∷ rest) (subst AllStored e f.ranges)).0;
    }

module _ {b : List ℕ} {at : ℕ} {past qs : List Stored} (x : Next b at past qs) (here : at ≤ length b) where
  end : at + size x.first.unit + length (laid x.rest) ≡ length b
  end = end-here b at x.first (laid x.rest) x.octets here

  pub next-header : at + header_octets ≤ length b
  next-header = omega (arith, end)

  module _ (h : Header) (is : HeaderIs (take header_octets (drop at b)) h) where
    pub next_head : HeadIs h x.first
    next_head = head_is b at x.first (laid x.rest) x.octets h x.range is

    pub next_ranges : Ranges h.numbers.badge h.numbers.changed h.numbers.length
    next_ranges = rw (next_head.badge_is, next_head.changed_is, next_head.length_is) x.range.0.ranges

    pub next_whole : at + header_octets + h.numbers.length ≤ length b
    next_whole = omega (arith, end, next_head.length_is)

    pub next_few : length (used (reverse (units_of qs))) ≤ most_channels → length (insert h.numbers.channel (used (units_of past))) ≤ most_channels
    unfolding used
    next_few few =
        subst (λ (c : ℕ). length (insert c (used (units_of past))) ≤ most_channels) (sym next_head.channel_is) (omega (arith, longer, few))
      where
        turned : reverse (units_of qs) ≡ reverse_aux (units_of x.rest) (x.first.unit ∷ units_of past)
        turned =
            ap (λ (l : List Stored). reverse (units_of l)) x.list ∙ ap reverse (units-append (reverse past) (x.first ∷ x.rest))
            ∙ units-turned past (x.first.unit ∷ units_of x.rest)

        longer : length (insert x.first.unit.channel (used (units_of past))) ≤ length (used (reverse (units_of qs)))
        longer = rw turned (used-longer (units_of x.rest) (x.first.unit ∷ units_of past))
