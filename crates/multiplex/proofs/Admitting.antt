-- Refusal 8: a held unit would pass 1,024 octets.
--
--   fits_exactly     the claim FitsExactly
--
-- Assumes nothing.
use mathlib.Core.Path.{◌≡◌, refl, sym, ap, ◌∙◌}
use mathlib.Core.Bool.{Bool, true, false, cond, not, ◌||◌}
use mathlib.Core.List.{List, [], ◌∷◌}
use Prim.Native.Nat.{ℕ, ◌+◌, ◌≤◌, ◌<◌}
use native.Mathlib.Decide.{ℕ_discrete}
use native.Mathlib.Omega.{arith}
use borrow.Author.Tests.{eq-eqb, ne_eqb, leb-true, le-leb, ltb-true}
use lib.Dec.{leb}
use lib.ListN.{length}
use Rattle.octets.specs.Tests.{both_true, never}
use Rattle.table.specs.Slots.{Slot, numbers_of}
use Rattle.channels.specs.declared.Channel.{Channel}
use Rattle.channels.specs.declared.Channels.{Channels}
use Rattle.channels.specs.Channels.{place_count, place_octets, place_of, is_in, all_open, channel_at, put, holding}
use Rattle.channels.proofs.Laws.{place_unique, put-there, put-elsewhere, seats-put, seats, seats-length, seat-at, Seat}
use Rattle.multiplex.specs.Pieces.{placed}
use Rattle.multiplex.specs.Demultiplexer.{counted, has_room, fits}
use Rattle.multiplex.specs.Rules.{octets_on, FitsExactly}

octets-none : (n : ℕ) → octets_on n [] ≡ 0
unfolding octets_on
octets-none n = refl

-- a slot's octets are its own channel's
octets_own : (n : ℕ) (y : Slot) (l : List Slot) → y.channel ≡ n → octets_on n (y ∷ l) ≡ y.octets + octets_on n l
unfolding octets_on
octets_own n y l e = rw (eq-eqb y.channel n e)

octets-other : (n : ℕ) (y : Slot) (l : List Slot) → (y.channel ≡ n → ⊥) → octets_on n (y ∷ l) ≡ octets_on n l
unfolding octets_on
octets-other n y l f = rw (ne_eqb y.channel n f) (omega arith)

module _ (s : Channels) (full : length s.at ≡ place_count) where
  -- the channel n of s, as it is in r
  abbrev at : Channels → ℕ → Channel
  at r n = channel_at r (place_of s n)

  -- no held unit passes the octets of a place, once the slots l have come
  abbrev Stays : Channels → List Slot → Type 0
  Stays r l = (n : ℕ) → is_in s n ≡ true → (at s n).segmentable ≡ true → (at r n).held + octets_on n l ≤ place_octets

  -- one slot y of an open channel comes, before the slots l
  module _ (r : Channels) (alike : seats r ≡ seats s) (y : Slot) (known : place_of s y.channel < place_count) where
    abbrev p : ℕ
    p = place_of s y.channel

    abbrev next : Channels
    next = counted r p y.octets

    segments : (n : ℕ) → (at r n).segmentable ≡ (at s n).segmentable
    segments n = ap (λ (z : Seat). z.segmentable) (seat-at r s alike (place_of s n))

    next_alike : seats next ≡ seats s
    next_alike = by (channel_at r p).segmentable
      where
        by : (g : Bool) → seats (cond g (put r p (holding (channel_at r p) ((channel_at r p).held + y.octets))) r) ≡ seats s
        by true = seats-put r p _ refl ∙ alike
        by false = alike

    abbrev more : Channel
    more = holding (channel_at r p) ((channel_at r p).held + y.octets)

    -- what its channel holds then, and what another does
    held_more : (g : Bool) → g ≡ true → (channel_at (cond g (put r p more) r) p).held ≡ (channel_at r p).held + y.octets
    held_more true e = ap (λ (c : Channel). c.held) (put-there r (seats-length r s alike ∙ full) p more known)
    held_more false e = never (cc)

    held_same : (g : Bool) (j : ℕ) → (j ≡ p → ⊥) → (channel_at (cond g (put r p more) r) j).held ≡ (channel_at r j).held
    held_same true j off = ap (λ (c : Channel). c.held) (put-elsewhere r p j more off)
    held_same false j off = refl

    -- what is held then and still comes is what was held and came
    comes : (n : ℕ) (l : List Slot) → (at s n).segmentable ≡ true → Dec (y.channel ≡ n) → (at next n).held + octets_on n l ≡ (at r n).held + octets_on n (y ∷ l)
    comes n l g (yes e) =
        let q : place_of s n ≡ p = ap (place_of s) (sym e) in
        let h : (channel_at r p).segmentable ≡ true = ap (λ (j : ℕ). (channel_at r j).segmentable) (sym q) ∙ segments n ∙ g in
        let w = held_more (channel_at r p).segmentable h in
        rw q (omega (arith, w, octets_own n y l e))
    comes n l g (no f) =
        let w = held_same (channel_at r p).segmentable (place_of s n) (λ e. f (place_unique s full y.channel n p known refl e)) in
        omega (arith, w, octets-other n y l f)

    stays-next : (l : List Slot) → Stays r (y ∷ l) → Stays next l
    stays-next l h n i g = omega (arith, comes n l g (ℕ_discrete y.channel n), h n i g)

    stays-first : (l : List Slot) → Stays next l → Stays r (y ∷ l)
    stays-first l h n i g = omega (arith, comes n l g (ℕ_discrete y.channel n), h n i g)

    -- .. so that there is room for the slot
    stays-room : is_in s y.channel ≡ true → (l : List Slot) → Stays r (y ∷ l) → has_room r p y.octets ≡ true
    stays-room i l h = by (channel_at r p).segmentable refl
      where
        by : (b : Bool) → (channel_at r p).segmentable ≡ b → (not b || leb ((channel_at r p).held + y.octets) place_octets) ≡ true
        by true e =
            let w = h y.channel i (sym (segments y.channel) ∙ e) in
            le-leb ((channel_at r p).held + y.octets) place_octets (omega (arith, w, octets_own y.channel y l refl))
        by false e = refl

    -- .. and if there is, it stays so on the slot's own channel too
    room-stays : Stays r [] → has_room r p y.octets ≡ true → Stays r (y ∷ [])
    room-stays h room n i g = by (ℕ_discrete y.channel n)
      where
        open-room : (b : Bool) → b ≡ true → (not b || leb ((channel_at r p).held + y.octets) place_octets) ≡ true → (channel_at r p).held + y.octets ≤ place_octets
        open-room true e q = leb-true _ _ q
        open-room false e q = never (cc)

        by : Dec (y.channel ≡ n) → (at r n).held + octets_on n (y ∷ []) ≤ place_octets
        by (yes e) =
            let q : place_of s n ≡ p = ap (place_of s) (sym e) in
            let w = open-room (channel_at r p).segmentable (ap (λ (j : ℕ). (channel_at r j).segmentable) (sym q) ∙ segments n ∙ g) room in
            rw q (omega (arith, w, octets_own n y [] e, octets-none n))
        by (no f) = omega (arith, h n i g, octets-other n y [] f)

  fits-stays : (l : List Slot) (r : Channels) → seats r ≡ seats s → all_open s (numbers_of l) ≡ true → Stays r [] → fits r (placed s l) ≡ true → Stays r l
  unfolding fits placed all_open
  fits-stays [] r alike a h f = h
  fits-stays (y ∷ l) r alike a h f =
      let i = both_true (is_in s y.channel) (all_open s (numbers_of l)) a in
      let known = ltb-true (place_of s y.channel) place_count i.0 in
      let t = both_true (has_room r (place_of s y.channel) y.octets) (fits (counted r (place_of s y.channel) y.octets) (placed s l)) f in
      stays-first r alike y known l
      (fits-stays l (counted r (place_of s y.channel) y.octets) (next_alike r alike y known) i.1
      (stays-next r alike y known [] (room-stays r alike y known h t.0)) t.1)

  stays-fits : (l : List Slot) (r : Channels) → seats r ≡ seats s → all_open s (numbers_of l) ≡ true → Stays r l → fits r (placed s l) ≡ true
  unfolding fits placed all_open
  stays-fits [] r alike a h = refl
  stays-fits (y ∷ l) r alike a h =
      let i = both_true (is_in s y.channel) (all_open s (numbers_of l)) a in
      let known = ltb-true (place_of s y.channel) place_count i.0 in
      rw (stays-room r alike y known i.0 l h)
      (stays-fits l (counted r (place_of s y.channel) y.octets) (next_alike r alike y known) i.1 (stays-next r alike y known l h))

pub fits_exactly : FitsExactly
fits_exactly s h l o a =
    (fits-stays s o.full l s refl a (λ n i g. omega (arith, o.bounded (place_of s n), octets-none n)), stays-fits s o.full l s refl a)
