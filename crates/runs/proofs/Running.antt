-- What an end does by itself keeps both directions of a run linked.
--
--   Pair              what is kept of two ends: equal tables, no refusal but for want of room, and either direction linked
--   pair-back         .. the other way about
--   layer_pair        it is kept where one end's channels differ in what is neither held nor waits,
--   none_pair         with nothing more on its way,
--   post_pair         after a post,
--   pay_pair          and after a payload is made
--
-- Assumes nothing.
use mathlib.Core.Path.{◌≡◌, refl, sym, subst}
use mathlib.Core.Bool.{false, not}
use mathlib.Core.List.{List, [], ◌∷◌, ◌++◌, append-nil}
use Prim.Native.Nat.{ℕ, ◌≤◌}
use native.Mathlib.Omega.{arith}
use borrow.Author.Tests.{ltb-true, ltb-false, leb-true, leb-false, not-false}
use lib.Dec.{leb, ltb}
use lib.ListN.{length, take}
use Rattle.octets.specs.Tests.{both_true}
use Rattle.octets.specs.Written.{written}
use Rattle.calls.specs.Refusal.{Ended, ended, leaving, refusing}
use Rattle.calls.proofs.Laws.{by_tests}
use Rattle.table.specs.Slots.{payload_slots}
use Rattle.table.specs.Table.{entry_of, is_defined, longest_payload}
use Rattle.adaptation.specs.Handed.{is_unit}
use Rattle.channels.specs.declared.Channels.{Channels}
use Rattle.channels.specs.Channels.{place_of, channel_at, is_in, post_tests, posted, Post, place_count, place_octets}
use Rattle.multiplex.specs.Pieces.{total}
use Rattle.multiplex.specs.declared.multiplexer.Payload.{Payload}
use Rattle.multiplex.specs.Multiplexer.{MuxLent, Walk, walked, gathered, multiplex_tests, multiplexed}
use Rattle.multiplex.specs.Units.{UnitOn}
use Rattle.multiplex.specs.Calls as call
use Rattle.multiplex.specs.Calls.{done, made, telling}
use Rattle.runs.specs.Runs.{Parcel, End}
use Rattle.runs.specs.Runs.{added, parcels_told, with, posting, sending}
use Rattle.runs.proofs.Same.{Same, held_count, waiting_count, same_self, same_back, same-put, same-walk}
use Rattle.runs.proofs.Accepting.{Made, payload-front}
use Rattle.runs.proofs.Linking.{Linked, LinkedEnds, linked_sender, linked_receiver, linked-post, linked_pay}

pub record Pair (R : ℕ → ℕ → Type 0) (a b : End) : Type 0 where
  pub tables : a.link.table ≡ b.link.table
  pub unrefused : a.refusals ≡ 0
  pub unrefused₁ : b.refusals ≡ 0
  pub there : LinkedEnds R a b
  pub back : LinkedEnds R b a

pub pair-back : {R : ℕ → ℕ → Type 0} {a b : End} → Pair R a b → Pair R b a
pair-back k = record { tables = sym k.tables; unrefused = k.unrefused₁; unrefused₁ = k.unrefused; there = k.back; back = k.there }

module _ {R : ℕ → ℕ → Type 0} {a b : End} (k : Pair R a b) where
  -- the one end's channels with the same seats, as much held and as much waiting
  pub layer_pair : (s : Channels) → Same waiting_count a.link.channels s → Same held_count a.link.channels s → Pair R (with a (call.with a.link s)) b
  layer_pair s e f = record {
    tables = k.tables;
    unrefused = k.unrefused;
    unrefused₁ = k.unrefused₁;
    there = linked_sender k.there e;
    back = linked_receiver k.back f;
  }

  -- with nothing more on its way
  pub none_pair : Pair R a (sending b [])
  none_pair = record {
    tables = k.tables;
    unrefused = k.unrefused;
    unrefused₁ = k.unrefused₁;
    there = subst (λ (l : List Parcel). Linked R b.link.table a.link.channels a.link.waiting a.posted l b.link.channels b.link.held b.delivered)
        (sym (append-nil b.coming)) k.there;
    back = k.back;
  }

-- ---- posting

module _ {R : ℕ → ℕ → Type 0} {a b : End} (k : Pair R a b) (n : ℕ) (u : List ℕ) where
  abbrev s : Channels
  s = a.link.channels

  abbrev unit : UnitOn
  unit = record { channel = n; octets = u }

  abbrev Posted : Ended (Unit {0}) Post → Type 0
  Posted r =
      Pair R (posting a unit
      (ended (telling r.answer (λ t. done))
      (record { channels = r.left.channels; held = a.link.held; waiting = r.left.octets; table = a.link.table }))) b

  unposted : (i : ℕ) → Posted (refusing (record { channels = s; octets = a.link.waiting }) i)
  unposted i = record {
    tables = k.tables;
    unrefused = k.unrefused;
    unrefused₁ = k.unrefused₁;
    there = subst (λ (l : List UnitOn). Linked R b.link.table s a.link.waiting l b.coming b.link.channels b.link.held b.delivered)
        (sym (append-nil a.posted)) k.there;
    back = k.back;
  }

  pub post_pair : Posted (posted s a.link.waiting n u)
  unfolding posted
  post_pair =
      by_tests Posted (refusing (record { channels = s; octets = a.link.waiting })) (post_tests s n u) _ unposted (λ none.
      let long : not (is_unit place_octets u) ≡ false = search none in
      let closed : not (is_in s n) ≡ false = search none in
      let some : leb 1 (channel_at s (place_of s n)).waiting ≡ false = search none in
      let two = both_true (leb 1 (length u)) (leb (length u) place_octets) (not-false (is_unit place_octets u) long) in
      let free : (channel_at s (place_of s n)).waiting ≡ 0 = omega (arith, leb-false 1 (channel_at s (place_of s n)).waiting some) in
      record {
        tables = k.tables;
        unrefused = k.unrefused;
        unrefused₁ = k.unrefused₁;
        there = linked-post k.there n u (leb-true 1 (length u) two.0) (leb-true (length u) place_octets two.1)
            (ltb-true (place_of s n) place_count (not-false (is_in s n) closed)) free;
        back = linked_receiver k.back (same_back held_count (same-put held_count s (place_of s n) _ refl refl));
      })

-- ---- paying

module _ {R : ℕ → ℕ → Type 0} {a b : End} (k : Pair R a b) (c room : ℕ) (payload : List ℕ) where
  abbrev t : List ℕ
  t = a.link.table

  abbrev lent : MuxLent
  lent = record { channels = a.link.channels; payload = payload }

  abbrev Paid : Ended Payload MuxLent → Type 0
  Paid r =
      Pair R (with a (call.with a.link r.left.channels))
      (sending b (added (telling r.answer (λ p. made p r.left.payload)) (parcels_told c)))

  abbrev walk : Walk
  walk = walked a.link.channels (payload_slots (entry_of t c) room)

  abbrev filled : List ℕ
  filled = written payload 0 (gathered a.link.channels a.link.waiting walk.pieces)

  -- the payload is on its way
  on-way : (m : Made a.link.channels t c room) (l : LinkedEnds R a b) → b.link.table ≡ t → room ≤ length payload
      → Linked R b.link.table walk.channels a.link.waiting a.posted
      (b.coming ++ record { code = c; mark = walk.mark; octets = take (total walk.pieces) filled } ∷ []) b.link.channels b.link.held b.delivered
  on-way m l e enough = rw (payload-front l.matched t c room m payload enough, e) (linked_pay (rw e at l) c room m)

  is_made : Made a.link.channels t c room → room ≤ length payload
      → Paid (leaving (record { octets = total walk.pieces; mark = walk.mark }) (record { channels = walk.channels; payload = filled }))
  is_made m enough = record {
    tables = k.tables;
    unrefused = k.unrefused;
    unrefused₁ = k.unrefused₁;
    there = on-way m k.there (sym k.tables) enough;
    back = linked_receiver k.back (same_back held_count (same-walk held_count (λ c k. refl) (payload_slots (entry_of t c) room) a.link.channels));
  }

  pub pay_pair : Paid (multiplexed lent a.link.waiting t c room)
  unfolding multiplexed
  pay_pair =
      by_tests Paid (refusing lent) (multiplex_tests lent t c room) _ (λ i. layer_pair (none_pair k) _ (same_self waiting_count _) (same_self held_count _)) (λ none.
      let e : ltb longest_payload room ≡ false = search none in
      let d : not (is_defined t c) ≡ false = search none in
      let f : ltb (length payload) room ≡ false = search none in
      let o : not walk.all_open ≡ false = search none in
      is_made (record { defined = not-false _ d; small = ltb-false longest_payload room e; known = not-false _ o }) (ltb-false (length payload) room f))
