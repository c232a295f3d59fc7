-- A channel's AL2 numbers over a run: AL2's calls alone change them.
--
--   on_channel f e n    what f gives of channel n at the end e
--   on_same            the same, where seats and what f gives are
--   on-opened          .. and after any channel was opened
--   post-keeps, pay-keeps, come-keeps   a post, a payload that is made and one that comes leave it
--
-- Assumes nothing.
use mathlib.Core.Path.{◌≡◌, refl, ap, ◌∙◌}
use mathlib.Core.Bool.{Bool}
use mathlib.Core.List.{List, [], ◌∷◌}
use Prim.Native.Nat.{ℕ, ◌≤◌, ◌<◌}
use native.Mathlib.Decide.{ℕ_discrete}
use borrow.Author.Tests.{ltb-false, leb-false}
use lib.ListN.{length}
use Rattle.calls.proofs.Laws.{by_test, checked_keeps}
use Rattle.table.specs.Slots.{payload_slots}
use Rattle.table.specs.Table.{entry_of}
use Rattle.channels.specs.declared.Channel.{Channel}
use Rattle.channels.specs.declared.Channels.{Channels}
use Rattle.channels.specs.Channels.{vacant, fresh, place_of, free_place, channel_at, put, opened, open_tests, post_tests, posted, Post, holding, waiting, place_count}
use Rattle.channels.specs.Claims.{channel_of}
use Rattle.channels.proofs.Laws.{place-seats, put-there, put-elsewhere, vacant-behind, place-new, place-old, place-not_free}
use Rattle.multiplex.specs.Pieces.{placed}
use Rattle.multiplex.specs.Demultiplexer.{DemuxLent, demultiplex_tests, demultiplexed}
use Rattle.multiplex.specs.Multiplexer.{MuxLent, multiplex_tests, multiplexed}
use Rattle.multiplex.specs.Calls as call
use Rattle.multiplex.specs.Calls.{ours, called_by, called}
use Rattle.runs.specs.Runs.{Parcel, End, lacks_room, taking, arriving}
use Rattle.runs.proofs.Same.{Same, same_self, same_at, same-put, same-walk, same-delivery}

abbrev pub on_channel : {A : Type 0} → (Channel → A) → End → ℕ → A
on_channel f e n = f (channel_of e.link.channels n)

module _ {A : Type 0} (f : Channel → A) where
  pub on_same : {s r : Channels} → Same f s r → (n : ℕ) → f (channel_of s n) ≡ f (channel_of r n)
  on_same {s} {r} e n = ap (λ (p : ℕ). f (channel_at s p)) (place-seats s r e.seated n) ∙ same_at f e (place_of r n)

  pub on-opened : ((m : ℕ) (g : Bool) → f (fresh m g) ≡ f vacant) → (s : Channels) → length s.at ≡ place_count → (m : ℕ) (g : Bool) (n : ℕ)
      → f (channel_of (opened s m g).left n) ≡ f (channel_of s n)
  unfolding opened
  on-opened new s full m g n =
      checked_keeps s (open_tests s m) (λ (r : Channels). f (channel_of r n) ≡ f (channel_of s n)) _ refl
      (λ none.
      let i = leb-false place_count (free_place s) none.1.0 in
      let u = ltb-false (place_of s m) place_count none.0 in
      by (ℕ_discrete m n) i u)
    where
      by : Dec (m ≡ n) → free_place s < place_count → place_count ≤ place_of s m
          → f (channel_of (put s (free_place s) (fresh m g)) n) ≡ f (channel_of s n)
      by (yes e) i u =
          rw (← e, place-new s full (free_place s) refl i m g u, put-there s full (free_place s) (fresh m g) i, vacant-behind s full (place_of s m) u) (new m g)
      by (no d) i u =
          rw (place-old s full (free_place s) refl i m g n d, put-elsewhere s (free_place s) (place_of s n) (fresh m g) (place-not_free s full (free_place s) refl i n))

  -- what an end does leaves it, where f is blind to what is held and what waits
  module _ (blind_w : (c : Channel) (k : ℕ) → f (waiting c k) ≡ f c) (blind_h : (c : Channel) (k : ℕ) → f (holding c k) ≡ f c) (e : End) where
    pub post-keeps : (m : ℕ) (u : List ℕ) → Same f (called e.link (call.posting m u)).left.channels e.link.channels
    unfolding called_by posted
    post-keeps m u =
        checked_keeps (record { channels = e.link.channels; octets = e.link.waiting }) (post_tests e.link.channels m u)
        (λ (r : Post). Same f r.channels e.link.channels) _ (same_self f _)
        (λ none. same-put f e.link.channels _ _ refl (blind_w (channel_at e.link.channels (place_of e.link.channels m)) (length u)))

    pub pay-keeps : (c room : ℕ) (payload : List ℕ) → Same f (called e.link (call.multiplexing c room payload)).left.channels e.link.channels
    unfolding called_by multiplexed
    pay-keeps c room payload =
        let lent : MuxLent = record { channels = e.link.channels; payload = payload } in
        checked_keeps lent (multiplex_tests lent e.link.table c room) (λ (r : MuxLent). Same f r.channels e.link.channels) _ (same_self f _)
        (λ none. same-walk f blind_w (payload_slots (entry_of e.link.table c) room) e.link.channels)

    demux-keeps : (c : ℕ) (mark : Bool) (xs output units : List ℕ)
        → Same f (called e.link (call.demultiplexing c mark xs output units)).left.channels e.link.channels
    unfolding called_by demultiplexed
    demux-keeps c mark xs output units =
        let lent : DemuxLent = record { channels = e.link.channels; held = e.link.held; output = output; units = units } in
        checked_keeps lent (demultiplex_tests lent e.link.table c mark xs) (λ (r : DemuxLent). Same f r.channels e.link.channels) _ (same_self f _)
        (λ none. same-delivery f blind_h e.link.channels e.link.held mark
        (placed e.link.channels (payload_slots (entry_of e.link.table c) (length xs))) xs)

    pub come-keeps : (l : List Parcel) (xs output units : List ℕ) → Same f (arriving (λ j. ours) e l xs output units).link.channels e.link.channels
    come-keeps [] xs output units = same_self f _
    come-keeps (q ∷ l) xs output units =
        let r = called e.link (call.demultiplexing q.code q.mark xs output units) in
        by_test (λ (a : End). Same f a.link.channels e.link.channels) (lacks_room r.answer) {x = e} {y = taking e l r} (λ b. same_self f _)
        (λ b. demux-keeps q.code q.mark xs output units)
