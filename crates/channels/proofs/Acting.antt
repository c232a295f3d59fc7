-- What posting and AL2's calls on a channel do, and how the channels are at first.
--
--   start_is, posted_is, sending_is, taking_is, discard_is   the claims of specs/Effects.antt
--
-- Assumes nothing.
use mathlib.Core.Path.{◌≡◌, refl, ap, subst, ◌∙◌}
use mathlib.Core.Logic.{◌⊎◌, inl, inr, ⊎_elim}
use mathlib.Core.Bool.{Bool, true, false, cond}
use mathlib.Core.List.{List, []}
use Prim.Native.Nat.{ℕ, zero, suc, ◌+◌, ◌-◌, ◌*◌, ◌%◌, ◌≤◌, ◌<◌, min}
use native.Mathlib.Decide.{dec_lt}
use native.Mathlib.Omega.{arith}
use borrow.Author.Tests.{ne_eqb, ltb-true, leb-true, not-false}
use lib.Dec.{leb}
use lib.ListN.{length}
use Rattle.octets.specs.Tests.{both_true}
use Rattle.octets.specs.Written.{written, written_part}
use Rattle.octets.specs.Parts.{apart, part_elsewhere}
use Rattle.calls.specs.Refusal.{told, Ended, leaving, refusing}
use Rattle.calls.proofs.Laws.{told-refused, leaving-same, by_tests}
use Rattle.adaptation.specs.Handed.{is_unit}
use Rattle.adaptation.proofs.Laws.{discard_leaves, due_is}
use Rattle.adaptation.specs.AL2Claims.{as_sent}
use Rattle.adaptation.specs.AL2.{risen, Receipt, discarded, due_by, received, receipt_of}
use Rattle.adaptation.specs.declared.al2.Numbers.{Numbers}
use Rattle.channels.specs.declared.Channel.{Channel}
use Rattle.channels.specs.declared.Channels.{Channels}
use Rattle.channels.specs.Channels.{place_count, place_octets, all_octets, start, place_of, is_in, channel_at, put, waiting, numbering, waits, waiting_from, waiting_of, Post, post_tests, posted}
use Rattle.channels.specs.Layers.{expecting, taking_tests, taking}
use Rattle.channels.specs.Search.{first}
use Rattle.channels.specs.Claims.{channel_of}
use Rattle.channels.specs.Effects.{OthersStay, StartIs, PostedIs, SendingIs, TakingIs, DiscardIs}
use Rattle.channels.proofs.Seats.{seat, seats-put, place-seats, place_unique, vacant-behind, put-there, put-elsewhere}
use Rattle.channels.proofs.Keeping.{channel-put, channel_else, sent_is}

pub start_is : StartIs
unfolding start place_of first
start_is zero = (refl, refl, refl)
start_is (suc n) = (rw (ne_eqb 0 (suc n) (λ z. omega arith), ne_eqb (suc n) 0 (λ z. omega arith)), refl, refl)

-- the channel n of s, put back with its seat
put_back : (s : Channels) (n : ℕ) (c : Channel) → length s.at ≡ place_count → place_of s n < place_count → seat c ≡ seat (channel_of s n)
    → (channel_of (put s (place_of s n) c) n ≡ c) × OthersStay s (put s (place_of s n) c) n
put_back s n c full inside e = (channel-put s n c full inside e, λ m f. channel_else s n m c full inside e f)

-- ---- posting

module _ (s : Channels) (w : List ℕ) (n : ℕ) (u : List ℕ) (full : length s.at ≡ place_count) (size : length w ≡ all_octets) (inside : place_of s n < place_count)
    (fits : length u ≤ place_octets) where
  abbrev p : ℕ
  p = place_of s n

  abbrev at : ℕ
  at = place_octets * p + (place_octets - length u)

  abbrev with : Channel
  with = waiting (channel_of s n) (length u)

  room : at + length u ≤ length w
  room = omega (arith, size)

  -- the place of a channel is as it was
  place : (m : ℕ) → place_of (put s p with) m ≡ place_of s m
  place m = place-seats (put s p with) s (seats-put s p with refl) m

  waits_here : waiting_of (put s p with) (written w at u) (place_of (put s p with) n) ≡ u
  waits_here =
      let e : min (length u) place_octets ≡ length u = omega arith in
      rw (place n, put-there s full p with inside, e) (written_part w at u room)

  waits_else : (m : ℕ) → (n ≡ m → ⊥) → Dec (place_of s m < place_count)
      → waiting_of (put s p with) (written w at u) (place_of (put s p with) m) ≡ waiting_of s w (place_of s m)
  waits_else m f (no out) =
      let e = vacant-behind s full (place_of s m) (omega arith) in
      let g = put-elsewhere s p (place_of s m) with (λ q. omega (arith, inside)) in
      rw (place m, g, e)
  waits_else m f (yes l) =
      let q = place_of s m in
      let off : q ≡ p → ⊥ = λ z. f (place_unique s full n m p inside refl z) in
      rw (place m, put-elsewhere s p q with off)
      (part_elsewhere w at u room (waits (channel_at s q)) (waiting_from (channel_at s q) q)
      (⊎_elim {C = (waiting_from (channel_at s q) q + waits (channel_at s q) ≤ at) ⊎ (at + length u ≤ waiting_from (channel_at s q) q)}
      (λ a. inl (omega arith)) (λ a. inr (omega arith)) (apart p q off)))

pub posted_is : PostedIs
unfolding posted
posted_is s w n u y full size =
    by_tests (λ (q : Ended (Unit {0}) Post). q ≡ leaving tt y → Done y) (refusing (record { channels = s; octets = w })) (post_tests s n u) _
    (λ k e. told-refused (ap (λ (q : Ended (Unit {0}) Post). q.answer) e) refl)
    (λ none e.
    let unit = both_true (leb 1 (length u)) (leb (length u) place_octets) (not-false (is_unit place_octets u) none.0) in
    let inside = ltb-true (place_of s n) place_count (not-false (is_in s n) none.1.0) in
    let fits = leb-true (length u) place_octets unit.1 in
    let q = put_back s n (with s w n u full size inside fits) full inside refl in
    subst Done (ap (λ (r : Ended (Unit {0}) Post). r.left) e)
    (waits_here s w n u full size inside fits, λ m f. waits_else s w n u full size inside fits m f (dec_lt (place_of s m) place_count), q.0, q.1))
  where
    Done : Post → Type 0
    Done y =
        (waiting_of y.channels y.octets (place_of y.channels n) ≡ u)
        × ((m : ℕ) → (n ≡ m → ⊥) → waiting_of y.channels y.octets (place_of y.channels m) ≡ waiting_of s w (place_of s m))
        × (channel_of y.channels n ≡ waiting (channel_of s n) (length u)) × OthersStay s y.channels n

-- ---- AL2

risen-is : (numbered : Bool) (m : Numbers) → risen numbered m ≡ record { sent = cond numbered ((m.sent + 1) % 256) m.sent; due = m.due }
risen-is true m = refl
risen-is false m = refl

pub sending_is : SendingIs
sending_is s t n k numbered u out after full e =
    let a = sent_is s n numbered u out t after k e in
    let c = channel_of s n in
    let q = put_back s n (numbering c (risen numbered c.numbers)) full a.inside refl in
    rw a.channels (q.0 ∙ ap (numbering c) (risen-is numbered c.numbers), q.1)

pub taking_is : TakingIs
unfolding taking received
taking_is s t n numbered w r full =
    by_tests (λ (q : Ended Receipt Channels). q ≡ leaving r t → Done r t) (refusing s) (taking_tests s n numbered w) _
    (λ k e. told-refused (ap (λ (q : Ended Receipt Channels). q.answer) e) refl)
    (λ none e.
    let x = receipt_of numbered w (channel_of s n).numbers.due in
    let c = expecting (channel_of s n) (due_by x) in
    let inside = ltb-true (place_of s n) place_count (not-false (is_in s n) none.0) in
    let q = put_back s n c full inside refl in
    let same = leaving-same x r (put s (place_of s n) c) t e in
    let said : received numbered w (channel_of s n).numbers.due ≡ told x = rw none.1.0 in
    subst (λ (v : Channels). Done r v) same.1 (subst (λ (v : Receipt). Done v (put s (place_of s n) c)) same.0 (said, q.0, q.1)))
  where
    Done : Receipt → Channels → Type 0
    Done x v =
        (received numbered w (channel_of s n).numbers.due ≡ told x)
        × (channel_of v n ≡ expecting (channel_of s n) (due_by x)) × OthersStay s v n

pub discard_is : DiscardIs
discard_is s t n k numbered w e full q =
    let r = taking_is s t n numbered w (discarded k e) full q in
    let d = discard_leaves numbered w (channel_of s n).numbers.due e k r.0 in
    (d.0, r.1 ∙ ap (expecting (channel_of s n)) ((due_is (as_sent []) k e).1 ∙ d.1), r.2)
