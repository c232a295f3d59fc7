-- What the multiplexer sends and what still waits are together what waited.
--
--   left-seats        channels whose pieces were sent have the seats that they had
--   walk-left         a walk leaves the channels as its pieces, sent, do
--   waiting-left      what waits at a place once k octets are sent: what was behind them
--   waiting-length    there are as many as the channel says
--   slots-sent        the octets of open channels' slots, and what then waits
--   going-append      of octets in two parts, those of channel n
--   copies_length     a channel as often as is said
--   channels-length   there is a channel for each octet of slots
--   sent-once         the claim
--
-- Assumes nothing.
use mathlib.Core.Path.{◌≡◌, refl, sym, ap, ap₂, subst, ◌∙◌}
use mathlib.Core.Logic.{◌≢◌}
use mathlib.Core.Bool.{Bool, true, false, cond}
use mathlib.Core.List.{List, [], ◌∷◌, ◌++◌, append_assoc}
use Prim.Native.Nat.{ℕ, zero, suc, ◌+◌, ◌*◌, ◌-◌, ◌≤◌, ◌<◌, min}
use native.Mathlib.Decide.{ℕ_discrete}
use native.Mathlib.Omega.{arith}
use borrow.Author.Tests.{eq-eqb, ne_eqb, ltb-true}
use lib.Dec.{eqb}
use lib.ListN.{length, take, drop, length-append, length-take, length-drop, take-append-drop}
use lib.Seq.{length-take-le, take-append_seam, drop-append_seam}
use Rattle.octets.specs.Tests.{both_true}
use Rattle.octets.specs.Parts.{part-next}
use Rattle.octets.specs.Written.{written}
use Rattle.calls.specs.Refusal.{Told, told, Ended, leaving, refusing}
use Rattle.calls.proofs.Laws.{by_tests, told-refused}
use Rattle.table.specs.Slots.{Slot, copies, cut, payload_slots, octets_of, channels_of, numbers_of}
use Rattle.table.specs.Table.{entry_of}
use Rattle.table.proofs.Laws.{payload_slots_filled, payload_slots_most, payload_slots-cut, cut_octets}
use Rattle.channels.specs.declared.Channel.{Channel}
use Rattle.channels.specs.declared.Channels.{Channels}
use Rattle.channels.specs.Channels.{place_count, place_octets, all_octets, place_of, is_in, all_open, channel_at, waiting, waits, waiting_from, waiting_of}
use Rattle.channels.proofs.Laws.{seats, seats-put, seats-length, place-seats, place_unique, put-there, put-elsewhere}
use Rattle.multiplex.specs.Pieces.{Piece, placed, total}
use Rattle.multiplex.specs.declared.multiplexer.Payload.{Payload}
use Rattle.multiplex.specs.Multiplexer.{MuxLent, left, Walk, walked, gathered, multiplex_tests, multiplexed}
use Rattle.multiplex.specs.Walks.{turned, Sendable, left_all}
use Rattle.multiplex.specs.declared.multiplexer.Turn.{Turn}
use Rattle.multiplex.specs.declared.multiplexer.Turn.TheVariants.{Stop, On, Last}
use Rattle.multiplex.specs.Claims.{going_to, SentOnce}
use Rattle.multiplex.proofs.Records.{rest-stays}
use Rattle.multiplex.proofs.Walking.{by_turn, by_place, walked-sendable}
use Rattle.multiplex.proofs.Keeping.{going-first}
use Rattle.multiplex.proofs.Agreeing.{walk-agrees}

-- ---- the channels that a walk leaves

pub left-seats : (l : List Piece) (s : Channels) → seats (left_all s l) ≡ seats s
unfolding left_all
left-seats [] s = refl
left-seats (q ∷ l) s = left-seats l (left s q.place q.octets) ∙ seats-put s q.place _ refl

turn-left : (s : Channels) (p : ℕ) (rest : Channels → Walk) (t : Turn)
    → ((k : ℕ) → (rest (left s p k)).channels ≡ left_all (left s p k) (rest (left s p k)).pieces)
    → (by_turn s p rest t).channels ≡ left_all s (by_turn s p rest t).pieces
unfolding left_all
turn-left s p rest Stop more = refl
turn-left s p rest (On k) more = more k
turn-left s p rest (Last k) more = refl

pub walk-left : (l : List Slot) (s : Channels) → (walked s l).channels ≡ left_all s (walked s l).pieces
unfolding walked left_all
walk-left [] s = refl
walk-left (y ∷ l) s =
    let p = place_of s y.channel in
    by_place (λ v. v.channels ≡ left_all s v.pieces) s y l refl
    (λ h. turn-left s p (λ r. walked r l) (turned (channel_at s p) y.octets) (λ k. walk-left l (left s p k)))

-- ---- one piece

pub waiting-left : (c : Channel) (w : List ℕ) (p k : ℕ) → k ≤ waits c
    → take (waits (waiting c (waits c - k))) (drop (waiting_from (waiting c (waits c - k)) p) w) ≡ drop k (take (waits c) (drop (waiting_from c p) w))
waiting-left c w p k most =
    let e : min (waits c - k) place_octets ≡ waits c - k = omega arith in
    let f : place_octets * p + (place_octets - (waits c - k)) ≡ waiting_from c p + k = omega arith in
    rw (e, f) (part-next k (waits c) (waiting_from c p) w most)

pub going-append : (n : ℕ) (ms ns ys xs : List ℕ) → length ms ≡ length ys → going_to n (ms ++ ns) (ys ++ xs) ≡ going_to n ms ys ++ going_to n ns xs
unfolding going_to
going-append n [] ns [] xs e = refl
going-append n [] ns (y ∷ ys) xs e = absurd (omega arith)
going-append n (m ∷ ms) ns [] xs e = absurd (omega arith)
going-append n (m ∷ ms) ns (y ∷ ys) xs e = by (eqb m n) (going-append n ms ns ys xs (omega arith))
  where
    by : (b : Bool) → going_to n (ms ++ ns) (ys ++ xs) ≡ going_to n ms ys ++ going_to n ns xs
        → cond b (y ∷ going_to n (ms ++ ns) (ys ++ xs)) (going_to n (ms ++ ns) (ys ++ xs)) ≡ cond b (y ∷ going_to n ms ys) (going_to n ms ys) ++ going_to n ns xs
    by true f = ap (λ (l : List ℕ). y ∷ l) f
    by false f = f

pub waiting-length : (c : Channel) (w : List ℕ) (p : ℕ) → p < place_count → length w ≡ all_octets → length (take (waits c) (drop (waiting_from c p) w)) ≡ waits c
waiting-length c w p inside room =
    length-take (waits c) (drop (waiting_from c p) w) ∙ omega (arith, length-drop (waiting_from c p) w)

-- r gives the places, and s is how far the sending has come
module _ (w : List ℕ) (room : length w ≡ all_octets) (r : Channels) (full : length r.at ≡ place_count) (n : ℕ) where
  piece-length : (s : Channels) (p k : ℕ) → p < place_count → k ≤ waits (channel_at s p) → length (take k (waiting_of s w p)) ≡ k
  piece-length s p k inside most = length-take-le k (waiting_of s w p) (rw (waiting-length (channel_at s p) w p inside room) most)

  module _ (s : Channels) (alike : seats s ≡ seats r) (m k : ℕ) (inside : place_of r m < place_count) (most : k ≤ waits (channel_at s (place_of r m))) where
    abbrev p : ℕ
    p = place_of r m

    abbrev x : List ℕ
    x = take k (waiting_of s w p)

    piece_sent : Dec (m ≡ n) → cond (eqb m n) x [] ++ waiting_of (left s p k) w (place_of r n) ≡ waiting_of s w (place_of r n)
    piece_sent (yes e) =
        let q : place_of r n ≡ p = ap (place_of r) (sym e) in
        let c = channel_at s p in
        rw (eq-eqb m n e, q, put-there s (seats-length s r alike ∙ full) p (waiting c (waits c - k)) inside, waiting-left c w p k most)
        (take-append-drop k (waiting_of s w p))
    piece_sent (no f) =
        let off : place_of r n ≢ p = λ e. f (place_unique r full m n p inside refl e) in
        rw (ne_eqb m n f, put-elsewhere s p (place_of r n) (waiting (channel_at s p) (waits (channel_at s p) - k)) off)

    slot-sent : (ns xs rest : List ℕ) → going_to n ns xs ++ rest ≡ waiting_of (left s p k) w (place_of r n)
        → going_to n (copies k (m ∷ []) ++ ns) (x ++ xs) ++ rest ≡ waiting_of s w (place_of r n)
    slot-sent ns xs rest e =
        let size = piece-length s p k inside most in
        let f : take k (x ++ xs) ≡ x = ap (λ (j : ℕ). take j (x ++ xs)) (sym size) ∙ take-append_seam x xs in
        let g : drop k (x ++ xs) ≡ xs = ap (λ (j : ℕ). drop j (x ++ xs)) (sym size) ∙ drop-append_seam x xs in
        rw (going-first n m k ns (x ++ xs) (omega (arith, size, length-append x xs)), f, g, append_assoc (cond (eqb m n) x []) (going_to n ns xs) rest, e)
        (piece_sent (ℕ_discrete m n))

  pub slots-sent : (l : List Slot) (s : Channels) → seats s ≡ seats r → all_open r (numbers_of l) ≡ true → Sendable s (placed r l)
      → (length (gathered s w (placed r l)) ≡ octets_of l)
      × (going_to n (channels_of l) (gathered s w (placed r l)) ++ waiting_of (left_all s (placed r l)) w (place_of r n) ≡ waiting_of s w (place_of r n))
  unfolding all_open Sendable placed gathered channels_of octets_of left_all going_to
  slots-sent [] s alike a d = (refl, refl)
  slots-sent (y ∷ l) s alike a d =
      let p = place_of r y.channel in
      let k = y.octets in
      let x = take k (waiting_of s w p) in
      let known = both_true (is_in r y.channel) (all_open r (numbers_of l)) a in
      let inside = ltb-true p place_count known.0 in
      let c = channel_at s p in
      let rest = slots-sent l (left s p k) (seats-put s p (waiting c (waits c - k)) refl ∙ alike) known.1 d.2 in (
        length-append x (gathered (left s p k) w (placed r l)) ∙ omega (arith, piece-length s p k inside d.1, rest.0),
        slot-sent s alike y.channel k inside d.1 (channels_of l) (gathered (left s p k) w (placed r l))
            (waiting_of (left_all (left s p k) (placed r l)) w (place_of r n)) rest.1,
      )

-- ---- the call

-- what was accepted met none of the refusals, and leaves its walk
record Unrefused (x y : MuxLent) (w : List ℕ) (v : Walk) (p : Payload) : Type 0 where
  octets : total v.pieces ≡ p.octets
  channels : v.channels ≡ y.channels
  payload : written x.payload 0 (gathered x.channels w v.pieces) ≡ y.payload

is-accepted : (x y : MuxLent) (w t : List ℕ) (c room : ℕ) (p : Payload) → multiplexed x w t c room ≡ leaving p y
    → Unrefused x y w (walked x.channels (payload_slots (entry_of t c) room)) p
unfolding multiplexed
is-accepted x y w t c room p =
    by_tests (λ r. r ≡ leaving p y → Unrefused x y w v p) (refusing x) (multiplex_tests x t c room) (leaving made lent)
    (λ i e. told-refused (ap (λ (r : Ended Payload MuxLent). r.answer) e) refl)
    (λ rest e. record {
      octets = ap (λ (q : Payload). q.octets) (same-told made p (ap (λ (r : Ended Payload MuxLent). r.answer) e));
      channels = ap (λ (r : Ended Payload MuxLent). r.left.channels) e;
      payload = ap (λ (r : Ended Payload MuxLent). r.left.payload) e;
    })
  where
    v : Walk
    v = walked x.channels (payload_slots (entry_of t c) room)

    made : Payload
    made = record { octets = total v.pieces; mark = v.mark }

    lent : MuxLent
    lent = record { channels = v.channels; payload = written x.payload 0 (gathered x.channels w v.pieces) }

    same-told : (a b : Payload) → ◌≡◌ {A = Told Payload} (told a) (told b) → a ≡ b
    same-told a b e = cc

pub copies_length : (k m : ℕ) → length (copies k (m ∷ [])) ≡ k
unfolding copies
copies_length zero m = refl
copies_length (suc k) m = ap suc (copies_length k m)

pub channels-length : (l : List Slot) → length (channels_of l) ≡ octets_of l
unfolding channels_of octets_of
channels-length [] = refl
channels-length (y ∷ l) =
    length-append (copies y.octets (y.channel ∷ [])) (channels_of l) ∙ omega (arith, copies_length y.octets y.channel, channels-length l)

pub sent-once : SentOnce
sent-once x y w t c room n p full size e =
    let s = x.channels in
    let entry = entry_of t c in
    let l = payload_slots entry room in
    let v = walked s l in
    let u = is-accepted x y w t c room p e in
    let a = walk-agrees l s s (payload_slots_filled entry room) refl in
    let k = p.octets in
    let most : k ≤ room = omega (arith, u.octets, a.within, payload_slots_most entry room) in
    let cuts : cut (total v.pieces) l ≡ payload_slots entry k
    = payload_slots-cut entry (total v.pieces) room ∙ ap (payload_slots entry) (omega (arith, u.octets, most)) in
    let octets : octets_of (payload_slots entry k) ≡ k = ap octets_of (sym cuts) ∙ cut_octets (total v.pieces) l ∙ omega (arith, u.octets, a.within) in
    let pieces : placed s (payload_slots entry k) ≡ v.pieces = ap (placed s) (sym cuts) ∙ a.same in
    let sends = slots-sent w size s full n (payload_slots entry k) s refl (ap (λ (z : List Slot). all_open s (numbers_of z)) (sym cuts) ∙ a.opened)
    (subst (Sendable s) (sym pieces) (walked-sendable s l)) in
    let size-sent : length (gathered s w v.pieces) ≡ k
    = ap (λ (z : List Piece). length (gathered s w z)) (sym pieces) ∙ sends.0 ∙ octets in
    let sent : take k y.payload ≡ gathered s w v.pieces
    = ap₂ (λ (j : ℕ) (z : List ℕ). take j z) (sym size-sent) (sym u.payload) ∙ take-append_seam (gathered s w v.pieces) _ in
    let ns = channels_of (payload_slots entry k) in
    let now : y.channels ≡ left_all s (placed s (payload_slots entry k)) = sym u.channels ∙ walk-left l s ∙ ap (left_all s) (sym pieces) in
    let place : place_of y.channels n ≡ place_of s n
    = place-seats y.channels s (ap seats now ∙ left-seats (placed s (payload_slots entry k)) s) n in (
      channels-length (payload_slots entry k) ∙ octets,
      ap length sent ∙ size-sent,
      ap (λ (z : List ℕ). going_to n ns z ++ waiting_of y.channels w (place_of y.channels n)) (sent ∙ ap (gathered s w) (sym pieces))
          ∙ ap₂ (λ (z : Channels) (q : ℕ). going_to n ns (gathered s w (placed s (payload_slots entry k))) ++ waiting_of z w q) now place ∙ sends.1,
      ap (λ (z : List ℕ). drop k z) (sym u.payload) ∙ rest-stays x.payload (gathered s w v.pieces) k size-sent,
    )
