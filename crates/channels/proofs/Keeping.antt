-- AL2's numbers stay in step from channel to channel.
--
--   channel-put     a channel put back with its seat is found there again
--   channel_else    .. and changes no other
--   IsSent          what a sending that is not refused leaves
--   sent_is         .. it does
--   taken_is        what a taking that is not refused answers, and what is due next
--   sending_leaves   .. so that it leaves the whole in front, and the rest as it was
--   taken_as-sent   a unit that is taken where its number is expected is handed up as sent, and the numbers are in step again
--
-- Assumes nothing.
use mathlib.Core.Path.{◌≡◌, refl, sym, ap, subst, ◌∙◌}
use mathlib.Core.Logic.{◌≢◌}
use mathlib.Core.Bool.{Bool, true, false, cond}
use mathlib.Core.List.{List}
use Prim.Native.Nat.{ℕ, ◌+◌, ◌%◌, ◌≤◌, ◌<◌}
use borrow.Author.Tests.{ltb-true, ltb-false, not-false}
use lib.ListN.{length, take, drop}
use Rattle.octets.specs.Written.{written, written_front, written_behind}
use native.Mathlib.Omega.{arith}
use Rattle.calls.specs.Refusal.{told, Ended, leaving, refusing, None}
use Rattle.calls.proofs.Laws.{told-refused, leaving-same, by_tests}
use Rattle.adaptation.specs.AL2.{number_as, risen, whole, is_sendable, Receipt, handed_up, due_by, received}
use Rattle.adaptation.specs.declared.al2.Due.{Due}
use Rattle.adaptation.specs.declared.al2.Numbers.{Numbers}
use Rattle.std.specs.Prelude.{Some}
use Rattle.adaptation.specs.AL2Claims.{as_sent}
use Rattle.adaptation.proofs.Laws.{next_in_order, plain_received}
use Rattle.channels.specs.declared.Channel.{Channel}
use Rattle.channels.specs.declared.Channels.{Channels}
use Rattle.channels.specs.Channels.{place_count, place_of, is_in, channel_at, put, numbering}
use Rattle.channels.specs.Layers.{SendLent, expecting, sending_tests, sending, taking}
use Rattle.channels.specs.Claims.{channel_of, TakenAsSent, SendingLeaves}
use Rattle.channels.proofs.Seats.{seat, place-seats, seats-put, place_unique, put-there, put-elsewhere}
use Rattle.channels.proofs.Layering.{taking-by}

pub channel-put : (s : Channels) (n : ℕ) (c : Channel) → length s.at ≡ place_count → place_of s n < place_count → seat c ≡ seat (channel_of s n)
    → channel_of (put s (place_of s n) c) n ≡ c
channel-put s n c full inside e =
    ap (λ (p : ℕ). channel_at (put s (place_of s n) c) p) (place-seats (put s (place_of s n) c) s (seats-put s (place_of s n) c e) n)
    ∙ put-there s full (place_of s n) c inside

pub channel_else : (s : Channels) (m n : ℕ) (c : Channel) → length s.at ≡ place_count → place_of s m < place_count → seat c ≡ seat (channel_of s m) → m ≢ n
    → channel_of (put s (place_of s m) c) n ≡ channel_of s n
channel_else s m n c full inside e f =
    ap (λ (p : ℕ). channel_at (put s (place_of s m) c) p) (place-seats (put s (place_of s m) c) s (seats-put s (place_of s m) c e) n)
    ∙ put-elsewhere s (place_of s m) (place_of s n) c (λ q. f (place_unique s full m n (place_of s m) inside refl q))

-- what becomes of a whole, with a number that is expected or with none
in_order : (numbered : Bool) (m : Numbers) (e : Due) (u : List ℕ) → m.sent < 256 → e.expected ≡ m.sent → is_sendable (number_as numbered m) u ≡ true
    → received numbered (whole (number_as numbered m) u) e
    ≡ told (handed_up (as_sent u) 0 (record { expected = (risen numbered m).sent; failed = cond numbered 0 e.failed }))
in_order true m e u l q h =
    subst (λ (i : ℕ). received true (whole (Some i) u) e ≡ told (handed_up (as_sent u) 0 (record { expected = (i + 1) % 256; failed = 0 }))) q
    (next_in_order u e (rw q l) (rw q h))
in_order false m e u l q h = plain_received u e h ∙ ap (λ (i : ℕ). told (handed_up (as_sent u) 0 (record { expected = i; failed = e.failed }))) q

written-rest : (d s : List ℕ) → length s ≤ length d → drop (length s) (written d 0 s) ≡ drop (length s) d
written-rest d s h = let e : 0 + length s ≡ length s = omega arith in ap (λ (m : ℕ). drop m (written d 0 s)) (sym e) ∙ written_behind d 0 s (omega arith) ∙ ap (λ (m : ℕ). drop m d) e

-- a unit that was sent
module _ (s : Channels) (n : ℕ) (numbered : Bool) (u out : List ℕ) where
  abbrev c : Channel
  c = channel_of s n

  abbrev w : List ℕ
  w = whole (number_as numbered c.numbers) u

  pub record IsSent (t : Channels) (after : List ℕ) (k : ℕ) : Type 0 where
    pub inside : place_of s n < place_count
    pub may : is_sendable (number_as numbered c.numbers) u ≡ true
    pub channels : t ≡ put s (place_of s n) (numbering c (risen numbered c.numbers))
    pub long : k ≡ length w
    pub octets : take k after ≡ w
    pub rest : drop k after ≡ drop k out

  pub sent_is : (t : Channels) (after : List ℕ) (k : ℕ)
      → sending (record { channels = s; output = out }) n numbered u ≡ leaving k (record { channels = t; output = after }) → IsSent t after k
  unfolding sending
  sent_is t after k =
      by_tests (λ (x : Ended ℕ SendLent). x ≡ leaving k (record { channels = t; output = after }) → IsSent t after k) (refusing lent)
      (sending_tests lent n numbered u) (leaving (length w) left) (λ i e. told-refused (ap (λ (x : Ended ℕ SendLent). x.answer) e) refl) is
    where
      lent : SendLent
      lent = record { channels = s; output = out }

      left : SendLent
      left = record { channels = put s (place_of s n) (numbering c (risen numbered c.numbers)); output = written out 0 w }

      is : None (sending_tests lent n numbered u) → leaving (length w) left ≡ leaving k (record { channels = t; output = after }) → IsSent t after k
      is (a, (b, (d, x))) e =
          let both = leaving-same (length w) k left (record { channels = t; output = after }) e in
          record {
            inside = ltb-true (place_of s n) place_count (not-false (is_in s n) a);
            may = not-false (is_sendable (number_as numbered c.numbers) u) b;
            channels = sym (ap (λ (y : SendLent). y.channels) both.1);
            long = sym both.0;
            rest = rw (← both.0, ← (ap (λ (y : SendLent). y.output) both.1)) (written-rest out w (ltb-false (length out) (length w) d));
            octets = rw (← both.0, ← (ap (λ (y : SendLent). y.output) both.1)) (written_front out w (ltb-false (length out) (length w) d));
          }

-- .. and taken
module _ (r : Channels) (m : ℕ) (numbered : Bool) (full : length r.at ≡ place_count) (here : is_in r m ≡ true) where
  pub taken_is : (w : List ℕ) (x : Receipt) → received numbered w (channel_of r m).numbers.due ≡ told x
      → ((taking r m numbered w).answer ≡ told x) × ((channel_of (taking r m numbered w).left m).numbers.due ≡ due_by x)
  taken_is w x q =
      let inside = ltb-true (place_of r m) place_count here in
      let e = taking-by r m numbered w (place_of r m) refl inside (told x) (sym q) in (
        sym (ap (λ (y : Ended Receipt Channels). y.answer) e),
        ap (λ (y : Ended Receipt Channels). (channel_of y.left m).numbers.due) (sym e)
            ∙ ap (λ (y : Channel). y.numbers.due) (channel-put r m (expecting (channel_of r m) (due_by x)) full inside refl),
      )

pub sending_leaves : SendingLeaves
sending_leaves s t n k numbered u out after e = let a = sent_is s n numbered u out t after k e in (a.long, a.octets, a.rest)

pub taken_as-sent : TakenAsSent
taken_as-sent s r t n m k numbered u out after fs fr here l e q =
    let a = sent_is s n numbered u out t after k q in
    let c = channel_of s n in
    let next : (channel_of t n).numbers.sent ≡ (risen numbered c.numbers).sent =
    ap (λ (y : Channels). (channel_of y n).numbers.sent) a.channels
    ∙ ap (λ (y : Channel). y.numbers.sent) (channel-put s n (numbering c (risen numbered c.numbers)) fs a.inside refl) in
    rw (next, a.octets) (taken_is r m numbered fr here _ _ (in_order numbered c.numbers (channel_of r m).numbers.due u l e a.may))
