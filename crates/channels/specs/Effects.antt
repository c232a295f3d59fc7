-- What each call on channels does that is accepted, in document 01's words ("Demultiplexer", "AL1 and AL2"); proofs/Effects.antt proves the claims on
-- opening, closing and a reset, and proofs/Acting.antt the others.
--
--   OthersStay s t n   every other channel than n is in t as it was in s
--   OpenedIs           opening starts the channel empty, with AL2 numbers 0 and no failed unit counted, segmentable or not as it was given
--   ClosedIs           a channel that was closed is not open
--   StartIs            at first channel 0 is open, segmentable and empty, with AL2 numbers 0 and no failed unit counted, and no other is open; and a
--                      place that is free has nothing
--   PostedIs           the unit that was posted waits on its channel, and all else is as it was: what waits elsewhere, and the channels
--   SendingIs          AL2's sending raises the channel's number modulo 256 if units have one, and leaves all else
--   TakingIs           AL2's taking answers what AL2 says of the whole by what is due on the channel, keeps what is due next, and leaves all else
--   DiscardIs          a unit that is discarded as misdelivered tells none missing, and leaves the channel as it was, and all others
--   ResetIs            a reset empties what the channel holds and sets both its AL2 numbers and the count of failed units to 0; what waits stays
--
-- Assumes nothing.
use Rattle.std.specs.Prelude.{◌≡◌, Bool, true, false, cond, List, ℕ, ◌+◌, ◌%◌, eqb, length}
use Rattle.calls.specs.Refusal.{told, leaving}
use Rattle.adaptation.specs.AL2.{Receipt, discarded, due_by, received}
use Rattle.adaptation.specs.declared.al2.Due.{Due}
use Rattle.channels.specs.declared.Channels.{Channels}
use Rattle.channels.specs.Channels.{place_count, all_octets, vacant, start, place_of, is_in, waiting_of, opened, closed, reset, Post, posted}
use Rattle.channels.specs.Layers.{sending, taking}
use Rattle.channels.specs.Claims.{Seated, channel_of}

abbrev pub OthersStay : Channels → Channels → ℕ → Type 0
OthersStay s t n = (m : ℕ) → (n ≡ m → ⊥) → channel_of t m ≡ channel_of s m

abbrev pub OpenedIs : Type 0
OpenedIs =
    (s t : Channels) (n : ℕ) (g : Bool) → length s.at ≡ place_count → opened s n g ≡ leaving tt t
    → (channel_of t n
    ≡ record { «open» = true; segmentable = g; number = record { 0 = n }; held = 0; waiting = 0; numbers = record { sent = 0; due = record { expected = 0; failed = 0 } } })
    × OthersStay s t n

abbrev pub ClosedIs : Type 0
ClosedIs =
    (s t : Channels) (n : ℕ) → length s.at ≡ place_count → Seated s → closed s n ≡ leaving tt t → (is_in t n ≡ false) × OthersStay s t n

abbrev pub ResetIs : Type 0
ResetIs =
    (s t : Channels) (n : ℕ) → length s.at ≡ place_count → reset s n ≡ leaving tt t
    → (channel_of t n
    ≡ record {
      «open» = (channel_of s n).«open»;
      segmentable = (channel_of s n).segmentable;
      number = (channel_of s n).number;
      held = 0;
      waiting = (channel_of s n).waiting;
      numbers = record { sent = 0; due = record { expected = 0; failed = 0 } };
    })
    × OthersStay s t n

abbrev pub StartIs : Type 0
StartIs =
    (n : ℕ) → (is_in start n ≡ eqb n 0)
    × (channel_of start 0 ≡ record { «open» = true; segmentable = true; number = record { 0 = 0 }; held = 0; waiting = 0; numbers = record { sent = 0; due = record { expected = 0; failed = 0 } } })
    × (vacant
    ≡ record { «open» = false; segmentable = false; number = record { 0 = 0 }; held = 0; waiting = 0; numbers = record { sent = 0; due = record { expected = 0; failed = 0 } } })

abbrev pub PostedIs : Type 0
PostedIs =
    (s : Channels) (w : List ℕ) (n : ℕ) (u : List ℕ) (y : Post) → length s.at ≡ place_count → length w ≡ all_octets → posted s w n u ≡ leaving tt y
    → (waiting_of y.channels y.octets (place_of y.channels n) ≡ u)
    × ((m : ℕ) → (n ≡ m → ⊥) → waiting_of y.channels y.octets (place_of y.channels m) ≡ waiting_of s w (place_of s m))
    × (channel_of y.channels n
    ≡ record {
      «open» = (channel_of s n).«open»;
      segmentable = (channel_of s n).segmentable;
      number = (channel_of s n).number;
      held = (channel_of s n).held;
      waiting = length u;
      numbers = (channel_of s n).numbers;
    })
    × OthersStay s y.channels n

-- ---- AL2

abbrev pub SendingIs : Type 0
SendingIs =
    (s t : Channels) (n k : ℕ) (numbered : Bool) (u out after : List ℕ) → length s.at ≡ place_count
    → sending (record { channels = s; output = out }) n numbered u ≡ leaving k (record { channels = t; output = after })
    → (channel_of t n
    ≡ record {
      «open» = (channel_of s n).«open»;
      segmentable = (channel_of s n).segmentable;
      number = (channel_of s n).number;
      held = (channel_of s n).held;
      waiting = (channel_of s n).waiting;
      numbers = record {
        sent = cond numbered (((channel_of s n).numbers.sent + 1) % 256) (channel_of s n).numbers.sent;
        due = (channel_of s n).numbers.due;
      };
    })
    × OthersStay s t n

abbrev pub TakingIs : Type 0
TakingIs =
    (s t : Channels) (n : ℕ) (numbered : Bool) (w : List ℕ) (r : Receipt) → length s.at ≡ place_count → taking s n numbered w ≡ leaving r t
    → (received numbered w (channel_of s n).numbers.due ≡ told r)
    × (channel_of t n
    ≡ record {
      «open» = (channel_of s n).«open»;
      segmentable = (channel_of s n).segmentable;
      number = (channel_of s n).number;
      held = (channel_of s n).held;
      waiting = (channel_of s n).waiting;
      numbers = record { sent = (channel_of s n).numbers.sent; due = due_by r };
    })
    × OthersStay s t n

abbrev pub DiscardIs : Type 0
DiscardIs =
    (s t : Channels) (n k : ℕ) (numbered : Bool) (w : List ℕ) (e : Due) → length s.at ≡ place_count → taking s n numbered w ≡ leaving (discarded k e) t
    → (k ≡ 0) × (channel_of t n ≡ channel_of s n) × OthersStay s t n
