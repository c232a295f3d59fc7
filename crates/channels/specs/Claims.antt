-- What is claimed of the channels, over every state and every call on them; proofs/Theorems.antt proves each claim but SendingLeaves (Keeping).
--
--   Orderly s h       arrays of their lengths; no place holds more octets than it has, and only a segmentable channel holds any
--   Seated s          channel 0 is open and segmentable, no channel is open at two places, and a place that is free has nothing
--   Bounded s h w     .. orderly and seated, no place has more waiting than it has octets, AL2's numbers are octets and no more than 127 failed
--                     units are counted
--   StartBounded      so it is at first, whatever the arrays hold
--   KeepsBounds       .. and after each call on channels in the state s, h, w
--   CallsKeepBounds   .. so every call keeps the bounds
--   channel_of s n     the channel n of s
--   TakenAsSent       a unit that AL2 sent on a channel, with a number or none, and that is taken on one that expects the number which the
--                     first sends next, is handed up as sent: badge 0, nothing changed, none missing, whatever failed before; and again the
--                     second expects the number that the first sends next, and with a number its count of failed units is 0
--   SendingLeaves     AL2's sending leaves the whole at the front of the output, as many octets as it answers, and what stands behind it as it was
--   AfterUnique       any two answers that the promise of opening, closing or resetting allows are equal, the channels included
--   PostUnique        .. of posting, with the octets that wait
--   SendUnique        .. of sending by AL2, with the output
--   TakeUnique        .. of receiving by AL2
--   PromisesSay       what the promises of posting, of sending and of receiving by AL2 say of an answer: it is how that call ends
--
-- Assumes nothing.
use Rattle.std.specs.Prelude.{◌≡◌, Bool, true, false, cond, List, ℕ, ◌≤◌, ◌<◌, length, take, drop, Option, Result}
use Rattle.calls.specs.Refusal.{told, Ended, ended, leaving, says}
use Rattle.calls.specs.declared.Refusal.{Refusal}
use Rattle.adaptation.specs.AL2.{number_as, handed_up, whole, unit_of, received_says}
use Rattle.adaptation.specs.declared.al2.Due.{Due}
use Rattle.adaptation.specs.declared.al2.Delivery.{Delivery}
use Rattle.adaptation.specs.AL2Claims.{as_sent, NumbersInRange}
use Rattle.channels.specs.declared.Channel.{Channel}
use Rattle.channels.specs.declared.Channels.{Channels}
use Rattle.channels.specs.Channels.{place_count, place_octets, all_octets, vacant, start, place_of, is_in, channel_at, opened, closed, reset, posted, Posts}
use Rattle.channels.specs.Layers.{sending, SendsOn, taking, TakesOn}

pub record Orderly (s : Channels) (h : List ℕ) : Type 0 where
  pub full : length s.at ≡ place_count
  pub room : length h ≡ all_octets
  pub bounded : (p : ℕ) → (channel_at s p).held ≤ place_octets
  pub whole : (p : ℕ) → (channel_at s p).segmentable ≡ false → (channel_at s p).held ≡ 0

-- "Up to 16 channels are open, channel 0 always, segmentable" (document 01, "Demultiplexer"); that none is open twice is refusal 13, and that
-- a free place holds nothing, has nothing waiting and no numbers is what closing drops and opening starts with
pub record Seated (s : Channels) : Type 0 where
  pub control : is_in s 0 ≡ true
  pub segmentable : (channel_at s (place_of s 0)).segmentable ≡ true
  pub once : (p q : ℕ) → (channel_at s p).«open» ≡ true → (channel_at s q).«open» ≡ true → (channel_at s p).number.0 ≡ (channel_at s q).number.0 → p ≡ q
  pub free : (p : ℕ) → (channel_at s p).«open» ≡ false → channel_at s p ≡ vacant

pub record Bounded (s : Channels) (h w : List ℕ) : Type 0 where
  pub orderly : Orderly s h
  pub seated : Seated s
  pub waits : (p : ℕ) → (channel_at s p).waiting ≤ place_octets
  pub numbers : (p : ℕ) → NumbersInRange (channel_at s p).numbers
  pub space : length w ≡ all_octets

abbrev pub StartBounded : Type 0
StartBounded = (h w : List ℕ) → length h ≡ all_octets → length w ≡ all_octets → Bounded start h w

pub record KeepsBounds (s : Channels) (h w : List ℕ) : Type 0 where
  pub opening : (n : ℕ) (g : Bool) → Bounded (opened s n g).left h w
  pub closing : (n : ℕ) → Bounded (closed s n).left h w
  pub resetting : (n : ℕ) → Bounded (reset s n).left h w
  pub posting : (n : ℕ) (u : List ℕ) → Bounded (posted s w n u).left.channels h (posted s w n u).left.octets
  pub sending : (n : ℕ) (numbered : Bool) (u out : List ℕ) → Bounded (sending (record { channels = s; output = out }) n numbered u).left.channels h w
  pub taking : (n : ℕ) (numbered : Bool) (x : List ℕ) → Bounded (taking s n numbered x).left h w

abbrev pub CallsKeepBounds : Type 0
CallsKeepBounds = (s : Channels) (h w : List ℕ) → Bounded s h w → KeepsBounds s h w

-- ---- AL2 from channel to channel

abbrev pub channel_of : Channels → ℕ → Channel
channel_of s n = channel_at s (place_of s n)

abbrev pub TakenAsSent : Type 0
TakenAsSent =
    (s r t : Channels) (n m k : ℕ) (numbered : Bool) (u out after : List ℕ)
    → length s.at ≡ place_count → length r.at ≡ place_count → is_in r m ≡ true
    → (channel_of s n).numbers.sent < 256 → (channel_of r m).numbers.due.expected ≡ (channel_of s n).numbers.sent
    → sending (record { channels = s; output = out }) n numbered u ≡ leaving k (record { channels = t; output = after })
    → let e : Due = record { expected = (channel_of t n).numbers.sent; failed = cond numbered 0 (channel_of r m).numbers.due.failed } in
    ((taking r m numbered (take k after)).answer ≡ told (handed_up (as_sent u) 0 e)) × ((channel_of (taking r m numbered (take k after)).left m).numbers.due ≡ e)

abbrev pub SendingLeaves : Type 0
SendingLeaves =
    (s t : Channels) (n k : ℕ) (numbered : Bool) (u out after : List ℕ)
    → sending (record { channels = s; output = out }) n numbered u ≡ leaving k (record { channels = t; output = after })
    → let w = whole (number_as numbered (channel_of s n).numbers) u in (k ≡ length w) × (take k after ≡ w) × (drop k after ≡ drop k out)

-- ---- any two answers are equal

abbrev pub AfterUnique : Type 0
AfterUnique =
    (a b : Result (Unit {0}) Refusal) (s t : Channels) (z : Ended (Unit {0}) Channels)
    → ended (says a) s ≡ z → ended (says b) t ≡ z → (a ≡ b) × (s ≡ t)

abbrev pub PostUnique : Type 0
PostUnique =
    (s : Channels) (w : List ℕ) (n : ℕ) (u v t : List ℕ) (a b : Result (Unit {0}) Refusal) (x y : Channels)
    → Posts s w n u a x v → Posts s w n u b y t → (a ≡ b) × (x ≡ y) × (v ≡ t)

abbrev pub SendUnique : Type 0
SendUnique =
    (s : Channels) (out : List ℕ) (n : ℕ) (numbered : Bool) (u v t : List ℕ) (a b : Result ℕ Refusal) (x y : Channels)
    → SendsOn s n numbered u out a x v → SendsOn s n numbered u out b y t → (a ≡ b) × (x ≡ y) × (v ≡ t)

abbrev pub TakeUnique : Type 0
TakeUnique =
    (s : Channels) (n : ℕ) (numbered : Bool) (w : List ℕ) (a b : Result (Option Delivery) Refusal) (x y : Channels) → TakesOn s n numbered w a x
    → TakesOn s n numbered w b y → (a ≡ b) × (x ≡ y)

-- ---- what the promises say is how the calls end

pub record PromisesSay (s : Channels) (n : ℕ) (numbered : Bool) (u : List ℕ) : Type 0 where
  pub posts : (w v : List ℕ) (t : Channels) (r : Result (Unit {0}) Refusal) → Posts s w n u r t v
      → ended (says r) (record { channels = t; octets = v }) ≡ posted s w n u
  pub sends : (out v : List ℕ) (t : Channels) (r : Result ℕ Refusal) → SendsOn s n numbered u out r t v
      → ended (says r) (record { channels = t; output = v }) ≡ sending (record { channels = s; output = out }) n numbered u
  pub takes : (t : Channels) (r : Result (Option Delivery) Refusal) → TakesOn s n numbered u r t
      → ended (received_says r (unit_of numbered u) (channel_of s n).numbers.due) t ≡ taking s n numbered u
