-- AL2 by channel (document 01, "AL1 and AL2"; document 02, ticket 5): a channel's numbers are used and kept.
--
--   expecting c e     the channel c where e is due next
--   SendLent          what sending is lent to write to: the channels and the output
--   sending_tests      what refuses to send a unit on a channel, in this order
--   sending           how that ends: with its octets written, or a refusal
--   SendsOn           .. as the method answers, and leaves the channels and the output
--   taking_tests       what refuses to receive a unit on a channel, in this order
--   taking            how that ends: with what becomes of it, or a refusal
--   TakesOn           .. as the method answers it, and leaves the channels
--
-- Assumes nothing.
use Rattle.std.specs.Prelude.{◌≡◌, Bool, not, List, ◌∷◌, ℕ, length, Option, Result}
use Rattle.octets.specs.Written.{written}
use Rattle.calls.specs.Refusal.{Ended, ended, leaving, refusing, Test, ◌when◌, checked, says}
use Rattle.adaptation.specs.AL2.{number_as, risen, whole, send_tests, unit_of, read_tests, Receipt, due_by, receipt_of, received_says}
use Rattle.adaptation.specs.declared.al2.Due.{Due}
use Rattle.adaptation.specs.declared.al2.Delivery.{Delivery}
use Rattle.calls.specs.declared.Refusal.{Refusal}
use Rattle.channels.specs.declared.Channel.{Channel}
use Rattle.channels.specs.declared.Channels.{Channels}
use Rattle.channels.specs.Channels.{channel_at, place_of, is_in, put, numbering}

abbrev pub expecting : Channel → Due → Channel
expecting c e = numbering c (record { sent = c.numbers.sent; due = e })

pub record SendLent : Type 0 where
  pub channels : Channels
  pub output : List ℕ

abbrev pub sending_tests : SendLent → (n : ℕ) → (numbered : Bool) → List ℕ → List Test
sending_tests x n numbered u =
    5 when not (is_in x.channels n) ∷ send_tests (number_as numbered (channel_at x.channels (place_of x.channels n)).numbers) u x.output

unfoldable pub sending : SendLent → (n : ℕ) → (numbered : Bool) → List ℕ → Ended ℕ SendLent
sending x n numbered u =
    let p = place_of x.channels n in
    let c = channel_at x.channels p in
    let w = whole (number_as numbered c.numbers) u in
    checked (refusing x) (sending_tests x n numbered u)
    (leaving (length w) (record { channels = put x.channels p (numbering c (risen numbered c.numbers)); output = written x.output 0 w }))

abbrev pub SendsOn : Channels → (n : ℕ) → (numbered : Bool) → (unit output : List ℕ) → Result ℕ Refusal → Channels → List ℕ → Type 0
SendsOn s n numbered u out r t v =
    ended (says r) (record { channels = t; output = v }) ≡ sending (record { channels = s; output = out }) n numbered u

abbrev pub taking_tests : Channels → (n : ℕ) → (numbered : Bool) → List ℕ → List Test
taking_tests s n numbered w = 5 when not (is_in s n) ∷ read_tests numbered w

unfoldable pub taking : Channels → (n : ℕ) → (numbered : Bool) → List ℕ → Ended Receipt Channels
taking s n numbered w =
    let p = place_of s n in
    let c = channel_at s p in
    let r = receipt_of numbered w c.numbers.due in
    checked (refusing s) (taking_tests s n numbered w) (leaving r (put s p (expecting c (due_by r))))

-- the unit that is handed up is a part of the whole w
abbrev pub TakesOn : Channels → (n : ℕ) → (numbered : Bool) → (w : List ℕ) → Result (Option Delivery) Refusal → Channels → Type 0
TakesOn s n numbered w r t =
    ended (received_says r (unit_of numbered w) (channel_at s (place_of s n)).numbers.due) t ≡ taking s n numbered w
