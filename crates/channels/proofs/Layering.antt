-- AL2 by channel, in each case, at the place p that the search gave.
--
--   sending-refused   AL2 refuses the unit: nothing is changed
--   sending-sent      AL2 sends it: the channel's number rises
--   taken_by           what AL2's own end of receiving leads to, at a place
--   taking-by         else it goes by what AL2 says of the unit
--
-- Assumes nothing.
use mathlib.Core.Path.{◌≡◌, ap, ◌∙◌}
use mathlib.Core.Bool.{Bool}
use mathlib.Core.List.{List}
use Prim.Native.Nat.{ℕ, ◌<◌}
use borrow.Author.Tests.{lt-ltb}
use Rattle.calls.specs.Refusal.{Told, refused, told, Ended, ended, leaving, refusing}
use Rattle.calls.proofs.Laws.{checked_through}
use Rattle.adaptation.specs.AL2.{number_as, risen, send_tests, read_tests, sent, received, Receipt, due_by}
use Rattle.adaptation.proofs.Laws.{sent-leaves}
use Rattle.channels.specs.declared.Channel.{Channel}
use Rattle.channels.specs.declared.Channels.{Channels}
use Rattle.channels.specs.Channels.{place_count, place_of, channel_at, put, numbering}
use Rattle.channels.specs.Layers.{SendLent, expecting, sending, taking}

-- what AL2's own end leads to, at place p
sent_by : SendLent → (p : ℕ) → Channel → Ended ℕ (List ℕ) → Ended ℕ SendLent
sent_by x p c r = by r.answer
  where
    by : Told ℕ → Ended ℕ SendLent
    by (refused k) = refusing x k
    by (told n) = leaving n (record { channels = put x.channels p c; output = r.left })

abbrev pub taken_by : Channels → (p : ℕ) → Channel → Told Receipt → Ended Receipt Channels
taken_by s p c (refused k) = refusing s k
taken_by s p c (told r) = leaving r (put s p (expecting c (due_by r)))

module _ (x : SendLent) (n : ℕ) (numbered : Bool) (u : List ℕ) (p : ℕ) (e : p ≡ place_of x.channels n) where
  module _ (h : p < place_count) (out : List ℕ) where
    abbrev c : Channel
    c = channel_at x.channels p

    by : (r : Ended ℕ (List ℕ)) → r ≡ sent (number_as numbered c.numbers) u x.output → sent_by x p (numbering c (risen numbered c.numbers)) r ≡ sending x n numbered u
    unfolding sending sent sent_by
    by r f =
        ap (sent_by x p (numbering c (risen numbered c.numbers))) f
        ∙ checked_through (sent_by x p (numbering c (risen numbered c.numbers))) (refusing x.output) (send_tests (number_as numbered c.numbers) u x.output) _
        ∙ rw (← e, lt-ltb _ _ h)

    pub sending-refused : (k : ℕ) → ended (refused k) out ≡ sent (number_as numbered c.numbers) u x.output
        → refusing (record { channels = x.channels; output = out }) k ≡ sending x n numbered u
    unfolding sent_by
    sending-refused k f =
        ap (λ (o : List ℕ). refusing (record { channels = x.channels; output = o }) k) (sent-leaves (number_as numbered c.numbers) u x.output k out f)
        ∙ by (ended (refused k) out) f

    pub sending-sent : (k : ℕ) → ended (told k) out ≡ sent (number_as numbered c.numbers) u x.output
        → leaving k (record { channels = put x.channels p (numbering c (risen numbered c.numbers)); output = out }) ≡ sending x n numbered u
    unfolding sent_by
    sending-sent k f = by (ended (told k) out) f

module _ (s : Channels) (n : ℕ) (numbered : Bool) (w : List ℕ) (p : ℕ) (e : p ≡ place_of s n) where
  pub taking-by : p < place_count → (r : Told Receipt) → r ≡ received numbered w (channel_at s p).numbers.due → taken_by s p (channel_at s p) r
      ≡ taking s n numbered w
  unfolding taking received
  taking-by h r f =
      ap (taken_by s p (channel_at s p)) f ∙ checked_through (taken_by s p (channel_at s p)) refused (read_tests numbered w) _ ∙ rw (← e, lt-ltb _ _ h)
