-- Any two answers that a promise allows are equal, and so is what they leave in the channels and in what was lent.
--
--   multiplexed-once   to multiplexing, with the payload
--   demultiplexed-once to demultiplexing, with the octets held, the output and the list of units
--
-- Assumes nothing.
use mathlib.Core.Path.{◌≡◌, ap}
use mathlib.Core.Bool.{Bool}
use mathlib.Core.List.{List}
use Prim.Native.Nat.{ℕ}
use Rattle.std.specs.Prelude.{Result}
use Rattle.calls.specs.declared.Refusal.{Refusal}
use Rattle.calls.specs.Refusal.{ended, says}
use Rattle.calls.proofs.Laws.{both_say-once}
use Rattle.channels.specs.declared.Channels.{Channels}
use Rattle.multiplex.specs.declared.multiplexer.Payload.{Payload}
use Rattle.multiplex.specs.Multiplexer.{MuxLent, multiplexed}
use Rattle.multiplex.specs.Demultiplexer.{DemuxLent, demultiplexed}

pub multiplexed-once : (x : MuxLent) (w t : List ℕ) (c room : ℕ) (a b : Result Payload Refusal) (y z : Channels) (d e : List ℕ)
    → ended (says a) (record { channels = y; payload = d }) ≡ multiplexed x w t c room
    → ended (says b) (record { channels = z; payload = e }) ≡ multiplexed x w t c room
    → (a ≡ b) × (y ≡ z) × (d ≡ e)
multiplexed-once x w t c room a b y z d e p q =
    let f = both_say-once a b (record { channels = y; payload = d }) (record { channels = z; payload = e }) (multiplexed x w t c room) p q in
    (f.0, ap (λ (y : MuxLent). y.channels) f.1, ap (λ (y : MuxLent). y.payload) f.1)

abbrev lent : Channels → (held output units : List ℕ) → DemuxLent
lent s h o u = record { channels = s; held = h; output = o; units = u }

pub demultiplexed-once : (x : DemuxLent) (t : List ℕ) (c : ℕ) (mark : Bool) (xs : List ℕ) (a b : Result ℕ Refusal) (y z : Channels)
    (h o u h' o' u' : List ℕ) → ended (says a) (lent y h o u) ≡ demultiplexed x t c mark xs → ended (says b) (lent z h' o' u') ≡ demultiplexed x t c mark xs
    → (a ≡ b) × (y ≡ z) × (h ≡ h') × (o ≡ o') × (u ≡ u')
demultiplexed-once x t c mark xs a b y z h o u h' o' u' p q =
    let f = both_say-once a b (lent y h o u) (lent z h' o' u') (demultiplexed x t c mark xs) p q in (
      f.0,
      ap (λ (y : DemuxLent). y.channels) f.1,
      ap (λ (y : DemuxLent). y.held) f.1,
      ap (λ (y : DemuxLent). y.output) f.1,
      ap (λ (y : DemuxLent). y.units) f.1,
    )
