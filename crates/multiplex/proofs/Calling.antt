-- Every call refuses by its list of tests, whatever the state.
--
--   calls_refuse     so it is
--
-- Assumes nothing.
use mathlib.Core.Path.{◌≡◌, refl, ap, ◌∙◌}
use mathlib.Core.List.{List}
use Prim.Native.Nat.{ℕ}
use Rattle.octets.specs.Tests.{never}
use Rattle.calls.specs.Refusal.{Told, refused, told, Ended, ended, Test, Refuses}
use Rattle.calls.proofs.Laws.{checked_refuses}
use Rattle.table.specs.Table.{replaced}
use Rattle.channels.specs.Channels.{Post, opened, closed, reset, posted}
use Rattle.channels.specs.Layers as layers
use Rattle.multiplex.specs.Demultiplexer.{DemuxLent, demultiplexed}
use Rattle.multiplex.specs.Multiplexer.{MuxLent, multiplexed}
use Rattle.multiplex.specs.Calls.{Link, with, Answer, telling, called_by}
use Rattle.multiplex.specs.Calls.{opening, closing, resetting, posting, replacing, demultiplexing, multiplexing, sending, taking}
use Rattle.multiplex.specs.Claims.{CallsRefuse}

-- an answer made of what is told is refused alike
telling-refuses : {A X : Type 0} (d : Ended A X) (l : List Test) (y : X) (f : A → Answer) (g : X → Link) (x : Link) → Refuses d l y → g y ≡ x
    → Refuses (ended (telling d.answer f) (g d.left)) l x
telling-refuses d l y f g x h e = record {
  exactly = λ k. (λ p. (h.exactly k).0 (back d.answer k p), λ p. ap (λ t. telling t f) ((h.exactly k).1 p));
  leaves = λ k p. ap g (h.leaves k (back d.answer k p)) ∙ e;
}
  where
    back : (t : Told _) (k : ℕ) → telling t f ≡ refused k → t ≡ refused k
    back (refused i) k p = cc
    back (told a) k p = never (cc)

pub calls_refuse : CallsRefuse
unfolding called_by opened closed reset posted replaced demultiplexed multiplexed layers.sending layers.taking
calls_refuse x (opening n g) = telling-refuses _ _ _ _ (with x) x (checked_refuses x.channels _ _ _) refl
calls_refuse x (closing n) = telling-refuses _ _ _ _ (with x) x (checked_refuses x.channels _ _ _) refl
calls_refuse x (resetting n) = telling-refuses _ _ _ _ (with x) x (checked_refuses x.channels _ _ _) refl
calls_refuse x (posting n u) =
    telling-refuses _ _ _ _ (λ (r : Post). record { channels = r.channels; held = x.held; waiting = r.octets; table = x.table }) x
    (checked_refuses (record { channels = x.channels; octets = x.waiting }) _ _ _) refl
calls_refuse x (replacing c s) =
    telling-refuses _ _ _ _ (λ (t : List ℕ). record { channels = x.channels; held = x.held; waiting = x.waiting; table = t }) x
    (checked_refuses x.table _ _ _) refl
calls_refuse x (demultiplexing c mark xs output units) =
    telling-refuses _ _ _ _ (λ (r : DemuxLent). record { channels = r.channels; held = r.held; waiting = x.waiting; table = x.table }) x
    (checked_refuses (record { channels = x.channels; held = x.held; output = output; units = units }) _ _ _) refl
calls_refuse x (multiplexing c room payload) =
    telling-refuses _ _ _ _ (λ (r : MuxLent). with x r.channels) x (checked_refuses (record { channels = x.channels; payload = payload }) _ _ _) refl
calls_refuse x (sending n numbered u output) =
    telling-refuses _ _ _ _ (λ (r : layers.SendLent). with x r.channels) x
    (checked_refuses (record { channels = x.channels; output = output }) _ _ _) refl
calls_refuse x (taking n numbered w) = telling-refuses _ _ _ _ (with x) x (checked_refuses x.channels _ _ _) refl
