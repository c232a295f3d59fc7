-- The calls that a run permits, by kind.
--
--   by_layer     what holds of each sending and taking of AL2 holds of every call by AL2
--   by_shared    what holds of each opening and each table change holds of every call that both ends make
--
-- Assumes nothing.
use mathlib.Core.Path.{◌≡◌}
use mathlib.Core.Bool.{Bool, true}
use mathlib.Core.List.{List}
use Prim.Native.Nat.{ℕ}
use Rattle.octets.specs.Tests.{never}
use Rattle.multiplex.specs.Calls.{Call, opening, closing, resetting, posting, replacing, demultiplexing, multiplexing, sending, taking}
use Rattle.runs.specs.Demand.{is_shared, is_by_layer}

module _ (P : Call → Type 0) where
  pub by_layer : ((n : ℕ) (numbered : Bool) (u out : List ℕ) → P (sending n numbered u out)) → ((n : ℕ) (numbered : Bool) (w : List ℕ) → P (taking n numbered w))
      → (c : Call) → is_by_layer c ≡ true → P c
  by_layer f g (opening n b) e = never (cc)
  by_layer f g (closing n) e = never (cc)
  by_layer f g (resetting n) e = never (cc)
  by_layer f g (posting n u) e = never (cc)
  by_layer f g (replacing c s) e = never (cc)
  by_layer f g (demultiplexing c mark xs output units) e = never (cc)
  by_layer f g (multiplexing c room payload) e = never (cc)
  by_layer f g (sending n numbered u out) e = f n numbered u out
  by_layer f g (taking n numbered w) e = g n numbered w

  pub by_shared : ((n : ℕ) (b : Bool) → P (opening n b)) → ((c : ℕ) (s : List ℕ) → P (replacing c s)) → (c : Call) → is_shared c ≡ true → P c
  by_shared f g (opening n b) e = f n b
  by_shared f g (closing n) e = never (cc)
  by_shared f g (resetting n) e = never (cc)
  by_shared f g (posting n u) e = never (cc)
  by_shared f g (replacing c s) e = g c s
  by_shared f g (demultiplexing c mark xs output units) e = never (cc)
  by_shared f g (multiplexing c room payload) e = never (cc)
  by_shared f g (sending n numbered u out) e = never (cc)
  by_shared f g (taking n numbered w) e = never (cc)
