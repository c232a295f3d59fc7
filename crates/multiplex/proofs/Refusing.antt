-- Refusals 7, 8, 3 in their order, and what is left where none is given.
--
--   small_octets, small_units, small-not   the room that is lent is too small, or is not
--   delivered-mark     refusal 7
--   delivered-full     refusal 8
--   delivered-small    refusal 3
--   delivered-all      none
--
-- Assumes nothing.
use mathlib.Core.Path.{◌≡◌}
use mathlib.Core.List.{List}
use mathlib.Core.Bool.{Bool, true, false, not, ◌&&◌}
use Prim.Native.Nat.{ℕ, ◌≤◌, ◌<◌}
use borrow.Author.Tests.{lt-ltb, le-ltb}
use lib.ListN.{length}
use Rattle.calls.specs.Refusal.{leaving, refusing}
use Rattle.channels.specs.Channels.{channel_at}
use Rattle.multiplex.specs.Pieces.{Piece, last_place}
use Rattle.multiplex.specs.Demultiplexer.{Delivery, DemuxLent, fits, delivery, too_small, writes, delivered}

module _ (r : Delivery) (o u : List ℕ) where
  pub small_octets : length o < length r.octets → too_small r o u ≡ true
  small_octets h = rw (lt-ltb _ _ h)

  pub small_units : length r.octets ≤ length o → length u < length r.units → too_small r o u ≡ true
  small_units h k = rw (le-ltb _ _ h, lt-ltb _ _ k)

  pub small-not : length r.octets ≤ length o → length r.units ≤ length u → too_small r o u ≡ false
  small-not h k = rw (le-ltb _ _ h, le-ltb _ _ k)

module _ (x : DemuxLent) (mark : Bool) (l : List Piece) (xs : List ℕ) where
  abbrev wrong : Bool
  wrong = mark && not (channel_at x.channels (last_place l)).segmentable

  abbrev all : Delivery
  all = delivery x.channels x.held mark l xs

  pub delivered-mark : wrong ≡ true → delivered x mark l xs ≡ refusing x 7
  unfolding delivered
  delivered-mark e = rw e

  module _ (right : wrong ≡ false) where
    pub delivered-full : fits x.channels l ≡ false → delivered x mark l xs ≡ refusing x 8
    unfolding delivered
    delivered-full f = rw (right, f)

    module _ (fit : fits x.channels l ≡ true) where
      pub delivered-small : too_small all x.output x.units ≡ true → delivered x mark l xs ≡ refusing x 3
      unfolding delivered
      delivered-small e = rw (right, fit, e)

      pub delivered-all : too_small all x.output x.units ≡ false → delivered x mark l xs ≡ leaving all.count (writes all x.output x.units)
      unfolding delivered
      delivered-all e = rw (right, fit, e)
