-- Where each call on channels is refused, exactly: worked out on the definitions alone.
--
--   of_channels     opening, closing, resetting and posting
--   of_layers       AL2 by channel
--
-- Assumes nothing.
use mathlib.Core.Path.{◌≡◌, refl}
use mathlib.Core.Logic.{◌↔◌}
use mathlib.Core.Bool.{Bool, false, not}
use mathlib.Core.List.{List}
use Prim.Native.Nat.{ℕ, ◌≤◌}
use lib.ListN.{length}
use Rattle.octets.specs.Exact.{chain, both_of, is_true, is_false, less, at_most, two-at_most, equal}
use Rattle.calls.proofs.Laws.{given_exactly}
use Rattle.adaptation.specs.Handed.{is_unit}
use Rattle.adaptation.proofs.Laws.{unit-not}
use Rattle.channels.specs.declared.Channels.{Channels}
use Rattle.channels.specs.Channels.{is_in, open_tests, close_tests, reset_tests, post_tests}
use Rattle.channels.specs.Layers.{SendLent, sending_tests, taking_tests}
use Rattle.channels.specs.Claims.{channel_of}
use Rattle.channels.specs.Exactly.{OfChannels, OfLayers}

unit_is : (u : List ℕ) → not (is_unit 1024 u) ≡ false ↔ ((1 ≤ length u) × (length u ≤ 1024))
unit_is u = chain (is_true (is_unit 1024 u)) (two-at_most 1 (length u) (length u) 1024)

pub of_channels : (s : Channels) (n : ℕ) (u : List ℕ) → OfChannels s n u
of_channels s n u = record {
  open13 = given_exactly 13 (open_tests s n) refl;
  close5 = chain (given_exactly 5 (close_tests s n) refl) (is_false (is_in s n));
  close14 = chain (given_exactly 14 (close_tests s n) refl) (both_of (is_true (is_in s n)) (equal n 0));
  reset5 = chain (given_exactly 5 (reset_tests s n) refl) (is_false (is_in s n));
  post2 = chain (given_exactly 2 (post_tests s n u) refl) (unit-not u);
  post5 = chain (given_exactly 5 (post_tests s n u) refl) (both_of (unit_is u) (is_false (is_in s n)));
  post11 = chain (given_exactly 11 (post_tests s n u) refl) (both_of (unit_is u) (both_of (is_true (is_in s n)) (at_most 1 (channel_of s n).waiting)));
}

pub of_layers : (x : SendLent) (n : ℕ) (numbered : Bool) (u : List ℕ) → OfLayers x n numbered u
of_layers x n numbered u =
    let sends = sending_tests x n numbered u in
    let takes = taking_tests x.channels n numbered u in
    let here = is_true (is_in x.channels n) in
    record {
      send5 = chain (given_exactly 5 sends refl) (is_false _);
      send2 = chain (given_exactly 2 sends refl) (both_of here (is_false _));
      send3 = chain (given_exactly 3 sends refl) (both_of here (both_of (is_true _) (less _ _)));
      take5 = chain (given_exactly 5 takes refl) (is_false _);
      take2 = chain (given_exactly 2 takes refl) (both_of here (is_false _));
    }
