-- When a channel is open, and document 01's refusals of the calls on channels, "given exactly when": each where the tests before it do not
-- hold. A test that a definition and its code had beyond these, or without one of them, would be refused here. Refusal 12 is said in
-- specs/Full.antt; what AL2 may send and what is whole in `adaptation`.
--
--   OpenExactly      a channel is open exactly where some place has it
--   AllOpenExactly   .. and channels all are exactly where each is; proofs/Found.antt proves both
--   OfChannels       "Demultiplexer", "Multiplexer": channel n opened, closed, reset, and the unit u posted on it
--   OfLayers         "AL1 and AL2": the unit u sent on channel n into the output of x, and taken there; proofs/Applying.antt proves both
--
-- Assumes nothing.
use Rattle.std.specs.Prelude.{◌≡◌, ◌↔◌, Bool, true, false, List, ℕ, ◌≤◌, ◌<◌, length, get_or}
use Rattle.calls.specs.Refusal.{Gives}
use Rattle.adaptation.specs.AL2.{number_as, is_sendable, whole, is_whole}
use Rattle.channels.specs.declared.Channels.{Channels}
use Rattle.channels.specs.Channels.{is_in, all_open, channel_at, open_tests, close_tests, reset_tests, post_tests}
use Rattle.channels.specs.Layers.{SendLent, sending_tests, taking_tests}
use Rattle.channels.specs.Claims.{channel_of}

-- every state has 16 places
abbrev pub OpenExactly : Type 0
OpenExactly =
    (s : Channels) (n : ℕ) → length s.at ≡ 16
    → is_in s n ≡ true ↔ ((p : ℕ) × ((channel_at s p).«open» ≡ true) × ((channel_at s p).number.0 ≡ n))

abbrev pub AllOpenExactly : Type 0
AllOpenExactly = (s : Channels) (l : List ℕ) → all_open s l ≡ true ↔ ((j : ℕ) → j < length l → is_in s (get_or l j 0) ≡ true)

pub record OfChannels (s : Channels) (n : ℕ) (u : List ℕ) : Type 0 where
  pub open13 : Gives (open_tests s n) 13 ↔ (is_in s n ≡ true)
  pub close5 : Gives (close_tests s n) 5 ↔ (is_in s n ≡ false)
  pub close14 : Gives (close_tests s n) 14 ↔ ((is_in s n ≡ true) × (n ≡ 0))
  pub reset5 : Gives (reset_tests s n) 5 ↔ (is_in s n ≡ false)
  pub post2 : Gives (post_tests s n u) 2 ↔ ((1 ≤ length u) × (length u ≤ 1024) → ⊥)
  pub post5 : Gives (post_tests s n u) 5 ↔ (((1 ≤ length u) × (length u ≤ 1024)) × (is_in s n ≡ false))
  pub post11 : Gives (post_tests s n u) 11 ↔ (((1 ≤ length u) × (length u ≤ 1024)) × ((is_in s n ≡ true) × (1 ≤ (channel_of s n).waiting)))

pub record OfLayers (x : SendLent) (n : ℕ) (numbered : Bool) (u : List ℕ) : Type 0 where
  pub send5 : Gives (sending_tests x n numbered u) 5 ↔ (is_in x.channels n ≡ false)
  pub send2 : Gives (sending_tests x n numbered u) 2
      ↔ ((is_in x.channels n ≡ true) × (is_sendable (number_as numbered (channel_of x.channels n).numbers) u ≡ false))
  pub send3 : let number = number_as numbered (channel_of x.channels n).numbers in
      Gives (sending_tests x n numbered u) 3
      ↔ ((is_in x.channels n ≡ true) × ((is_sendable number u ≡ true) × (length x.output < length (whole number u))))
  pub take5 : Gives (taking_tests x.channels n numbered u) 5 ↔ (is_in x.channels n ≡ false)
  pub take2 : Gives (taking_tests x.channels n numbered u) 2 ↔ ((is_in x.channels n ≡ true) × (is_whole numbered u ≡ false))
