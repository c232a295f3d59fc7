-- Document 01's numbers of the adaptation layers, each where it decides: what a definition changed together with its code would get
-- past, were it not said here in the paper's words.
--
--   AdaptationLimits     the numbers; proofs/Applying.antt proves it
--
-- Assumes nothing.
use Rattle.std.specs.Prelude.{◌≡◌, ◌↔◌, ◌⊎◌, true, false, List, ℕ, ◌+◌, ◌*◌, ◌≤◌, length, Some, None}
use Rattle.calls.specs.Refusal.{told, refusal}
use Rattle.adaptation.specs.AL1M as al1m
use Rattle.adaptation.specs.Receiving.{is_word}
use Rattle.adaptation.specs.AL1.{pass_tests}
use Rattle.adaptation.specs.AL2 as al2

pub record AdaptationLimits : Type 0 where
  -- refusal 1: the check's width is not 0, 8 or 16, or e is over 127
  pub settings : (b e : ℕ) → al1m.is_setting b e ≡ true ↔ (((b ≡ 0) ⊎ ((b ≡ 8) ⊎ (b ≡ 16))) × (e ≤ 127))
  -- "AL1M units": the sent length is t + l + 2e, and the length question's answer
  pub sent_lengths : (t e : ℕ) → (al1m.sent_octets t 0 e ≡ t + 0 + 2 * e) × (al1m.sent_octets t 8 e ≡ t + 1 + 2 * e) × (al1m.sent_octets t 16 e ≡ t + 2 + 2 * e)
  pub asked : (t b e : ℕ) → al1m.is_setting b e ≡ true → al1m.is_sendable t b e ≡ true → al1m.sent_length t b e ≡ told (al1m.sent_octets t b e)
  -- .. t at least 1, and t + l + 2e at most 255; received, no more than 255 octets and no fewer than 1 + l + 2e
  pub plain_sent : (t e : ℕ) → al1m.is_sendable t 0 e ≡ true ↔ ((1 ≤ t) × (t + 0 + 2 * e ≤ 255))
  pub eight_sent : (t e : ℕ) → al1m.is_sendable t 8 e ≡ true ↔ ((1 ≤ t) × (t + 1 + 2 * e ≤ 255))
  pub sixteen_sent : (t e : ℕ) → al1m.is_sendable t 16 e ≡ true ↔ ((1 ≤ t) × (t + 2 + 2 * e ≤ 255))
  pub plain_word : (n e : ℕ) → is_word n 0 e ≡ true ↔ ((n ≤ 255) × (1 + 0 + 2 * e ≤ n))
  pub eight_word : (n e : ℕ) → is_word n 8 e ≡ true ↔ ((n ≤ 255) × (1 + 1 + 2 * e ≤ n))
  pub sixteen_word : (n e : ℕ) → is_word n 16 e ≡ true ↔ ((n ≤ 255) × (1 + 2 + 2 * e ≤ n))
  -- "AL1 and AL2": units have at least 1 octet, the whole at most 1,024
  pub passed : (u : List ℕ) → refusal (pass_tests u) ≡ told tt ↔ ((1 ≤ length u) × (length u ≤ 1024))
  pub numbered : (n : ℕ) (u : List ℕ) → al2.is_sendable (Some n) u ≡ true ↔ ((1 ≤ length u) × (1 + length u + 1 ≤ 1024))
  pub unnumbered : (u : List ℕ) → al2.is_sendable None u ≡ true ↔ ((1 ≤ length u) × (length u + 1 ≤ 1024))
  -- .. received: a number if there is one, a unit and a check
  pub numbered_whole : (w : List ℕ) → al2.is_whole true w ≡ true ↔ ((1 + 1 + 1 ≤ length w) × (length w ≤ 1024))
  pub unnumbered_whole : (w : List ℕ) → al2.is_whole false w ≡ true ↔ ((1 + 1 ≤ length w) × (length w ≤ 1024))
