-- AL1M's sending (document 01, "AL1M units"; 003, D.4.1.4 and D.4.1.7): the unit, its check, and the code's parity.
--
--   message κ u                     the unit u and its check of kind κ
--   Coded κ e u c                   c is what u is sent as: the code word that begins with the message and has the 2e octets of parity
--                                   behind it
--   encode_tests t b e room          what refuses to send a unit of t octets into `room` lent ones, in this order
--   SentIs κ e u before m after     m octets, what u is sent as, are written at the front of the lent octets
--   Sends b e u before r after      what sending u into the lent octets `before` answers and leaves: the sent unit is written at the
--                                   front, and its length told; or it is refused, and nothing changes
--
-- Assumes nothing.
use Rattle.std.specs.Prelude.{◌≡◌, List, ◌++◌, ℕ, ◌+◌, ◌*◌, ltb, length, take, Result, Ok, Err}
use Rattle.octets.specs.Written.{written}
use Rattle.codeword.specs.CodeWord.{CodeWord}
use Rattle.calls.specs.Refusal.{told, Test, refusal, RefusedIs, number}
use Rattle.calls.specs.declared.Refusal.{Refusal}
use Rattle.checks.specs.Check.{Kind, check_of}
use Rattle.checks.specs.Width.{kind_at}
use Rattle.adaptation.specs.AL1M.{al1m_tests, is_setting, is_sendable, sent_octets}

abbrev pub message : Kind → List ℕ → List ℕ
message κ u = u ++ check_of κ u

pub record Coded (κ : Kind) (e : ℕ) (u c : List ℕ) : Type 0 where
  pub long : length c ≡ length (message κ u) + 2 * e
  pub begins : take (length (message κ u)) c ≡ message κ u
  pub code : CodeWord e c

abbrev pub encode_tests : ℕ → ℕ → ℕ → ℕ → List Test
encode_tests t b e room = al1m_tests (is_setting b e) (is_sendable t b e) (ltb room (sent_octets t b e))

pub record SentIs (κ : Kind) (e : ℕ) (u before : List ℕ) (m : ℕ) (after : List ℕ) : Type 0 where
  pub sent : List ℕ
  pub coded : Coded κ e u sent
  pub count : m ≡ length sent
  pub written_is : after ≡ written before 0 sent

abbrev pub Sends : ℕ → ℕ → List ℕ → List ℕ → Result ℕ Refusal → List ℕ → Type 0
Sends b e u before (Ok m) after = (refusal (encode_tests (length u) b e (length before)) ≡ told tt) × SentIs (kind_at b) e u before m after
Sends b e u before (Err r) after = RefusedIs (encode_tests (length u) b e (length before)) (number r) before after
