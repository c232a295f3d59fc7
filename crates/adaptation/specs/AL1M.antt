-- The lengths of AL1M's units (document 01, "AL1M units"; 003, D.4.1.4 and D.4.1.7.3).
--
--   most_repairs        the largest e
--   is_setting b e      a check of b bits and e repairs may be asked for
--   sent_octets t b e   a unit of t octets, its check of l octets and the parity: t + l + 2e
--   is_sendable t b e   such a unit may be sent
--   al1m_tests s r x    what refuses, in this order: settings that are not s, a length that is not r, a room that is x, too small
--   length_tests t b e  .. of the length question, which is lent no room
--   sent_length t b e   the answer to it
--
-- Assumes nothing.
use Rattle.std.specs.Prelude.{Bool, false, not, ◌&&◌, List, [], ◌∷◌, ℕ, ◌+◌, ◌*◌, leb}
use Rattle.codeword.specs.CodeWord.{longest_word}
use Rattle.calls.specs.Refusal.{Told, refused, told, Test, ◌when◌, checked}
use Rattle.checks.specs.Width.{is_width, kind_at}

abbrev pub most_repairs : ℕ
most_repairs = 127

unfoldable pub is_setting : ℕ → ℕ → Bool
is_setting b e = is_width b && leb e most_repairs

abbrev pub sent_octets : ℕ → ℕ → ℕ → ℕ
sent_octets t b e = t + (kind_at b).octets + 2 * e

unfoldable pub is_sendable : ℕ → ℕ → ℕ → Bool
is_sendable t b e = leb 1 t && leb (sent_octets t b e) longest_word

abbrev pub al1m_tests : Bool → Bool → Bool → List Test
al1m_tests s r x = 1 when not s ∷ 2 when not r ∷ 3 when x ∷ []

abbrev pub length_tests : ℕ → ℕ → ℕ → List Test
length_tests t b e = al1m_tests (is_setting b e) (is_sendable t b e) false

unfoldable pub sent_length : ℕ → ℕ → ℕ → Told ℕ
sent_length t b e = checked refused (length_tests t b e) (told (sent_octets t b e))
