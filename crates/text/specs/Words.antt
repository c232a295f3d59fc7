-- A line's words, which one space or more part.
--
--   is_space c          the octet is a space
--   is_letter c         .. is none
--   word_start line at  the first place from `at` on that is no space, or the end of the line
--   word_end line at    the first from there on that is one, or the end of the line
--   word_at line at     the first word from `at` on, no octets where there is none
--
-- Assumes nothing.
use Rattle.std.specs.Prelude.{Bool, not, List, ℕ, ◌+◌, eqb, length, drop}
use Rattle.std.specs.List.{prefix_len, take_while}

abbrev pub is_space : ℕ → Bool
is_space c = eqb c 32

abbrev pub is_letter : ℕ → Bool
is_letter c = not (is_space c)

abbrev pub word_start : List ℕ → ℕ → ℕ
word_start line at = at + prefix_len is_space (drop at line)

abbrev pub word_at : List ℕ → ℕ → List ℕ
word_at line at = take_while is_letter (drop (word_start line at) line)

abbrev pub word_end : List ℕ → ℕ → ℕ
word_end line at = word_start line at + length (word_at line at)
