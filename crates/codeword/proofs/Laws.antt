-- The face of this crate to others: the laws that they cite, passed on from the files that prove them. No other file of these
-- proofs is imported from outside.
--
--   elements     octet-pow, element-power: powers of α, from octets to elements and back
--   words        word-length; value_none, value-snoc: the value of a word's polynomial, an octet at a time; octets-append
--   distance     distance_self, distance-zero; places_exactly, places_counted: where two words differ
--   code words   code_word-zero, zero_code_word: a word is one exactly when its 2e syndromes are zero; code_word_only: one begins
--                with a message; parity_code_word: the message and its parity
--   encoding     encodes_true: what fits; encoded-is: what the promise says then
--   the repair   reads_true: what fits
--   the claims   every one of specs/Claims.antt: encoded_is_code_word, encoded_is_only, code_words_apart, without_parity, zero_syndromes,
--                found_exactly, found_is_it, never_second, lost_untouched, encoded_unique, repaired_unique
--
-- Assumes nothing.
pub use Rattle.codeword.proofs.Element.Laws.{octet-pow, element-power}
pub use Rattle.codeword.proofs.Word.{word-length, value_none, value-snoc}
pub use Rattle.codeword.proofs.Counting.{places_exactly, places_counted}
pub use Rattle.codeword.proofs.Distance.{distance_self, distance-zero}
pub use Rattle.codeword.proofs.Criterion.{code_word-zero, zero_code_word}
pub use Rattle.codeword.proofs.Systematic.{octets-append, code_word_only, parity_code_word, encodes_true, encoded-is}
pub use Rattle.codeword.proofs.Repairing.{reads_true}
pub use Rattle.codeword.proofs.Theorems.{encoded_is_code_word, encoded_is_only, code_words_apart, without_parity, zero_syndromes}
pub use Rattle.codeword.proofs.Theorems.{found_exactly, found_is_it, never_second, lost_untouched, encoded_unique, repaired_unique}
