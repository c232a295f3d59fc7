-- What the crates above take from the adaptation layers' proofs, and nothing else.
--
--   adaptation_limits                    document 01's numbers (Applying)
--   adaptation_exactly                   .. and what it says with "exactly when" (Assembled)
--   whole_length                         how long a whole is (Applying)
--   unit-not                             what is no unit of 1 to 1,024 octets (Applying)
--   sent-leaves                          a refusal of AL2's sending leaves its output (Refusals)
--   refused-not, refused_none            AL1M's three tests: none refuses where none holds, and only there (Refusals)
--   coding-all                           what the length question answers is a unit that may be sent (Coding)
--   sent-small, handed-small             how large the numbers are that AL1M answers (Theorems)
--   sent_is_handed_up                       a sent unit with at most e octets changed is handed up as sent (Theorems)
--   found_is_shown                         what is shown where a code word lies within e octets (Badges)
--   badge_exactly, out_of_reach_exactly, out_of_reach_leaves, faultless_is_code_word   what each badge of AL1M is given for (Badges)
--   encoded_unique, received_unique        one answer of AL1M (Theorems)
--   sizes                                how long a unit is that AL2 may send, and its whole (InStep)
--   range_kept, discard_leaves, due_is      AL2's numbers stay within their range, and a discard leaves what is due (InStep)
--   sent_is_whole, read_back, read_is_whole, next_in_order, plain_received   AL2's sending and receiving undo each other (InStep)
--   in_step, wholes_from-append, number_after-append, due_after-append, number_after-lt
--                                        .. and so do units that follow one another, and their numbers (InStep)
--   missing_is_lost                        what is told as missing is what was lost (Missing)
--   badge_most                           the badges' numbers go to 4 (Unique)
--   says-once, passed-once, read-once, received-once   one answer of AL1 and AL2 (Unique)
--
-- Assumes nothing.
pub use Rattle.adaptation.proofs.Applying.{whole_length, unit-not, adaptation_limits}
pub use Rattle.adaptation.proofs.Assembled.{adaptation_exactly}
pub use Rattle.adaptation.proofs.Refusals.{sent-leaves, refused-not, refused_none}
pub use Rattle.adaptation.proofs.Coding.{coding-all}
pub use Rattle.adaptation.proofs.Badges.{found_is_shown, badge_exactly, out_of_reach_exactly, out_of_reach_leaves, faultless_is_code_word}
pub use Rattle.adaptation.proofs.Theorems.{sent-small, handed-small, sent_is_handed_up, encoded_unique, received_unique}
pub use Rattle.adaptation.proofs.InStep.{sizes, range_kept, discard_leaves, due_is, sent_is_whole, read_back, read_is_whole, next_in_order, plain_received, in_step}
pub use Rattle.adaptation.proofs.InStep.{wholes_from-append, number_after-append, due_after-append, number_after-lt}
pub use Rattle.adaptation.proofs.Missing.{missing_is_lost}
pub use Rattle.adaptation.proofs.Unique.{badge_most, says-once, passed-once, read-once, received-once}
