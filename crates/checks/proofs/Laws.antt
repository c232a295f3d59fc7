-- What the crates above take from the checks' proofs, and nothing else.
--
--   checks_exactly             which widths there are, which check each has, and when a check agrees (Exact)
--   check8-once                there is one check of 8 bits (Sealed)
--   octets_most                a check has at most two octets (Sealed)
--   check_octets               the octets of a check are octets (Sealed)
--   check-length               .. as many as its kind has (Sealed)
--   sealed-front               a content written at the front, and its check behind it, are both written there together (Sealed)
--   agrees_own, agrees-none    what agrees: a content with its own check, and with none (Sealed)
--
-- Assumes nothing.
pub use Rattle.checks.proofs.Exact.{checks_exactly}
pub use Rattle.checks.proofs.Sealed.{check8-once, octets_most, check_octets, check-length, sealed-front, agrees_own, agrees-none}
