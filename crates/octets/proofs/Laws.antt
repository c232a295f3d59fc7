-- The face of this crate to others: the laws that they cite, passed on from the file that proves them. The others stand in `specs/`, beside
-- what they speak of.
--
--   numbers in octets   high_same, octets_next, worth-same
--   .. as written       be_bytes-high: `to_be_bytes` is the number in octets
--   numbers in a row    fields-length, fields-same
--
-- Assumes nothing.
pub use Rattle.octets.proofs.High.{high_same, octets_next, worth-same, be_bytes-high, fields-length, fields-same}
