-- What the crates above take from the code's proofs, and nothing else.
--
--   golay            the claims of specs/Claims.antt (Theorems)
--   total-same       sums of the same terms (Ones)
--   distance_block   the distance of two words by their parts (Bits)
--
-- Assumes nothing.
pub use Rattle.golay.proofs.Theorems.{golay}
pub use Rattle.golay.proofs.Ones.{total-same}
pub use Rattle.golay.proofs.Bits.{distance_block}
