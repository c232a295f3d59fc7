-- The claims of specs/Claims.antt, proved.
--
--   golay    all of them
--
-- Assumes nothing.
use mathlib.Core.Path.{refl}
use lib.Pow.{high, low}
use Rattle.golay.specs.Matrix.{matrix}
use Rattle.golay.specs.Code.{parity}
use Rattle.golay.specs.Claims.{Golay, ParityIs, RowsAre, Systematic}
use Rattle.golay.proofs.Bits.{product_bit, distance-places}
use Rattle.golay.proofs.Generating.{word-times}
use Rattle.golay.proofs.Linear.{parity-row, parity-lt}
use Rattle.golay.proofs.Near.{word_far, within_one, nearest_found, nearest_none}
use Rattle.golay.proofs.Weights.{word_least, word_even}

parity_bits : ParityIs
unfolding parity matrix
parity_bits d j h = product_bit matrix d j

rows : RowsAre
unfolding matrix
rows = (refl, parity-row)

word_parts : Systematic
word_parts d h = (low (parity d) 12 h, high (parity d) 12 h, parity-lt d)

pub golay : Golay
golay = record {
  parity_is = parity_bits;
  rows_are = rows;
  systematic = word_parts;
  generated = word-times;
  even_ones = word_even;
  least_ones = word_least;
  far_apart = word_far;
  distance_counts = distance-places;
  found_exactly = nearest_found;
  nothing_exactly = nearest_none;
  only_one = within_one;
}
