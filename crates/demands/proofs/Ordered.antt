-- The refusal numbers in their order, by computation.
--
--   orders     those of each operation
--
-- Assumes nothing.
use mathlib.Core.Path.{refl}
use Rattle.demands.specs.Orders.{Orders}

pub orders : Orders
orders = record {
  lengths = λ t b e. refl;
  encoding = λ t b e room. refl;
  receiving = λ n b e room. refl;
  passing = λ u. refl;
  sending = λ x n numbered u. refl;
  taking = λ s n numbered w. refl;
  replacing = λ c s. refl;
  packing = λ c xs room. refl;
  unpacking = λ u. refl;
  opening = λ s n. refl;
  closing = λ s n. refl;
  resetting = λ s n. refl;
  demultiplexing = λ x t c mark xs. refl;
  posting = λ s n u. refl;
  multiplexing = λ x t c room. refl;
}
