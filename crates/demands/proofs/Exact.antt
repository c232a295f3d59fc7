-- Each refusal is given exactly when document 01 says.
--
--   exactly     what each crate has proved of its own
--
-- Assumes nothing.
use Rattle.adaptation.proofs.Laws.{adaptation_exactly}
use Rattle.table.proofs.Laws.{defined_exactly, tree_exactly, of_table}
use Rattle.packets.proofs.Laws.{packets}
use Rattle.channels.proofs.Laws.{open_exactly, all_open_exactly, of_channels, of_layers, full_exactly}
use Rattle.multiplex.proofs.Laws.{six_exactly, fits_exactly, three_exactly, of_demultiplexer, of_multiplexer, last_octet}
use Rattle.demands.specs.Exactly.{Exactly}

pub exactly : Exactly
exactly = record {
  adaptation = adaptation_exactly;
  layers = of_layers;
  table = of_table;
  defined = defined_exactly;
  trees = tree_exactly;
  unpacking = packets.of_reading;
  packing = packets.of_writing;
  channels = of_channels;
  full = full_exactly;
  opened = open_exactly;
  all_opened = all_open_exactly;
  demultiplexer = of_demultiplexer;
  six = six_exactly;
  fits = fits_exactly;
  three = three_exactly;
  last = last_octet;
  multiplexer = of_multiplexer;
}
