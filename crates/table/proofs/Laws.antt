-- What the crates above take from the table's proofs, and nothing else.
--
--   cut-none, Filled, filled-length, cut_octets                           slots and cuts (Apart, Cutting)
--   payload_slots_filled, payload_slots_most, payload_slots-cut              the slots of a payload (Expanding)
--   numbers_read, slots_are_those, closing_takes_all, finite_or_closing, finite_exactly, slots_in_turn, slots_are, passes_are, cut_front   entries and slots (Theorems)
--   tree_exactly, of_table                                                which trees are entries, and where replacing is refused (Allowed)
--   table_limits                                                          document 01's numbers (Limited)
--   defined_most, defined_exactly, fixed_is, fresh_entries, replaced_entries, replaced_unique, replaced_keeps   the table (Theorems)
--
-- Assumes nothing.
pub use Rattle.table.proofs.Allowed.{tree_exactly, of_table}
pub use Rattle.table.proofs.Apart.{cut-none}
pub use Rattle.table.proofs.Cutting.{filled-length, cut_octets}
pub use Rattle.table.proofs.Expanding.{payload_slots_filled, payload_slots_most, payload_slots-cut}
unfoldable pub use Rattle.table.proofs.Cutting.{Filled}
pub use Rattle.table.proofs.Limited.{table_limits}
pub use Rattle.table.proofs.Theorems.{
  numbers_read,
  slots_are_those,
  finite_or_closing,
  closing_takes_all,
  finite_exactly,
  slots_in_turn,
  slots_are,
  defined_exactly,
  passes_are,
  cut_front,
  defined_most,
  fixed_is,
  fresh_entries,
  replaced_entries,
  replaced_unique,
  replaced_keeps,
}
