-- What the crates above take from the multiplexer's proofs, and nothing else.
--
--   unit_on, unit_octets, Tells, tells-nothing, tells-finished, records-length, tells_read, on_this, on-other   what a delivery tells (Records)
--   counted-took                              the channels after one piece (Keeping)
--   neither, waits_some, goes-whole, Agrees, walk-agrees   the pieces that a walk sends (Agreeing)
--   waiting-left, waiting-length              what waits (Leaving)
--   lies-there                                a unit lies where the list says (Lying)
--   calls_refuse, octets-once, order-kept     the claims (Theorems)
--   six_exactly, fits_exactly, three_exactly, of_demultiplexer, of_multiplexer, last_octet, enough   refusals exactly (Theorems, Admitting, Rules, Applying)
--   always-sound                              any calls in any order (Bounds)
--   multiplexed-once, demultiplexed-once      one answer (Unique)
--
-- Assumes nothing.
pub use Rattle.multiplex.proofs.Records.{unit_on, unit_octets, Tells, tells-nothing, tells-finished, records-length, tells_read, on_this, on-other}
pub use Rattle.multiplex.proofs.Keeping.{counted-took}
pub use Rattle.multiplex.proofs.Agreeing.{neither, waits_some, goes-whole, Agrees, walk-agrees}
pub use Rattle.multiplex.proofs.Leaving.{waiting-left, waiting-length}
pub use Rattle.multiplex.proofs.Lying.{lies-there}
pub use Rattle.multiplex.proofs.Theorems.{calls_refuse, octets-once, order-kept, six_exactly}
pub use Rattle.multiplex.proofs.Admitting.{fits_exactly}
pub use Rattle.multiplex.proofs.Rules.{three_exactly}
pub use Rattle.multiplex.proofs.Applying.{of_demultiplexer, of_multiplexer, last_octet, enough}
pub use Rattle.multiplex.proofs.Bounds.{always-sound}
pub use Rattle.multiplex.proofs.Unique.{multiplexed-once, demultiplexed-once}
