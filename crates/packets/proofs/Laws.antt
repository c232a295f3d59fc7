-- What the crates above take from the proofs of packets, and nothing else.
--
--   packets                         the claims (Theorems)
--   read-refuses, wrote-refuses     what refuses (Refusals)
--   read-told-small, write-small    how large what is told is (Refusals)
--   flag-length                     a flag has two octets (Laying)
--   none_wrong                      no bit of a header is wrong beside itself (Carrying)
--   read-within                     the next packet's flag lies within the octets (Telling)
--   reading-once                    one answer to reading (Unique)
--
-- Assumes nothing.
pub use Rattle.packets.proofs.Theorems.{packets}
pub use Rattle.packets.proofs.Refusals.{read-refuses, wrote-refuses, read-told-small, write-small}
pub use Rattle.packets.proofs.Laying.{flag-length}
pub use Rattle.packets.proofs.Carrying.{none_wrong}
pub use Rattle.packets.proofs.Telling.{read-within}
pub use Rattle.packets.proofs.Unique.{reading-once}
