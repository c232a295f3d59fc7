-- Any two answers that a promise allows are equal: answer, state and every buffer. docs/PROMISES.md says which of these is for which
-- operation.
--
--   equation-once                          of a promise that is an equation, `r ≡ definition arguments`
--   codeword-encoded, codeword-repaired    the code word's
--   says-once, both_say-once               of results that say the same, alone and with what is left
--   check8-once, al1m-encoded, al1m-received, passed-once, read-once, received-once   the adaptation layers'
--   writes_once, reads_once                the record's
--   reading-once                           the packets'
--   encode-once, receive-once, record_write-once, record-read-once, packet_write-once, packet-read-once   the C entries'
--   replaced_unique                         the table's
--   after_unique, post_unique, send_unique, take_unique   the channels'
--   demultiplexed-once, multiplexed-once   the multiplexer's
--
-- All but the first are proved where their promises are, and stand here under one roof.
-- Assumes nothing.
use mathlib.Core.Path.{◌≡◌, sym, ◌∙◌}
pub use Rattle.codeword.proofs.Laws.{encoded_unique as codeword-encoded, repaired_unique as codeword-repaired}
pub use Rattle.calls.proofs.Laws.{says-once, both_say-once}
pub use Rattle.checks.proofs.Laws.{check8-once}
pub use Rattle.adaptation.proofs.Laws.{encoded_unique as al1m-encoded, received_unique as al1m-received, passed-once, read-once, received-once}
pub use Rattle.record.proofs.Laws.{writes_once, reads_once}
pub use Rattle.packets.proofs.Laws.{reading-once}
pub use Rattle.kyteblossom.proofs.Laws.{encode-once, receive-once, record_write-once, record-read-once, packet_write-once, packet-read-once}
pub use Rattle.table.proofs.Laws.{replaced_unique}
pub use Rattle.channels.proofs.Laws.{after_unique, post_unique, send_unique, take_unique}
pub use Rattle.multiplex.proofs.Laws.{demultiplexed-once, multiplexed-once}

pub equation-once : {A : Type 0} (definition r q : A) → r ≡ definition → q ≡ definition → r ≡ q
equation-once x r q e f = e ∙ sym f
