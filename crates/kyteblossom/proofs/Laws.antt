-- What the crates above take from the C entries' proofs, and nothing else: the claims; and that any two answers that a promise of theirs
-- allows are equal, and so is what they leave of what was lent. (`kyte_length` answers by an equation: `p ∙ sym q` is the proof.)
--
--   length_answered, encode_answered, receive_answered, checked_exactly    the claims (Theorems)
--   record_write_answered, record_read_answered    .. on records, and `record_write-once`, `record-read-once` (Recorded)
--   forms_are, packet_write_answered, packet_read_answered, packet_back    .. on packets, and `packet_write-once`, `packet-read-once` (Framed)
--   encode-once     sending
--   receive-once    receiving
--
-- Assumes nothing.
use mathlib.Core.Path.{◌≡◌, sym, ap, ◌∙◌}
use mathlib.Core.List.{List}
use Prim.Native.Nat.{ℕ}
use lib.IntN.{ℤ}
use Rattle.calls.specs.Refusal.{says}
use Rattle.adaptation.specs.Receiving.{RepairLent}
use Rattle.adaptation.proofs.Laws.{encoded_unique, received_unique}
use Rattle.calls.specs.declared.Refusal.{Refusal}
use Rattle.std.specs.Prelude.{Result}
use Rattle.kyteblossom.specs.Answer.{answer, receive_answer, EncodeIs, ReceiveIs}
pub use Rattle.kyteblossom.proofs.Recorded.{record_write_answered, record_read_answered, record_write-once, record-read-once}
pub use Rattle.kyteblossom.proofs.Framed.{forms_are, packet_write_answered, packet_read_answered, packet_back, packet_write-once, packet-read-once}
pub use Rattle.kyteblossom.proofs.Theorems.{length_answered, encode_answered, receive_answered, checked_exactly}

pub encode-once : (n e : ℕ) (u before after left : List ℕ) (r q : ℤ) → EncodeIs n e u before r after → EncodeIs n e u before q left
    → (r ≡ q) × (after ≡ left)
encode-once n e u before after left r q a b =
    let same = encoded_unique n e u before after left a.outcome b.outcome a.encoded b.encoded in
    (a.number ∙ ap (λ (l : Result ℕ Refusal). answer (says l)) same.0 ∙ sym b.number, same.1)

pub receive-once : (n e : ℕ) (w : List ℕ) (before after left : RepairLent) (r q : ℤ) → ReceiveIs n e w before r after
    → ReceiveIs n e w before q left → (r ≡ q) × (after ≡ left)
receive-once n e w before after left r q a b =
    let same = received_unique n e w before after left a.outcome b.outcome a.received b.received in
    (a.number ∙ ap receive_answer same.0 ∙ sym b.number, same.1)
