-- One answer to reading.
--
--   reading-once   two answers that say the same are equal
--
-- The promises of writing are equations on what a result says, for which `calls` has the law. Assumes nothing.
use mathlib.Core.Path.{◌≡◌, sym, ap, ◌∙◌}
use Rattle.std.specs.Prelude.{Result, Ok, Err}
use Rattle.octets.specs.Tests.{never}
use Rattle.calls.specs.Refusal.{Told}
use Rattle.calls.specs.declared.Refusal.{Refusal}
use Rattle.calls.proofs.Laws.{told_same, number-once}
use Rattle.packets.specs.Packet.{Heading, read_says}
use Rattle.packets.specs.declared.Packet.{Packet}

same_packet : (p q : Packet) → read_says (Ok p) ≡ read_says (Ok q) → p ≡ q
same_packet p q e =
    ap (λ (h : Heading). record { code = record { 0 = h.code }; mark = h.mark; length = h.length; next = h.next }) (told_same _ _ e)

same_reading : (a b : Result Packet Refusal) → read_says a ≡ read_says b → a ≡ b
same_reading (Ok p) (Ok q) e = ap Ok (same_packet p q e)
same_reading (Ok p) (Err s) e = never (cc)
same_reading (Err r) (Ok q) e = never (cc)
same_reading (Err r) (Err s) e = ap Err (number-once r s (cc))

pub reading-once : (a b : Result Packet Refusal) (t : Told Heading) → read_says a ≡ t → read_says b ≡ t → a ≡ b
reading-once a b t p q = same_reading a b (p ∙ sym q)
