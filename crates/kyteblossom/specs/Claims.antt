-- What is claimed of the numbers that the C entries answer, over every input; proofs/Theorems.antt proves each claim, proofs/Recorded.antt those on
-- records and proofs/Framed.antt those on packets. What a code word has to do with them stands in the demands (crates/demands/specs/Host.antt).
--
--   Answered r l before after    r is below 0 exactly where one of the tests l holds: it is then minus the first one's number, which is what
--                                kyte_refused tells, and what was lent is as it came
--   WordLength m                 a number of octets that a sent unit may have: at least 1, at most 255
--   LengthAnswered               so it is with kyte_length; an answer of 0 and more is the length
--   EncodeAnswered               .. with kyte_encode; it is the number of octets that were written
--   Parts r j w after            the header's functions give back from r what is told of the unit, each part by itself, and where it lies
--   ReceiveAnswered              .. with kyte_receive; it is what was judged, in parts
--   RecordWriteAnswered          so it is with kyte_record_write; it is the number of octets that were written
--   RecordReadAnswered           .. and with kyte_record_read; it is the number of units
--   FormsAre                     0 is the plain form of a flag, and anything else the complemented one
--   PacketWriteAnswered          so it is with kyte_packet_write; it is the number of octets that were written, and they are the packet
--   PacketParts u p r            the header's functions give back from r what the packet says that u begins with, each part by itself, and where
--                                its payload and the next packet lie
--   PacketReadAnswered           .. and with kyte_packet_read; it is what the packet says, in parts, wherever there is one; and what the header's
--                                functions give of a refusal
--   PacketBack                   what kyte_packet_write wrote, whatever stands behind it, kyte_packet_read tells, and the payload lies there
--   CheckedExactly               kyte_trusted takes a width for one with a check exactly where the check has octets
--
-- Assumes nothing.
use Rattle.std.specs.Prelude.{◌≡◌, ◌↔◌, true, false, cond, not, List, [], ◌++◌, ℕ, suc, ◌+◌, ◌*◌, ◌^◌, ◌≤◌, ◌<◌, eqb, ℤ, pos, neg_ℤ, length, take, drop, Ok}
use Rattle.calls.specs.Refusal.{refused, told, leaving, Test, refusal}
use Rattle.adaptation.specs.Handed.{badge_number}
use Rattle.checks.specs.Width.{kind_at}
use Rattle.adaptation.specs.AL1M.{length_tests, sent_octets, sent_length}
use Rattle.adaptation.specs.Sending.{encode_tests, Sends}
use Rattle.adaptation.specs.Receiving.{RepairLent, receive_tests, handed_unit, Receives}
use Rattle.adaptation.specs.declared.al1m.Judgement.{Judgement}
use Rattle.record.specs.Call.{Listing, write_tests, Writes, Contents, read_tests, Reads}
use Rattle.packets.specs.Claims.{Carries}
use Rattle.packets.specs.Packet.{packet_of, write_tests as packet_write_tests, Heading, read_tests as packet_read_tests, read}
use Rattle.kyteblossom.specs.Answer.{answer, packed, EncodeIs, ReceiveIs, lent_to, RecordWriteIs, RecordReadIs, is_complemented, PacketWriteIs, packet_number, packet_says}
use Rattle.kyteblossom.specs.Header.{is_below, told_refusal, told_badge, told_changed, told_length, told_unit, is_checked, told_code, told_mark, told_payload_length, told_payload, told_next}

pub record Answered {X : Type 0} (r : ℤ) (l : List Test) (before after : X) : Type 0 where
  pub below : is_below r ≡ true ↔ ((k : ℕ) × (refusal l ≡ refused k))
  pub number : (k : ℕ) → refusal l ≡ refused k → (r ≡ neg_ℤ (pos k)) × (told_refusal r ≡ k)
  pub none : refusal l ≡ told tt → told_refusal r ≡ 0
  pub leaves : is_below r ≡ true → after ≡ before

abbrev pub WordLength : ℕ → Type 0
WordLength m = (1 ≤ m) × (m ≤ 255)

abbrev pub LengthAnswered : Type 0
LengthAnswered =
    (t b e : ℕ) (r : ℤ) → r ≡ answer (sent_length t b e)
    → Answered {X = Unit {0}} r (length_tests t b e) tt tt
    × (is_below r ≡ false → (r ≡ pos (sent_octets t b e)) × WordLength (sent_octets t b e))

abbrev pub EncodeAnswered : Type 0
EncodeAnswered =
    (b e : ℕ) (u before after : List ℕ) (r : ℤ) → EncodeIs b e u before r after
    → Answered r (encode_tests (length u) b e (length before)) before after
    × (is_below r ≡ false → (m : ℕ) × (r ≡ pos m) × WordLength m × Sends b e u before (Ok m) after)

-- each part has the room of its own in the number of 32 bits, so that none runs into the next
pub record Parts (r : ℤ) (j : Judgement) (w after : List ℕ) : Type 0 where
  pub number : r ≡ pos (badge_number j.badge + 256 * j.changed + 65536 * j.length)
  pub fits : packed j < 2 ^ 31
  pub badge_is : told_badge r ≡ pos (badge_number j.badge)
  pub changed_is : told_changed r ≡ j.changed
  pub length_is : told_length r ≡ j.length
  pub unit_is : told_unit r w after ≡ handed_unit j.badge w after j.length

abbrev pub ReceiveAnswered : Type 0
ReceiveAnswered =
    (b e : ℕ) (w : List ℕ) (before after : RepairLent) (r : ℤ) → ReceiveIs b e w before r after
    → Answered r (receive_tests (length w) b e before) before after
    × (is_below r ≡ false → (j : Judgement) × Receives b e w before (Ok j) after × Parts r j w after.repair)

-- ---- records; specs/Claims.antt of `record` says what is written and read

abbrev pub RecordWriteAnswered : Type 0
RecordWriteAnswered =
    (n o before after : List ℕ) (r : ℤ) → RecordWriteIs n o before r after
    → (w : Listing n o) × Answered r (write_tests w (length before)) before after
    × (is_below r ≡ false → (m : ℕ) × (r ≡ pos m) × (m ≤ 1048812) × Writes n o before (leaving m after))

abbrev pub RecordReadAnswered : Type 0
RecordReadAnswered =
    (s n o m p : List ℕ) (r : ℤ) → RecordReadIs s n o r m p
    → (w : Contents s) × Answered r (read_tests w (lent_to n o)) (lent_to n o) (lent_to m p)
    × (is_below r ≡ false → (k : ℕ) × (r ≡ pos k) × (k ≤ 95325) × Reads s (lent_to n o) (leaving k (lent_to m p)))

-- ---- packets; specs/Claims.antt of `packets` says what a packet is

abbrev pub FormsAre : Type 0
FormsAre = (is_complemented 0 ≡ false) × ((n : ℕ) → is_complemented (suc n) ≡ true)

abbrev pub PacketWriteAnswered : Type 0
PacketWriteAnswered =
    (o c m : ℕ) (xs before after : List ℕ) (r : ℤ) → PacketWriteIs o c m xs before r after
    → Answered r (packet_write_tests c xs (length before)) before after
    × (is_below r ≡ false
    → (r ≡ pos (length xs + 7))
    × (length xs ≤ 254)
    × (take (length xs + 7) after ≡ packet_of (is_complemented o) c (is_complemented m) xs)
    × (drop (length xs + 7) after ≡ drop (length xs + 7) before))

pub record PacketParts (u : List ℕ) (p : Heading) (r : ℤ) : Type 0 where
  pub number : r ≡ pos (p.code + 16 * cond p.mark 1 0 + 256 * p.length)
  pub fits : packet_number p.code p.mark p.length < 2 ^ 31
  pub code_is : told_code r ≡ pos p.code
  pub mark_is : told_mark r ≡ cond p.mark 1 0
  pub length_is : told_payload_length r ≡ p.length
  pub payload_is : told_payload u r ≡ take p.length (drop 5 u)
  pub next_is : told_next r ≡ p.next

abbrev pub PacketReadAnswered : Type 0
PacketReadAnswered =
    (u : List ℕ) (r : ℤ) → r ≡ answer (packet_says (read u))
    → Answered {X = Unit {0}} r (packet_read_tests u) tt tt
    × (is_below r ≡ false → (p : Heading) × Carries u p × PacketParts u p r)
    × ((p : Heading) → Carries u p → PacketParts u p r)
    × (is_below r ≡ true → (told_code r ≡ neg_ℤ (pos 1)) × (told_mark r ≡ 0) × (told_payload_length r ≡ 0) × (told_payload u r ≡ []) × (told_next r ≡ 0))

abbrev pub PacketBack : Type 0
PacketBack =
    (o c m : ℕ) (xs before after rest : List ℕ) (r q : ℤ) → PacketWriteIs o c m xs before r after → is_below r ≡ false
    → q ≡ answer (packet_says (read (take (length xs + 7) after ++ rest)))
    → (told_code q ≡ pos c)
    × (told_mark q ≡ cond (is_complemented m) 1 0)
    × (told_payload (take (length xs + 7) after ++ rest) q ≡ xs)
    × (told_next q ≡ 5 + length xs)

abbrev pub CheckedExactly : Type 0
CheckedExactly = (b : ℕ) → is_checked b ≡ not (eqb (kind_at b).octets 0)
