-- What the C host is answered: one number for each case of the library's answers.
--
--   answer t                       a length, or minus a refusal's number
--   one_number b c t               badge + 256 changed + 65,536 unit length
--   packed j                       .. of what was judged of a unit
--   receive_answer r               .. or minus a refusal's number
--   EncodeIs b e u before r after  what kyte_encode answers and leaves, by AL1M's sending
--   ReceiveIs b e w before r after .. and kyte_receive, by AL1M's receiving
--   lent_to n o                    what is lent to kyte_record_read to write to
--   RecordWriteIs n o before r after   what kyte_record_write answers and leaves, by the record's writing
--   RecordReadIs s n o r m p       .. and kyte_record_read, by its reading
--   is_complemented n              the form of a flag that the host hands in: 0 is the plain one, anything else the complement
--   PacketWriteIs o c m xs before r after   what kyte_packet_write answers and leaves, by the packet's writing
--   packet_number c m n            code + 16 for the closing mark + 256 octets of the payload
--   packet_says t                  .. of what a packet says, or a refusal's number: what kyte_packet_read answers, by the packet's reading
--
-- Assumes nothing.
use Rattle.std.specs.Prelude.{◌≡◌, Bool, cond, not, List, ℕ, ◌+◌, ◌*◌, eqb, ℤ, pos, neg_ℤ, Result, Ok, Err}
use Rattle.calls.specs.Refusal.{Told, refused, told, ended, number, says}
use Rattle.calls.specs.declared.Refusal.{Refusal}
use Rattle.adaptation.specs.Handed.{badge_number}
use Rattle.adaptation.specs.Sending.{Sends}
use Rattle.adaptation.specs.Receiving.{RepairLent, Receives}
use Rattle.record.specs.Call.{Writes, ReadLent, Reads}
use Rattle.packets.specs.Packet.{wrote, Heading}
use Rattle.adaptation.specs.declared.al1m.Judgement.{Judgement}

abbrev pub answer : Told ℕ → ℤ
answer (told n) = pos n
answer (refused k) = neg_ℤ (pos k)

abbrev pub one_number : ℕ → ℕ → ℕ → ℕ
one_number b c t = b + 256 * c + 65536 * t

abbrev pub packed : Judgement → ℕ
packed j = one_number (badge_number j.badge) j.changed j.length

abbrev pub receive_answer : Result Judgement Refusal → ℤ
receive_answer (Ok j) = pos (packed j)
receive_answer (Err r) = neg_ℤ (pos (number r))

pub record EncodeIs (b e : ℕ) (u before : List ℕ) (r : ℤ) (after : List ℕ) : Type 0 where
  pub outcome : Result ℕ Refusal
  pub encoded : Sends b e u before outcome after
  pub number : r ≡ answer (says outcome)

pub record ReceiveIs (b e : ℕ) (w : List ℕ) (before : RepairLent) (r : ℤ) (after : RepairLent) : Type 0 where
  pub outcome : Result Judgement Refusal
  pub received : Receives b e w before outcome after
  pub number : r ≡ receive_answer outcome

abbrev pub lent_to : List ℕ → List ℕ → ReadLent
lent_to n o = record { numbers = n; octets = o }

pub record RecordWriteIs (n o before : List ℕ) (r : ℤ) (after : List ℕ) : Type 0 where
  pub outcome : Told ℕ
  pub writes : Writes n o before (ended outcome after)
  pub number : r ≡ answer outcome

pub record RecordReadIs (s n o : List ℕ) (r : ℤ) (m p : List ℕ) : Type 0 where
  pub outcome : Told ℕ
  pub reads : Reads s (lent_to n o) (ended outcome (lent_to m p))
  pub number : r ≡ answer outcome

-- ---- packets

abbrev pub is_complemented : ℕ → Bool
is_complemented n = not (eqb n 0)

pub record PacketWriteIs (o c m : ℕ) (xs before : List ℕ) (r : ℤ) (after : List ℕ) : Type 0 where
  pub outcome : Told ℕ
  pub writes : ended outcome after ≡ wrote (is_complemented o) c (is_complemented m) xs before
  pub number : r ≡ answer outcome

abbrev pub packet_number : (code : ℕ) (mark : Bool) (length : ℕ) → ℕ
packet_number c m n = c + 16 * cond m 1 0 + 256 * n

abbrev pub packet_says : Told Heading → Told ℕ
packet_says (told p) = told (packet_number p.code p.mark p.length)
packet_says (refused k) = refused k
