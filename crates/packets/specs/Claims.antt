-- What is claimed of packets, over every input (document 02, ticket 4); proofs/Theorems.antt proves each claim. What is claimed of the code itself is in
-- the specs/Claims.antt of `golay`.
--
--   FlagsAre         the flag is E1 4D; the complement adds up with it to ones
--   column_at c n i   the column of B.3.2.1.3, from the top: MC1 to MC4, then MPL1 to MPL8
--   FieldsStand c n  figure B.2, field by field: MC, MPL and P in the three octets, P by the clause's equation, bit by bit
--   HeaderIsWord     the 24 bits of a header are the code's word of its data, so that what is claimed of the code is claimed of it
--   WrongBitsAre     the wrong bits of a header are those of its three octets
--   PacketIs         a packet is flag, header, payload and closing flag (B.3.1)
--   FillPacket       code 0 and length 0: three octets of 0 between the flags (B.3.2.3)
--   Carries u p      u begins with a packet that says p: intact flags, and a header of which at most three bits are wrong
--   ReadExactly      reading tells of a packet exactly if there is one
--   CarriesOne       .. and never of two
--   BeginsWithFlag u   one of the two flags stands in front
--   HeaderStands u   .. and three octets behind it
--   Says u c n       these are the header of code c and length n, to within three bits
--   PayloadLies      the payload that a packet carries is the one that lies there
--   OfReading u      when each refusal is given
--   CutShort         a packet of which the end is missing, wherever it is cut, is refused with 15
--   LengthUnused     a header that says 255, to within three bits, behind a flag, is refused with 2
--   OfWriting        when writing gives each refusal, and that nothing lent has changed then
--   WriteAnswered    .. and what it leaves where it gives none
--   SaysSo           what the result of a reading says: each of its parts under its name
--   ReadBack         reading what was written, whatever stands behind it, tells what was handed in, and the payload lies there
--   NextFlag         the next packet's flag lies where it is told, and is the closing flag
--   Packets          all of these
--
-- Assumes nothing.
use Rattle.std.specs.Prelude.{◌≡◌, ◌↔◌, ◌⊎◌, Bool, true, false, cond, List, [], ◌∷◌, ◌++◌, ℕ, ◌+◌, ◌*◌, ◌-◌, ◌/◌, ◌%◌, ◌≤◌, ◌<◌, ltb, length, get_or, take, drop, Ok, Err}
use Rattle.calls.specs.Refusal.{refused, told, leaving, number}
use Rattle.golay.specs.Matrix.{matrix}
use Rattle.golay.specs.Code.{code_word, distance}
use Rattle.golay.specs.Claims.{total, bit_at}
use Rattle.packets.specs.Flag.{flag_of}
use Rattle.packets.specs.Header.{data_of, header_of, header_word, wrong_bits}
use Rattle.packets.specs.Packet.{packet_of, wrote, Heading, heading, read, payload_at, read_says}
use Rattle.calls.specs.declared.Refusal.{Refusal}

abbrev pub FlagsAre : Type 0
FlagsAre = (flag_of false ≡ 225 ∷ 77 ∷ []) × (flag_of true ≡ 30 ∷ 178 ∷ []) × ((i : ℕ) → i < 2 → get_or (flag_of false) i 0 + get_or (flag_of true) i 0 ≡ 255)

abbrev pub column_at : (code length i : ℕ) → ℕ
column_at c n i = cond (ltb i 4) (bit_at c i) (bit_at n (i - 4))

pub record FieldsStand (c n : ℕ) : Type 0 where
  pub three : length (header_of c n) ≡ 3
  pub octets : (i : ℕ) → i < 3 → get_or (header_of c n) i 0 < 256
  -- MC in bits 1 to 4 of octet 1; MPL1 to MPL4 in its bits 5 to 8, MPL5 to MPL8 in bits 1 to 4 of octet 2; P1 to P4 in its bits 5 to 8, P5 to P12 in octet 3
  pub code : get_or (header_of c n) 0 0 % 16 ≡ c
  pub length : get_or (header_of c n) 0 0 / 16 + get_or (header_of c n) 1 0 % 16 * 16 ≡ n
  pub parity : (j : ℕ) → j < 12
      → bit_at (get_or (header_of c n) 1 0 / 16 + get_or (header_of c n) 2 0 * 16) j ≡ total 12 (λ i. bit_at (get_or matrix i 0) j * column_at c n i) % 2

abbrev pub HeaderIsWord : Type 0
HeaderIsWord = (c n : ℕ) → c < 16 → n < 256 → header_word (header_of c n) ≡ code_word (data_of c n)

abbrev pub WrongBitsAre : Type 0
WrongBitsAre =
    (h g : List ℕ) → ((i : ℕ) → i < 3 → (get_or h i 0 < 256) × (get_or g i 0 < 256)) → wrong_bits h g ≡ total 3 (λ i. distance (get_or h i 0) (get_or g i 0))

abbrev pub PacketIs : Type 0
PacketIs = (o : Bool) (c : ℕ) (m : Bool) (xs : List ℕ) → packet_of o c m xs ≡ flag_of o ++ header_of c (length xs) ++ xs ++ flag_of m

abbrev pub FillPacket : Type 0
FillPacket = (o m : Bool) → packet_of o 0 m [] ≡ flag_of o ++ 0 ∷ 0 ∷ 0 ∷ flag_of m

-- ---- reading

pub record Carries (u : List ℕ) (p : Heading) : Type 0 where
  pub opens : Bool
  pub header : List ℕ
  pub payload : List ℕ
  pub rest : List ℕ
  pub is : u ≡ flag_of opens ++ header ++ payload ++ flag_of p.mark ++ rest
  pub three : length header ≡ 3
  pub near : wrong_bits header (header_of p.code p.length) ≤ 3
  pub code : p.code ≤ 15
  pub long : length payload ≡ p.length
  pub fits : p.length ≤ 254
  pub next : p.next ≡ 5 + p.length

abbrev pub ReadExactly : Type 0
ReadExactly = (u : List ℕ) (p : Heading) → read u ≡ told p ↔ Carries u p

abbrev pub CarriesOne : Type 0
CarriesOne = (u : List ℕ) (p q : Heading) → Carries u p → Carries u q → p ≡ q

abbrev pub PayloadLies : Type 0
PayloadLies = (u : List ℕ) (p : Heading) (c : Carries u p) → payload_at p.length u ≡ c.payload

-- what u begins with
abbrev pub BeginsWithFlag : List ℕ → Type 0
BeginsWithFlag u = (m : Bool) × (take 2 u ≡ flag_of m)

abbrev pub HeaderStands : List ℕ → Type 0
HeaderStands u = BeginsWithFlag u × (5 ≤ length u)

abbrev pub Says : List ℕ → (code length : ℕ) → Type 0
Says u c n = (c ≤ 15) × (n ≤ 255) × (wrong_bits (take 3 (drop 2 u)) (header_of c n) ≤ 3)

pub record OfReading (u : List ℕ) : Type 0 where
  pub read17 : read u ≡ refused 17 ↔ (HeaderStands u × ((c n : ℕ) → Says u c n → ⊥))
  pub read2 : read u ≡ refused 2 ↔ (HeaderStands u × (c : ℕ) × Says u c 255)
  pub read15 : read u ≡ refused 15
      ↔ ((BeginsWithFlag u → ⊥) ⊎ ((length u < 5) ⊎ (HeaderStands u × (c : ℕ) × (n : ℕ) × Says u c n × (n ≤ 254) × (BeginsWithFlag (drop (5 + n) u) → ⊥))))
  pub others : (k : ℕ) → read u ≡ refused k → (k ≡ 15) ⊎ ((k ≡ 17) ⊎ (k ≡ 2))

abbrev pub CutShort : Type 0
CutShort =
    (o m : Bool) (c n : ℕ) (xs : List ℕ) → c ≤ 15 → length xs ≤ 254 → n < length (packet_of o c m xs) → read (take n (packet_of o c m xs)) ≡ refused 15

abbrev pub LengthUnused : Type 0
LengthUnused =
    (o : Bool) (c : ℕ) (h rest : List ℕ) → c ≤ 15 → length h ≡ 3 → wrong_bits h (header_of c 255) ≤ 3 → read (flag_of o ++ h ++ rest) ≡ refused 2

-- ---- writing

pub record OfWriting (o : Bool) (c : ℕ) (m : Bool) (xs before : List ℕ) : Type 0 where
  pub write4 : (wrote o c m xs before).answer ≡ refused 4 ↔ (15 < c)
  pub write2 : (wrote o c m xs before).answer ≡ refused 2 ↔ ((c ≤ 15) × (254 < length xs))
  pub write3 : (wrote o c m xs before).answer ≡ refused 3 ↔ ((c ≤ 15) × ((length xs ≤ 254) × (length before < length xs + 7)))
  pub others : (k : ℕ) → (wrote o c m xs before).answer ≡ refused k → ((k ≡ 4) ⊎ ((k ≡ 2) ⊎ (k ≡ 3))) × ((wrote o c m xs before).left ≡ before)

abbrev pub WriteAnswered : Type 0
WriteAnswered =
    (o : Bool) (c : ℕ) (m : Bool) (xs before after : List ℕ) (n : ℕ) → wrote o c m xs before ≡ leaving n after
    → (n ≡ length xs + 7) × (take n after ≡ packet_of o c m xs) × (drop n after ≡ drop n before) × (length after ≡ length before)

-- ---- both

abbrev pub SaysSo : Type 0
SaysSo =
    (c : ℕ) (m : Bool) (n next : ℕ) (r : Refusal)
    → (read_says (Ok (record { code = record { 0 = c }; mark = m; length = n; next = next }))
    ≡ told (record { code = c; mark = m; length = n; next = next }))
    × (read_says (Err r) ≡ refused (number r))

abbrev pub ReadBack : Type 0
ReadBack =
    (o : Bool) (c : ℕ) (m : Bool) (xs before after rest : List ℕ) (n : ℕ) → wrote o c m xs before ≡ leaving n after
    → (read (take n after ++ rest) ≡ told (heading c m (length xs))) × (payload_at (length xs) (take n after ++ rest) ≡ xs)

abbrev pub NextFlag : Type 0
NextFlag = (u : List ℕ) (p : Heading) → read u ≡ told p → take 2 (drop p.next u) ≡ flag_of p.mark

pub record Packets : Type 0 where
  pub flags_are : FlagsAre
  pub fields_stand : (c n : ℕ) → c < 16 → n < 256 → FieldsStand c n
  pub header_is_word : HeaderIsWord
  pub wrong_bits_are : WrongBitsAre
  pub packet_is : PacketIs
  pub fill_packet : FillPacket
  pub read_exactly : ReadExactly
  pub carries_one : CarriesOne
  pub payload_lies : PayloadLies
  pub of_reading : (u : List ℕ) → OfReading u
  pub cut_short : CutShort
  pub length_unused : LengthUnused
  pub of_writing : (o : Bool) (c : ℕ) (m : Bool) (xs before : List ℕ) → OfWriting o c m xs before
  pub write_answered : WriteAnswered
  pub says_so : SaysSo
  pub read_back : ReadBack
  pub next_flag : NextFlag
