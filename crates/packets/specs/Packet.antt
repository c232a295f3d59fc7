-- A packet of level 2 (B.3.1 to B.3.3; document 02, ticket 4): flag, header, payload, closing flag. Either form of the flag opens it, since the closing
-- flag of the packet before is its first; as closing flag the complement is the closing mark.
--
--   longest                 the octets of the longest payload: a length of 255 is not used (B.3.2.1.2)
--   packet_of o c m xs       the packet of code c, mark m and payload xs, opened by the flag o
--   write_tests, wrote       what refuses the writing of one, in this order, and how it ends
--   Heading                 what a packet says: its code, its mark, how many octets its payload has, and how many octets on the next packet's flag lies
--   header_in u              what the header of the packet u begins with is read as: the data within three bits, if there are any
--   is_found, found          there are; they
--   code_in, length_in        the code and the length that they are
--   heading c m n           what a packet of code c, mark m and n octets says
--   is_mark f                the closing flag f is the closing mark
--   closing_in u             which flag closes the packet that u begins with
--   read_tests u             what refuses the reading of u, in this order
--   read u                  what the packet says that u begins with, or the refusal's number
--   closed c n f            .. of a packet of code c and length n that the flag f closes
--   payload_at n u           where a payload of n octets lies in a packet: behind flag and header
--   read_says r              what the result of a reading says
--
-- Assumes nothing.
use Rattle.std.specs.Prelude.{Bool, true, false, cond, not, List, [], ◌∷◌, ◌++◌, ℕ, ◌+◌, ◌/◌, ◌%◌, ltb, length, take, drop, Option, Some, None, Result, Ok, Err}
use Rattle.octets.specs.Written.{written}
use Rattle.calls.specs.Refusal.{Told, refused, told, Ended, leaving, refusing, Test, ◌when◌, checked, number}
use Rattle.table.specs.Table.{highest_code}
use Rattle.golay.specs.Code.{nearest}
use Rattle.calls.specs.declared.Refusal.{Refusal}
use Rattle.packets.specs.Flag.{flag_of, is_complement, flag_in, is_neither}
use Rattle.packets.specs.Header.{header_of, header_word}
use Rattle.packets.specs.declared.Packet.{Packet}
use Rattle.packets.specs.declared.flags.Flag.{Flag}

abbrev pub longest : ℕ
longest = 254

-- ---- writing

abbrev pub packet_of : (opens : Bool) (code : ℕ) (mark : Bool) → List ℕ → List ℕ
packet_of o c m xs = flag_of o ++ header_of c (length xs) ++ xs ++ flag_of m

abbrev pub write_tests : (code : ℕ) (payload : List ℕ) (room : ℕ) → List Test
write_tests c xs room = 4 when ltb highest_code c ∷ 2 when ltb longest (length xs) ∷ 3 when ltb room (length xs + 7) ∷ []

unfoldable pub wrote : (opens : Bool) (code : ℕ) (mark : Bool) (payload before : List ℕ) → Ended ℕ (List ℕ)
wrote o c m xs before =
    checked (refusing before) (write_tests c xs (length before)) (leaving (length xs + 7) (written before 0 (packet_of o c m xs)))

-- ---- reading

pub record Heading : Type 0 where
  pub code : ℕ
  pub mark : Bool
  pub length : ℕ
  pub next : ℕ

abbrev pub header_in : List ℕ → Option ℕ
header_in u = nearest (header_word (drop 2 u))

abbrev pub is_found : Option ℕ → Bool
is_found (Some d) = true
is_found None = false

abbrev pub found : Option ℕ → ℕ
found (Some d) = d
found None = 0

abbrev pub code_in : List ℕ → ℕ
code_in u = found (header_in u) % 16

abbrev pub length_in : List ℕ → ℕ
length_in u = found (header_in u) / 16

abbrev pub heading : (code : ℕ) (mark : Bool) (length : ℕ) → Heading
heading c m n = record { code = c; mark = m; length = n; next = 5 + n }

abbrev pub is_mark : Option Flag → Bool
is_mark (Some f) = is_complement f
is_mark None = false

-- what stands behind the payload
abbrev pub closing_in : List ℕ → Option Flag
closing_in u = flag_in (drop (5 + length_in u) u)

abbrev pub read_tests : List ℕ → List Test
read_tests u =
    15 when is_neither (flag_in u)
    ∷ 15 when ltb (length u) 5
    ∷ 17 when not (is_found (header_in u))
    ∷ 2 when ltb longest (length_in u)
    ∷ 15 when is_neither (closing_in u)
    ∷ []

unfoldable pub read : List ℕ → Told Heading
read u = checked refused (read_tests u) (told (heading (code_in u) (is_mark (closing_in u)) (length_in u)))

-- .. of a packet of code c and length n that the flag f closes
abbrev pub closed : (code length : ℕ) → Option Flag → Told Heading
closed c n f = cond (is_neither f) (refused 15) (told (heading c (is_mark f) n))

abbrev pub payload_at : (length : ℕ) → List ℕ → List ℕ
payload_at n u = take n (drop 5 u)

abbrev pub read_says : Result Packet Refusal → Told Heading
read_says (Ok p) = told (record { code = p.code.0; mark = p.mark; length = p.length; next = p.next })
read_says (Err r) = refused (number r)
