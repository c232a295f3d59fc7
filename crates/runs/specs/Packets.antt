-- Payloads that come as packets (document 02, ticket 4): the octets in which a packet lies, flags intact, and what is read of them.
--
--   Body R q v w       v is the packet of the payload q behind its opening flag, and w stands behind its closing flag: at most three bits of the
--                      header are wrong, and each octet of the payload has changed at most as R allows
--   Brings R q u       u begins with the packet of q, opened by either form of the flag
--   fill               what a fill packet brings: no octets, under code 0 (B.3.2.3), without the mark (B.3.3)
--   Packable q         a packet has room for q: a code of at most 15, and at most 254 octets
--   AllPackable        .. for each of a list
--   Stream R qs v      v has the packets of the payloads qs behind an opening flag, the closing flag of each being the next one's first
--   bodies_of, stream_of .. as they were written, behind the opening flag and with it
--   Reader             what may stand for the packets' `read`
--   parcel_at p u       what p says that u begins with: a code, a mark, and the payload where it lies
--   read_all f n u      n packets read in turn, each from where the one before says that the next one's flag lies
--   ParcelAlike R q p  p has q's code and mark, and q's octets changed at most as R allows
--
-- Assumes nothing.
use Rattle.std.specs.Prelude.{◌≡◌, Bool, false, List, [], ◌∷◌, ◌++◌, ℕ, zero, suc, ◌≤◌, length, drop}
use Rattle.octets.specs.Each.{Each}
use Rattle.calls.specs.Refusal.{Told}
use Rattle.table.specs.Table.{highest_code}
use Rattle.packets.specs.Flag.{flag_of}
use Rattle.packets.specs.Header.{header_of, wrong_bits}
use Rattle.packets.specs.Packet.{longest, Heading, payload_at}
use Rattle.runs.specs.Runs.{Parcel, added}

pub record Body (R : ℕ → ℕ → Type 0) (q : Parcel) (v w : List ℕ) : Type 0 where
  pub header : List ℕ
  pub payload : List ℕ
  pub is : v ≡ header ++ payload ++ flag_of q.mark ++ w
  pub three : length header ≡ 3
  pub few : wrong_bits header (header_of q.code (length q.octets)) ≤ 3
  pub changed : Each R q.octets payload

pub record Brings (R : ℕ → ℕ → Type 0) (q : Parcel) (u : List ℕ) : Type 0 where
  pub opens : Bool
  pub behind : List ℕ
  pub rest : List ℕ
  pub is : u ≡ flag_of opens ++ behind
  pub body : Body R q behind rest

abbrev pub fill : Parcel
fill = record { code = 0; mark = false; octets = [] }

abbrev pub Packable : Parcel → Type 0
Packable q = (q.code ≤ highest_code) × (length q.octets ≤ longest)

abbrev pub AllPackable : List Parcel → Type 0
AllPackable [] = Unit {0}
AllPackable (q ∷ qs) = Packable q × AllPackable qs

-- ---- one packet behind another

pub data Stream (R : ℕ → ℕ → Type 0) : List Parcel → List ℕ → Type 0 where
  stream-none : {v : List ℕ} → Stream R [] v
  stream-more : {q : Parcel} {qs : List Parcel} {v w : List ℕ} → Body R q v w → Stream R qs w → Stream R (q ∷ qs) v

unfoldable pub bodies_of : List Parcel → List ℕ
bodies_of [] = []
bodies_of (q ∷ qs) = header_of q.code (length q.octets) ++ q.octets ++ flag_of q.mark ++ bodies_of qs

abbrev pub stream_of : (opens : Bool) → List Parcel → List ℕ
stream_of o qs = flag_of o ++ bodies_of qs

-- ---- reading

abbrev pub Reader : Type 0
Reader = List ℕ → Told Heading

abbrev pub parcel_at : Heading → List ℕ → Parcel
parcel_at p u = record { code = p.code; mark = p.mark; octets = payload_at p.length u }

unfoldable pub read_all : Reader → (n : ℕ) → List ℕ → List Parcel
read_all f zero u = []
read_all f (suc n) u = added (f u) (λ p. parcel_at p u ∷ read_all f n (drop p.next u))

pub record ParcelAlike (R : ℕ → ℕ → Type 0) (q p : Parcel) : Type 0 where
  pub code : q.code ≡ p.code
  pub mark : q.mark ≡ p.mark
  pub octets : Each R q.octets p.octets
