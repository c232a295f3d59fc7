-- What is claimed of runs over packets (document 02, ticket 4): demands 2 and 3 from packets to units, where flags are intact and at most three bits
-- of each header are wrong. proofs/Theorems.antt proves each claim.
--
--   PacketRun R        a run of our library and our reader: both ends fresh, and packet events that are permitted
--   packet_beginning, packet_ending   both ends at first, and at its end
--   payload_in t u      the payload that was read in u
--   parcel_event, parcel_events   a packet event as events, and one behind another: the payload that was read arrives, and a fill packet is nothing
--   ParcelRun r        the run r event by event, with the payloads that were read, is a run of specs/Demand.antt with the same ends
--   Simulated          every run over packets is one, so that everything said of runs is said of it
--   OnWayPackable      what is on its way at the end of a run can be written as a packet
--   packet_called, over_packets   what a call adds to a list, of an event at the end i, and of a run over packets
--   packet_codings, packet_receptions   what AL2 sent and took with a number in it, in order
--   PacketsAsSent      where no octet of a payload changes, each end delivers on each channel the units wholly sent at the other, in order
--   PacketNumbers, PacketsByAL2, PacketsByPlainAL2, PacketsByAL1, PacketsByAL1M   what specs/Carried.antt claims of runs, of runs over packets.
--                      The last is demand 3: unit j delivered, at most e octets of it changed, is handed up as it was sent
--   FillLeaves         a fill packet is read as one, and what it carries finishes nothing and changes nothing
--   BringsExactly      octets bring a payload exactly where its packet is read, with the payload behind the header changed at most as R allows
--   WrittenBrings      what `write` writes, with anything behind it, brings the payload that was handed in
--   MayCome R x        what may come in x, and no less, which with `BringsExactly` is what ticket 4 says: any octets that bring the payload that
--                      comes next, any fill packet, a payload made with a room that a packet has, and whatever else may come in a run
--   GoesOn R           a run may have no events, and every run goes on with whatever may come
--   StreamIs           packets that were written one behind another: the first, and the others from behind the flag that they share
--   StreamBrings       a stream brings its first payload; and from where the next packet's flag lies, which is its closing flag, the others
--   StreamMade         .. and what does so is a stream
--   StreamWritten      packets that were written one behind another are a stream, with anything behind them
--   StreamRead         reading a stream in turn reads each payload, in order, with its code and mark
--   StreamReadBack     .. and of one as it was written exactly these
--   deaf k             a reader that refuses everything, with number k
--   marked m t         what was read, with m for its mark
--   by_opening          a reader that takes the mark from the flag that opens the packet
--   spotless h t       what was read of the header h, or refusal 17 where a bit of it is wrong
--   exacting           a reader that reads no header of which a bit is wrong
--   dozing             a reader that tells of a fill packet whatever comes
--   unless_fill t s     what was read, s, or t where it is a fill packet
--   at_fill t           a reader that is told t of fill packets, and reads all others
--   WrongReadersFail   none of these meets the demand
--   OverPackets        all of these
--
-- Assumes nothing.
use Rattle.std.specs.Prelude.{◌≡◌, ◌↔◌, Bool, true, false, cond, ◌&&◌, List, [], ◌∷◌, ◌++◌, ℕ, ◌≤◌, eqb, length, take, drop}
use Rattle.octets.specs.Same.{same}
use Rattle.octets.specs.Each.{Each}
use Rattle.calls.specs.Refusal.{Told, refused, told, leaving}
use Rattle.packets.specs.Flag.{flag_of, is_flag}
use Rattle.packets.specs.Header.{header_of}
use Rattle.packets.specs.Packet.{packet_of, Heading, heading, wrote, read}
use Rattle.multiplex.specs.Calls as call
use Rattle.multiplex.specs.Calls.{Link, Call, Answer, finished, called}
use Rattle.runs.specs.Runs.{Side, other, Parcel, World, end_at, Lent, begin, Event, both, calls, posts, pays, arrives}
use Rattle.runs.specs.Demand.{Permitted}
use Rattle.runs.specs.Carried.{Run, beginning, ending, Coding, Reception, coded_by, taken_by, called_at}
use Rattle.runs.specs.Carried.{FollowIn, UnitsAsSent, ByAL1, ByAL2, ByPlainAL2, ByAL1M}
use Rattle.runs.specs.Packets.{Brings, fill, Packable, AllPackable, Stream, bodies_of, stream_of, Reader, parcel_at, read_all, ParcelAlike}
use Rattle.runs.specs.Hearing.{PacketEvent, does, hears, fills, packet_step, packet_run, PacketPermitted, PacketsPermitted, PacketDemand}

-- ---- a run over packets

pub record PacketRun (R : ℕ → ℕ → Type 0) : Type 0 where
  pub lent : Lent
  pub events : List PacketEvent
  pub permitted : PacketsPermitted R read (begin lent) events

module _ {R : ℕ → ℕ → Type 0} (r : PacketRun R) where
  abbrev pub packet_beginning : World
  packet_beginning = begin r.lent

  abbrev pub packet_ending : World
  packet_ending = packet_run read packet_beginning r.events

abbrev pub payload_in : Told Heading → List ℕ → List ℕ
payload_in (refused k) u = []
payload_in (told p) u = (parcel_at p u).octets

abbrev pub parcel_event : PacketEvent → List Event
parcel_event (does e) = e ∷ []
parcel_event (hears i u output units) = arrives i (payload_in (read u) u) output units ∷ []
parcel_event (fills i u output units) = []

unfoldable pub parcel_events : List PacketEvent → List Event
parcel_events [] = []
parcel_events (e ∷ es) = parcel_event e ++ parcel_events es

pub record ParcelRun {R : ℕ → ℕ → Type 0} (r : PacketRun R) : Type 0 where
  pub run : Run R
  pub events : run.events ≡ parcel_events r.events
  pub begins : beginning run ≡ packet_beginning r
  pub ends : ending run ≡ packet_ending r

abbrev pub Simulated : Type 1
Simulated = (R : ℕ → ℕ → Type 0) (r : PacketRun R) → ParcelRun r

abbrev pub OnWayPackable : Type 1
OnWayPackable = (R : ℕ → ℕ → Type 0) (r : PacketRun R) (i : Side) → AllPackable (end_at (packet_ending r) i).coming

-- ---- from packets to units

abbrev pub packet_called : {A : Type 0} → (Call → Answer → List A) → World → Side → PacketEvent → List A
packet_called f x i (does e) = called_at f x i e
packet_called f x i (hears j u output units) = []
packet_called f x i (fills j u output units) = []

unfoldable pub over_packets : {A : Type 0} → (Call → Answer → List A) → World → Side → List PacketEvent → List A
over_packets f x i [] = []
over_packets f x i (e ∷ es) = packet_called f x i e ++ over_packets f (packet_step read x e) i es

module _ {R : ℕ → ℕ → Type 0} (r : PacketRun R) (i : Side) (n : ℕ) where
  abbrev pub packet_codings : List Coding
  packet_codings = over_packets (coded_by n) (packet_beginning r) i r.events

  abbrev pub packet_receptions : List Reception
  packet_receptions = over_packets (taken_by n) (packet_beginning r) i r.events

abbrev pub PacketsAsSent : Type 0
PacketsAsSent = (r : PacketRun ◌≡◌) → UnitsAsSent (packet_ending r)

abbrev pub PacketNumbers : Type 1
PacketNumbers = (R : ℕ → ℕ → Type 0) (r : PacketRun R) (i : Side) (n : ℕ) → FollowIn (packet_codings r i n) (packet_receptions r i n)

abbrev pub PacketsByAL2 : Type 0
PacketsByAL2 = (r : PacketRun ◌≡◌) (i : Side) (n : ℕ) → ByAL2 (packet_ending r) i n (packet_codings r i n) (packet_receptions r (other i) n)

abbrev pub PacketsByPlainAL2 : Type 0
PacketsByPlainAL2 = (r : PacketRun ◌≡◌) → ByPlainAL2 (packet_ending r)

abbrev pub PacketsByAL1 : Type 0
PacketsByAL1 = (r : PacketRun ◌≡◌) → ByAL1 (packet_ending r)

abbrev pub PacketsByAL1M : Type 1
PacketsByAL1M = (R : ℕ → ℕ → Type 0) (r : PacketRun R) → ByAL1M (packet_ending r)

-- ---- packets as they are written, and one behind another

abbrev pub FillLeaves : Type 1
FillLeaves =
    (R : ℕ → ℕ → Type 0) (u output units : List ℕ) (x : Link) → Brings R fill u
    → (read u ≡ told (heading 0 false 0))
    × (called x (call.demultiplexing 0 false [] output units) ≡ leaving (finished 0 output units) x)

abbrev pub BringsExactly : Type 1
BringsExactly =
    (R : ℕ → ℕ → Type 0) (q : Parcel) (u : List ℕ) → Packable q
    → Brings R q u
    ↔ ((read u ≡ told (heading q.code q.mark (length q.octets))) × Each R q.octets (take (length q.octets) (drop 5 u)))

abbrev pub WrittenBrings : Type 1
WrittenBrings =
    (R : ℕ → ℕ → Type 0) → ((a : ℕ) → R a a) → (o : Bool) (c : ℕ) (m : Bool) (xs before after rest : List ℕ) (n : ℕ)
    → wrote o c m xs before ≡ leaving n after → Brings R (record { code = c; mark = m; octets = xs }) (take n after ++ rest)

pub record MayCome (R : ℕ → ℕ → Type 0) (x : World) : Type 0 where
  pub heard : (i : Side) (q : Parcel) (rest : List Parcel) (u output units : List ℕ) → (end_at x i).coming ≡ q ∷ rest → Brings R q u
      → PacketPermitted R x (hears i u output units)
  pub filled : (i : Side) (u output units : List ℕ) → Brings R fill u → PacketPermitted R x (fills i u output units)
  pub paid : (i : Side) (c room : ℕ) (payload : List ℕ) → room ≤ 254 → PacketPermitted R x (does (pays i c room payload))
  pub both_call : (c : Call) → Permitted R x (both c) → PacketPermitted R x (does (both c))
  pub called : (i : Side) (c : Call) → Permitted R x (calls i c) → PacketPermitted R x (does (calls i c))
  pub posted : (i : Side) (n : ℕ) (u : List ℕ) → Permitted R x (posts i n u) → PacketPermitted R x (does (posts i n u))

pub record GoesOn (R : ℕ → ℕ → Type 0) : Type 0 where
  pub first : (l : Lent) → (s : PacketRun R) × (s.lent ≡ l) × (s.events ≡ [])
  pub next : (r : PacketRun R) (e : PacketEvent) → PacketPermitted R (packet_ending r) e
      → (s : PacketRun R) × (s.lent ≡ r.lent) × (s.events ≡ r.events ++ e ∷ [])
  pub may : (x : World) → MayCome R x

abbrev pub StreamIs : Type 0
StreamIs =
    (o : Bool) (q : Parcel) (qs : List Parcel)
    → stream_of o (q ∷ qs) ≡ packet_of o q.code q.mark q.octets ++ drop 2 (stream_of q.mark qs)

abbrev pub StreamBrings : Type 1
StreamBrings =
    (R : ℕ → ℕ → Type 0) (o : Bool) (q : Parcel) (qs : List Parcel) (v : List ℕ) → Stream R (q ∷ qs) v
    → Brings R q (flag_of o ++ v)
    × ((w : List ℕ) × (drop (heading q.code q.mark (length q.octets)).next (flag_of o ++ v) ≡ flag_of q.mark ++ w) × Stream R qs w)

abbrev pub StreamMade : Type 1
StreamMade =
    (R : ℕ → ℕ → Type 0) (o : Bool) (q : Parcel) (qs : List Parcel) (v w : List ℕ) → Brings R q (flag_of o ++ v)
    → drop (heading q.code q.mark (length q.octets)).next (flag_of o ++ v) ≡ flag_of q.mark ++ w → Stream R qs w → Stream R (q ∷ qs) v

abbrev pub StreamWritten : Type 1
StreamWritten = (R : ℕ → ℕ → Type 0) → ((a : ℕ) → R a a) → (qs : List Parcel) (rest : List ℕ) → Stream R qs (bodies_of qs ++ rest)

abbrev pub StreamRead : Type 1
StreamRead =
    (R : ℕ → ℕ → Type 0) (o : Bool) (qs : List Parcel) (v : List ℕ) → AllPackable qs → Stream R qs v
    → Each (ParcelAlike R) qs (read_all read (length qs) (flag_of o ++ v))

abbrev pub StreamReadBack : Type 0
StreamReadBack = (o : Bool) (qs : List Parcel) (rest : List ℕ) → AllPackable qs → read_all read (length qs) (stream_of o qs ++ rest) ≡ qs

-- ---- wrong readers

abbrev pub deaf : ℕ → Reader
deaf k u = refused k

abbrev pub marked : Bool → Told Heading → Told Heading
marked m (refused k) = refused k
marked m (told p) = told (heading p.code m p.length)

abbrev pub by_opening : Reader
by_opening u = marked (is_flag true u) (read u)

abbrev pub spotless : (header : List ℕ) → Told Heading → Told Heading
spotless h (refused k) = refused k
spotless h (told p) = cond (same h (header_of p.code p.length)) (told p) (refused 17)

abbrev pub exacting : Reader
exacting u = spotless (take 3 (drop 2 u)) (read u)

abbrev pub dozing : Reader
dozing u = told (heading 0 false 0)

abbrev pub unless_fill : Told Heading → Told Heading → Told Heading
unless_fill t (refused k) = refused k
unless_fill t (told p) = cond (eqb p.code 0 && eqb p.length 0) t (told p)

abbrev pub at_fill : Told Heading → Reader
at_fill t u = unless_fill t (read u)

pub record WrongReadersFail : Type 1 where
  pub deaf_fails : (k : ℕ) → PacketDemand (deaf k) → ⊥
  pub by_opening_fails : PacketDemand by_opening → ⊥
  pub exacting_fails : PacketDemand exacting → ⊥
  pub dozing_fails : PacketDemand dozing → ⊥
  pub deaf_to_fill_fails : (k : ℕ) → PacketDemand (at_fill (refused k)) → ⊥
  pub marks_fill_fails : PacketDemand (at_fill (told (heading 0 true 0))) → ⊥

pub record OverPackets : Type 1 where
  pub simulated : Simulated
  pub packable : OnWayPackable
  pub demand : PacketDemand read
  pub as_sent : PacketsAsSent
  pub numbers : PacketNumbers
  pub by_al1 : PacketsByAL1
  pub by_al2 : PacketsByAL2
  pub by_plain_al2 : PacketsByPlainAL2
  pub by_al1_m : PacketsByAL1M
  pub fill : FillLeaves
  pub brings : BringsExactly
  pub written : WrittenBrings
  pub goes_on : (R : ℕ → ℕ → Type 0) → GoesOn R
  pub stream_is : StreamIs
  pub stream_brings : StreamBrings
  pub stream_made : StreamMade
  pub stream_written : StreamWritten
  pub stream_read : StreamRead
  pub stream_read_back : StreamReadBack
  pub wrong_readers : WrongReadersFail
