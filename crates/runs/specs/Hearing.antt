-- Runs in which payloads come as packets (document 02, ticket 4): demand 2 from packets to units.
--
--   PacketEvent            does e               an event of a run, but no payload that arrives
--                          hears i u ..         end i reads the octets u, which the oldest payload on its way comes as; the code, the mark and the
--                                               payload that it is told are given to it, with some room for what it delivers
--                          fills i u ..         end i reads the octets u, which begin with a fill packet: none that is on its way. It is given what it is
--                                               told in the same way
--   hearing t e l u ..     an end after that, where it was told t: where reading is refused the packet is lost, and counts as refused; where the
--                          demultiplexer refuses for want of room (3), it stays on its way
--   filling t e u ..       .. after a fill packet: as if that came before all that is on its way, but it counts as no payload that came
--   packet_step, packet_run  one event, and one behind another, where the reader is f
--   PacketPermitted R x e  the event e may come in x: as in `Permitted`, but a payload is made with a room that a packet has, and what is heard
--                          brings the oldest payload, flags intact, at most three bits of the header wrong, and each octet of the payload
--                          changed at most as R allows; or it is a fill packet, flags intact, at most three bits of the header wrong
--   PacketsPermitted       .. one event behind another
--   Hears f e              an end takes the packet that comes next, whatever changed in its payload, if the room is enough
--   PacketsDeliver R f x   what demand 2 says of both ends, and that both hear
--   PacketDemand f         so it is after every run of permitted events, whatever changes R allows
--
-- Assumes nothing.
use Rattle.std.specs.Prelude.{◌≡◌, List, [], ◌∷◌, ℕ, ◌≤◌, length}
use Rattle.calls.specs.Refusal.{Told, refused, told, refusing}
use Rattle.packets.specs.Packet.{longest, Heading}
use Rattle.multiplex.specs.Units.{enough_output, enough_units}
use Rattle.multiplex.specs.Calls.{ours}
use Rattle.runs.specs.Runs.{Side, Parcel, End, World, end_at, Lent, begin, Event, both, calls, posts, pays, arrives, taking, arriving, after, step}
use Rattle.runs.specs.Demand.{Permitted, Delivers}
use Rattle.runs.specs.Packets.{Brings, fill, Reader, parcel_at}

pub data PacketEvent : Type 0 where
  does : Event → PacketEvent
  hears : Side → (octets output units : List ℕ) → PacketEvent
  fills : Side → (octets output units : List ℕ) → PacketEvent

-- what was read decides, and not the payload that was sent
abbrev pub hearing : Told Heading → End → List Parcel → (octets output units : List ℕ) → End
hearing t e [] u output units = e
hearing (refused k) e (q ∷ rest) u output units = taking e rest (refusing e.link k)
hearing (told p) e (q ∷ rest) u output units =
    arriving (λ before. ours) e (parcel_at p u ∷ rest) (parcel_at p u).octets output units

abbrev pub filling : Told Heading → End → (octets output units : List ℕ) → End
filling t e u output units =
    let h = hearing t e (fill ∷ e.coming) u output units in
    record { link = h.link; coming = h.coming; came = e.came; refusals = h.refusals; posted = h.posted; delivered = h.delivered }

unfoldable pub packet_step : Reader → World → PacketEvent → World
packet_step f x (does e) = step (λ before. ours) x e
packet_step f x (hears i u output units) = after x i (hearing (f u) (end_at x i) (end_at x i).coming u output units) []
packet_step f x (fills i u output units) = after x i (filling (f u) (end_at x i) u output units) []

unfoldable pub packet_run : Reader → World → List PacketEvent → World
packet_run f x [] = x
packet_run f x (e ∷ es) = packet_run f (packet_step f x e) es

-- ---- what may come

abbrev pub PacketPermitted : (ℕ → ℕ → Type 0) → World → PacketEvent → Type 0
PacketPermitted R x (does (both c)) = Permitted R x (both c)
PacketPermitted R x (does (calls i c)) = Permitted R x (calls i c)
PacketPermitted R x (does (posts i n u)) = Permitted R x (posts i n u)
PacketPermitted R x (does (pays i c room payload)) = room ≤ longest
PacketPermitted R x (does (arrives i xs output units)) = ⊥
PacketPermitted R x (hears i u output units) = (q : Parcel) × (rest : List Parcel) × ((end_at x i).coming ≡ q ∷ rest) × Brings R q u
PacketPermitted R x (fills i u output units) = Brings R fill u

unfoldable pub PacketsPermitted : (ℕ → ℕ → Type 0) → Reader → World → List PacketEvent → Type 0
PacketsPermitted R f x [] = Unit {0}
PacketsPermitted R f x (e ∷ es) = PacketPermitted R x e × PacketsPermitted R f (packet_step f x e) es

-- ---- the demand

abbrev pub Hears : Reader → End → Type 0
Hears f e =
    (q : Parcel) (rest : List Parcel) (u output units : List ℕ) → e.coming ≡ q ∷ rest → Brings (λ a b. Unit {0}) q u
    → enough_output ≤ length output → enough_units ≤ length units
    → ((hearing (f u) e e.coming u output units).coming ≡ rest) × ((hearing (f u) e e.coming u output units).refusals ≡ e.refusals)

pub record PacketsDeliver (R : ℕ → ℕ → Type 0) (f : Reader) (x : World) : Type 0 where
  pub delivers : Delivers R (λ before. ours) x
  pub takes : (i : Side) → Hears f (end_at x i)

abbrev pub PacketDemand : Reader → Type 1
PacketDemand f =
    (R : ℕ → ℕ → Type 0) (l : Lent) (es : List PacketEvent) → PacketsPermitted R f (begin l) es → PacketsDeliver R f (packet_run f (begin l) es)
