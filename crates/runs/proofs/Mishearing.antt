-- Six readers that do not meet the demand. A unit of one octet is posted and sent on channel 0, and its packet is heard; or a fill packet is heard.
--
--   deaf-fails           the reader that refuses everything loses the packet
--   exacting-fails       so does the one that reads no header of which a bit is wrong, where one bit is
--   by-opening_fails     the one that takes the mark from the opening flag delivers no unit: the octet is held, as that of a longer unit would be
--   dozing-fails         the one that tells of a fill packet whatever comes delivers nothing
--   deaf_to-fill_fails   the one that refuses fill packets counts a refusal
--   marks-fill_fails     .. and so does the one that tells of a mark behind them, since the demultiplexer refuses it
--
-- Assumes nothing.
use mathlib.Core.Path.{◌≡◌, refl, sym, ap, ap₂, ◌∙◌}
use mathlib.Core.Bool.{Bool, true, false, cond}
use mathlib.Core.List.{List, [], ◌∷◌, ◌++◌}
use Prim.Native.Nat.{ℕ, ◌+◌, ◌≤◌}
use native.Mathlib.Omega.{arith}
use lib.Count.{ones, ones_in}
use lib.ListN.{length, take}
use Rattle.octets.specs.Each.{Each, each_none, each-length, each-any}
use Rattle.octets.specs.Same.{same}
use Rattle.octets.specs.Written.{written}
use Rattle.calls.specs.Refusal.{Told, refused, told, Ended, leaving}
use Rattle.table.specs.Form.{in_turn, element_as, list_as, tree_of}
use Rattle.table.specs.Slots.{slots, cut, payload_slots, octets_of}
use Rattle.table.specs.Table.{entry_of, is_defined}
use Rattle.golay.specs.Matrix.{matrix}
use Rattle.golay.specs.Code.{product, parity}
use Rattle.channels.specs.Search.{first}
use Rattle.channels.specs.Channels.{start, place_of, posted, all_octets, all_open}
use Rattle.packets.specs.Flag.{flag_of}
use Rattle.packets.specs.Header.{header_of, wrong_bits}
use Rattle.packets.specs.Packet.{Heading, heading, read}
use Rattle.multiplex.specs.Pieces.{total, placed, last_place}
use Rattle.multiplex.specs.Demultiplexer.{demultiplexed}
use Rattle.multiplex.specs.Multiplexer.{walked, gathered, multiplexed}
use Rattle.multiplex.specs.Units.{units_in, units_on, enough_output, enough_units}
use Rattle.multiplex.specs.Calls as call
use Rattle.multiplex.specs.Calls.{Link, Answer, finished, ours, called_by, called, begun}
use Rattle.runs.specs.Runs.{near, far, Parcel, End, World, Event, posts, pays, arrives, added, units_told, lacks_room, taking, arriving, step, run}
use Rattle.runs.specs.Demand.{PermittedAll, without_last, wholly_sent, Delivers}
use Rattle.runs.specs.Packets.{Brings, fill, Reader, parcel_at}
use Rattle.runs.specs.Hearing.{does, hears, fills, hearing, filling, packet_step, packet_run, PacketsPermitted, PacketsDeliver, PacketDemand}
use Rattle.runs.specs.OverPackets.{deaf, marked, by_opening, spotless, exacting, dozing, unless_fill, at_fill}
use Rattle.runs.proofs.Delivering.{demand_met}
use Rattle.runs.proofs.Failing.{blank, enough, blanks, world, output, units}
use Rattle.runs.proofs.Bringing.{said, brought-read}
use Rattle.runs.proofs.Filling.{no-slots, fill-leaves}
use Rattle.runs.proofs.Hearing.{unrefused}

-- any octet may have changed
abbrev Any : ℕ → ℕ → Type 0
Any a b = Unit {0}

-- ---- what is on its way

-- both ends once the first octet of a unit was sent
abbrev way : List ℕ → World
way u = run (λ j. ours) world (posts near 0 u ∷ pays near 0 1 (0 ∷ []) ∷ [])

-- what is on its way to the far end then, with or without the mark, and what was wholly sent
record OnWay (u : List ℕ) (mark : Bool) (sent : List (List ℕ)) : Type 0 where
  parcel : Parcel
  is : (way u).far_end.coming ≡ parcel ∷ []
  code : parcel.code ≡ 0
  marked_so : parcel.mark ≡ mark
  many : length parcel.octets ≡ 1
  fresh_still : (way u).far_end.link ≡ begun (blank all_octets) (blank all_octets)
  wholly : wholly_sent (way u).near_end 0 ≡ sent

one-octet : (g : List ℕ) → length (take 1 (written (0 ∷ []) 0 g)) ≡ 1
one-octet [] = refl
one-octet (a ∷ g) = refl

-- what is written to the payload, of the unit u
abbrev gathered_of : List ℕ → List ℕ
gathered_of u =
    let x : Link = (step (λ j. ours) world (posts near 0 u)).near_end.link in
    gathered x.channels x.waiting (walked x.channels (payload_slots (entry_of x.table 0) 1)).pieces

-- all of a unit of one octet, and the first octet of two
on_ways : OnWay (1 ∷ []) true ((1 ∷ []) ∷ []) × OnWay (1 ∷ 1 ∷ []) false []
unfolding run step called_by start place_of first posted multiplexed walked payload_slots cut slots tree_of list_as in_turn element_as entry_of is_defined total
    units_on without_last
on_ways = (
  record { parcel = _; is = refl; code = refl; marked_so = refl; many = one-octet (gathered_of (1 ∷ [])); fresh_still = refl; wholly = refl },
  record { parcel = _; is = refl; code = refl; marked_so = refl; many = one-octet (gathered_of (1 ∷ 1 ∷ [])); fresh_still = refl; wholly = refl },
)

abbrev all : OnWay (1 ∷ []) true ((1 ∷ []) ∷ [])
all = on_ways.0

abbrev half : OnWay (1 ∷ 1 ∷ []) false []
half = on_ways.1

-- ---- the packet as it is heard

abbrev q : Parcel
q = all.parcel

-- opened by the plain flag, with the header h and a payload of one octet
abbrev packet : List ℕ → List ℕ
packet h = flag_of false ++ (h ++ 7 ∷ [] ++ flag_of true ++ [])

brings : (h : List ℕ) → length h ≡ 3 → wrong_bits h (header_of 0 1) ≤ 3 → Brings Any q (packet h)
brings h three few = record {
  opens = false;
  behind = h ++ 7 ∷ [] ++ flag_of true ++ [];
  rest = [];
  is = refl;
  body = record {
    header = h;
    payload = 7 ∷ [];
    is = ap (λ (m : Bool). h ++ 7 ∷ [] ++ flag_of m ++ []) (sym all.marked_so);
    three = three;
    few = rw (all.code, all.many) few;
    changed = each-any Any (λ x y. tt) q.octets (7 ∷ []) all.many;
  };
}

is_read : (h : List ℕ) → Brings Any q (packet h) → read (packet h) ≡ told (said q)
is_read h b = brought-read b (omega (arith, all.code), omega (arith, all.many))

tried : (f : Reader) → PacketDemand f → (u : List ℕ) → Brings Any q u → PacketsDeliver Any f (packet_step f (way (1 ∷ [])) (hears far u output units))
unfolding packet_run packet_step PacketsPermitted run
tried f d u b =
    d Any blanks
    (does (posts near 0 (1 ∷ [])) ∷ does (pays near 0 1 (0 ∷ [])) ∷ hears far u output units ∷ [])
    (tt, (omega arith, ((q, [], all.is, b), tt)))

-- ---- a packet that is lost

lost : (f : Reader) → PacketDemand f → (u : List ℕ) → Brings Any q u → (k : ℕ) → f u ≡ refused k → ⊥
unfolding packet_step
lost f d u b k e =
    let z : (hearing (f u) (way (1 ∷ [])).far_end (way (1 ∷ [])).far_end.coming u output units).refusals ≡ 0 = (tried f d u b).delivers.unrefused far in
    let lose : (way (1 ∷ [])).far_end.refusals + 1 ≡ 0 = rw (e, all.is) at z in
    omega arith

-- the header as it was sent, and with its lowest bit wrong
abbrev sound : List ℕ
sound = 16 ∷ 48 ∷ 155 ∷ []

abbrev damaged : List ℕ
damaged = 17 ∷ 48 ∷ 155 ∷ []

sound-wrong : wrong_bits sound (header_of 0 1) ≡ 0
unfolding parity product matrix ones ones_in
sound-wrong = refl

damaged-wrong : wrong_bits damaged (header_of 0 1) ≡ 1
unfolding parity product matrix ones ones_in
damaged-wrong = refl

damaged-other : same damaged (header_of 0 1) ≡ false
unfolding parity product matrix
damaged-other = refl

sound-brings : Brings Any q (packet sound)
sound-brings = brings sound refl (omega (arith, sound-wrong))

damaged-brings : Brings Any q (packet damaged)
damaged-brings = brings damaged refl (omega (arith, damaged-wrong))

pub deaf-fails : (k : ℕ) → PacketDemand (deaf k) → ⊥
deaf-fails k d = lost (deaf k) d (packet sound) sound-brings k refl

pub exacting-fails : PacketDemand exacting → ⊥
exacting-fails d =
    lost exacting d (packet damaged) damaged-brings 17
    (ap (spotless damaged) (is_read damaged damaged-brings)
    ∙ ap (λ (s : Bool). cond s (told (said q)) (refused 17))
    (ap₂ (λ (c n : ℕ). same damaged (header_of c n)) all.code all.many ∙ damaged-other))

-- ---- the mark from the opening flag

-- the payload given to a fresh end, without the mark
abbrev got : Ended Answer Link
got = called (begun (blank all_octets) (blank all_octets)) (call.demultiplexing 0 false (7 ∷ []) output units)

-- .. as the first octet of two, which our library takes
abbrev first_of_two : List Event
first_of_two = posts near 0 (1 ∷ 1 ∷ []) ∷ pays near 0 1 (0 ∷ []) ∷ []

ours-delivers : (es : List Event) → PermittedAll Any (λ j. ours) world es → Delivers Any (λ j. ours) (run (λ j. ours) world es)
ours-delivers es p = demand_met Any blanks es p

got-told : (k : ℕ) → got.answer ≡ refused k → ⊥
unfolding run step PermittedAll
got-told k e =
    (ours-delivers first_of_two (tt, (tt, tt))).accepts far half.parcel [] (7 ∷ []) output units k half.is half.many (enough enough_output) (enough enough_units)
    (rw (half.code, half.marked_so) e)

-- an end that was fresh, after it
arrived : (e : End) (p : Parcel) → e.link ≡ begun (blank all_octets) (blank all_octets) → p.code ≡ 0 → p.mark ≡ false
    → arriving (λ j. ours) e (p ∷ []) (7 ∷ []) output units ≡ taking e [] got
arrived e p l n m =
    let is-got : called e.link (call.demultiplexing p.code p.mark (7 ∷ []) output units) ≡ got = rw (l, n, m) in
    ap (λ (r : Ended Answer Link). cond (lacks_room r.answer) e (taking e [] r)) is-got
    ∙ ap (λ (s : Bool). cond s e (taking e [] got)) (unrefused got.answer got-told).0

-- nothing of the first octet of two is delivered
got-none : length (units_on 0 (added got.answer units_told)) ≡ 0
unfolding run step PermittedAll
got-none =
    let x = way (1 ∷ 1 ∷ []) in
    let e = x.far_end in
    let d = ours-delivers (first_of_two ++ arrives far (7 ∷ []) output units ∷ [])
    (tt, (tt, ((half.parcel, [], half.is, each-any Any (λ x y. tt) half.parcel.octets (7 ∷ []) half.many), tt))) in
    let a : arriving (λ j. ours) e e.coming (7 ∷ []) output units ≡ taking e [] got =
    ap (λ (l : List Parcel). arriving (λ j. ours) e l (7 ∷ []) output units) half.is
    ∙ arrived e half.parcel half.fresh_still half.code half.marked_so in
    let k : Each (Each Any) (wholly_sent x.near_end 0) (units_on 0 (arriving (λ j. ours) e e.coming (7 ∷ []) output units).delivered)
    = d.complete near 0 (ap (λ (z : End). z.coming) a) in
    sym (ap (λ (l : List (List ℕ)). length l) (sym half.wholly) ∙ each-length (rw a at k))

-- the mark that is read is that of the plain flag
unmarked : by_opening (packet sound) ≡ told (heading 0 false 1)
unmarked = ap (marked false) (is_read sound sound-brings) ∙ ap₂ (λ (c n : ℕ). told (heading c false n)) all.code all.many

-- what becomes of the far end where the packet is read so that nothing is delivered
undelivered : (f : Reader) → PacketDemand f → (r : Ended Answer Link)
    → hearing (f (packet sound)) (way (1 ∷ [])).far_end (way (1 ∷ [])).far_end.coming (packet sound) output units ≡ taking (way (1 ∷ [])).far_end [] r
    → length (units_on 0 (added r.answer units_told)) ≡ 0 → ⊥
unfolding packet_step run step
undelivered f d r a none =
    let x = way (1 ∷ []) in
    let e = x.far_end in
    let u = packet sound in
    let k : Each (Each Any) (wholly_sent x.near_end 0) (units_on 0 (hearing (f u) e e.coming u output units).delivered)
    = (tried f d u sound-brings).delivers.complete near 0 (ap (λ (z : End). z.coming) a) in
    let one : 1 ≡ length (units_on 0 (added r.answer units_told)) = ap (λ (l : List (List ℕ)). length l) (sym all.wholly) ∙ each-length (rw a at k) in
    omega (arith, none)

pub by-opening_fails : PacketDemand by_opening → ⊥
by-opening_fails d =
    let e = (way (1 ∷ [])).far_end in
    let u = packet sound in
    undelivered by_opening d got
    (ap (λ (t : Told Heading). hearing t e e.coming u output units) unmarked
    ∙ ap (λ (l : List Parcel). hearing (told (heading 0 false 1)) e l u output units) all.is
    ∙ arrived e (parcel_at (heading 0 false 1) u) all.fresh_still refl refl) got-none

-- ---- a fill packet

-- as it is sent
abbrev fill_packet : List ℕ
fill_packet = flag_of false ++ (0 ∷ 0 ∷ 0 ∷ [] ++ flag_of false)

fill-wrong : wrong_bits (0 ∷ 0 ∷ 0 ∷ []) (header_of 0 0) ≡ 0
unfolding parity product matrix ones ones_in
fill-wrong = refl

is-fill : Brings Any fill fill_packet
is-fill = record {
  opens = false;
  behind = 0 ∷ 0 ∷ 0 ∷ [] ++ flag_of false;
  rest = [];
  is = refl;
  body = record { header = 0 ∷ 0 ∷ 0 ∷ []; payload = []; is = refl; three = refl; few = omega (arith, fill-wrong); changed = each_none };
}

-- what is told of it otherwise
fill-told : (t : Told Heading) → PacketDemand (at_fill t) → (filling t world.far_end fill_packet output units).refusals ≡ 0
unfolding packet_run packet_step PacketsPermitted
fill-told t d =
    let e = world.far_end in
    let is : at_fill t fill_packet ≡ t = ap (unless_fill t) (fill-leaves Any fill_packet output units e.link is-fill).0 in
    rw is at ((d Any blanks (fills far fill_packet output units ∷ []) (is-fill, tt)).delivers.unrefused far)

pub deaf_to-fill_fails : (k : ℕ) → PacketDemand (at_fill (refused k)) → ⊥
deaf_to-fill_fails k d = let one : 0 + 1 ≡ 0 = fill-told (refused k) d in omega arith

-- a mark behind no octet
marked_fill : (called (begun (blank all_octets) (blank all_octets)) (call.demultiplexing 0 true [] output units)).answer ≡ refused 7
unfolding called_by demultiplexed entry_of is_defined octets_of placed all_open start last_place
marked_fill = rw no-slots

pub marks-fill_fails : PacketDemand (at_fill (told (heading 0 true 0))) → ⊥
marks-fill_fails d =
    let one : 0 + 1 ≡ 0 = rw marked_fill at (fill-told (told (heading 0 true 0)) d) in
    omega arith

pub dozing-fails : PacketDemand dozing → ⊥
unfolding units_in units_on
dozing-fails d =
    let e = (way (1 ∷ [])).far_end in
    undelivered dozing d (leaving (finished 0 output units) e.link)
    (ap (λ (l : List Parcel). hearing (told (heading 0 false 0)) e l (packet sound) output units) all.is
    ∙ ap (λ (r : Ended Answer Link). cond (lacks_room r.answer) e (taking e [] r)) (fill-leaves Any fill_packet output units e.link is-fill).1) refl
