-- A run over packets is a run with the payloads that were read, and so meets the demand.
--
--   heard-same        what is heard of a packet is that its payload arrives
--   step_same         each permitted event is permitted with the payload that was read, and leads to the same ends; a fill packet leaves them,
--   run-same          and so does every run
--   calls_same        .. with the same calls of AL2
--   first_packable    at first nothing is on its way
--   unrefused         what is not refused does not lack room, nor count as refused
--   hears-next        an end takes the packet that comes next
--   packet_demand     the theorem
--
-- Assumes nothing.
use mathlib.Core.Path.{◌≡◌, refl, sym, ap, ap₂, subst, ◌∙◌}
use mathlib.Core.Bool.{Bool, false, cond}
use mathlib.Core.List.{List, [], ◌∷◌, ◌++◌, append-nil}
use Prim.Native.Nat.{ℕ}
use native.Mathlib.Omega.{arith}
use lib.ListN.{length}
use Rattle.octets.specs.Each.{Each, each-length}
use Rattle.calls.specs.Refusal.{Told, refused, told}
use Rattle.packets.specs.Packet.{Heading, read}
use Rattle.multiplex.specs.Calls as call
use Rattle.multiplex.specs.Calls.{Call, Answer, ours, called}
use Rattle.runs.specs.Runs.{Side, near, far, Parcel, End, World, end_at, Lent, begin, both, calls, posts, pays, arrives}
use Rattle.runs.specs.Runs.{refused_once, lacks_room, taking, arriving, after, step, run}
use Rattle.runs.specs.Demand.{PermittedAll, Accepts, Delivers}
use Rattle.runs.specs.Carried.{called_at, over_run}
use Rattle.runs.specs.Packets.{Packable, AllPackable}
use Rattle.runs.specs.Hearing.{PacketEvent, does, hears, fills, hearing, packet_step, packet_run, PacketPermitted, PacketsPermitted, Hears, PacketDemand}
use Rattle.runs.specs.OverPackets.{payload_in, parcel_event, parcel_events, packet_called, over_packets}
use Rattle.runs.proofs.Delivering.{demand_met}
use Rattle.runs.proofs.Packing.{WorldPackable, packets_packable}
use Rattle.runs.proofs.Behind.{run-behind, permitted-behind, called-behind}
use Rattle.runs.proofs.Filling.{fill_step}
use Rattle.runs.proofs.Bringing.{said, brought_payload, brought-read, brought_alike}

-- ---- one event

-- the payload that comes next, where all that are on their way can be written
next_packable : (l : List Parcel) {q : Parcel} {rest : List Parcel} → AllPackable l → l ≡ q ∷ rest → Packable q
next_packable l a e = (subst AllPackable e a).0

pub heard-same : (e : End) (l : List Parcel) (q : Parcel) (rest : List Parcel) (t : Told Heading) (u output units : List ℕ) → l ≡ q ∷ rest
    → t ≡ told (said q) → arriving (λ j. ours) e l (payload_in t u) output units ≡ hearing t e l u output units
heard-same e l q rest t u output units f g = rw (f, g)

pub step_same : (R : ℕ → ℕ → Type 0) (x : World) (e : PacketEvent) → WorldPackable x → PacketPermitted R x e
    → PermittedAll R (λ j. ours) x (parcel_event e) × (run (λ j. ours) x (parcel_event e) ≡ packet_step read x e)
unfolding run step packet_step PermittedAll
step_same R x (does (both c)) a p = ((p, tt), refl)
step_same R x (does (calls i c)) a p = ((p, tt), refl)
step_same R x (does (posts i n u)) a p = ((p, tt), refl)
step_same R x (does (pays i c room payload)) a p = ((tt, tt), refl)
step_same R x (does (arrives i xs output units)) a p = absurd p
step_same R x (hears i u output units) a (q, rest, e, b) =
    let r : read u ≡ told (said q) = brought-read b (next_packable (end_at x i).coming (a i) e) in (
      ((q, rest, e, subst (λ (t : Told Heading). Each R q.octets (payload_in t u)) (sym r) (brought_alike b).octets), tt),
      ap (λ (z : End). after x i z []) (heard-same (end_at x i) (end_at x i).coming q rest (read u) u output units e r),
    )
step_same R x (fills i u output units) a b = (tt, sym (fill_step R x i u output units b))

-- ---- a run

pub run-same : (R : ℕ → ℕ → Type 0) (es : List PacketEvent) (x : World) → WorldPackable x → PacketsPermitted R read x es
    → PermittedAll R (λ j. ours) x (parcel_events es)
    × (run (λ j. ours) x (parcel_events es) ≡ packet_run read x es)
    × WorldPackable (packet_run read x es)
unfolding run packet_run PermittedAll PacketsPermitted parcel_events
run-same R [] x a p = (tt, refl, a)
run-same R (e ∷ es) x a p =
    let s = step_same R x e a p.0 in
    let m = run-same R es (packet_step read x e) (packets_packable R read x e a p.0) p.1 in (
      permitted-behind R (λ j. ours) (parcel_event e) (parcel_events es) x s.0
          (subst (λ (y : World). PermittedAll R (λ j. ours) y (parcel_events es)) (sym s.1) m.0),
      run-behind (λ j. ours) (parcel_event e) (parcel_events es) x ∙ ap (λ (y : World). run (λ j. ours) y (parcel_events es)) s.1 ∙ m.1,
      m.2,
    )

called_same : {A : Type 0} (f : Call → Answer → List A) (x : World) (i : Side) (e : PacketEvent) → over_run f x i (parcel_event e) ≡ packet_called f x i e
unfolding over_run
called_same f x i (does e) = append-nil (called_at f x i e)
called_same f x i (hears j u output units) = refl
called_same f x i (fills j u output units) = refl

pub calls_same : {A : Type 0} (f : Call → Answer → List A) (i : Side) (R : ℕ → ℕ → Type 0) (es : List PacketEvent) (x : World) → WorldPackable x
    → PacketsPermitted R read x es → over_run f x i (parcel_events es) ≡ over_packets f x i es
unfolding over_run over_packets PacketsPermitted parcel_events
calls_same f i R [] x a p = refl
calls_same {A = A} f i R (e ∷ es) x a p =
    called-behind f i (parcel_event e) (parcel_events es) x
    ∙ ap₂ (λ (l m : List A). l ++ m) (called_same f x i e)
    (ap (λ (y : World). over_run f y i (parcel_events es)) (step_same R x e a p.0).1
    ∙ calls_same f i R es (packet_step read x e) (packets_packable R read x e a p.0) p.1)

pub first_packable : (l : Lent) → WorldPackable (begin l)
first_packable l near = tt
first_packable l far = tt

-- ---- the demand

pub unrefused : (t : Told Answer) → ((k : ℕ) → t ≡ refused k → ⊥) → (lacks_room t ≡ false) × (refused_once t ≡ 0)
unrefused (refused k) f = absurd (f k refl)
unrefused (told a) f = (refl, refl)

pub hears-next : (e : End) → AllPackable e.coming → Accepts (λ j. ours) e → Hears read e
hears-next e a f q rest u output units c b ro ru =
    let t : read u ≡ told (said q) = brought-read b (next_packable e.coming a c) in
    let xs = payload_in (read u) u in
    let xs-are : xs ≡ b.body.payload = ap (λ (t : Told Heading). payload_in t u) t ∙ brought_payload b in
    let r = called e.link (call.demultiplexing q.code q.mark xs output units) in
    let n = unrefused r.answer
    (λ k. f q rest xs output units k c (each-length b.body.changed ∙ ap (λ (l : List ℕ). length l) (sym xs-are)) ro ru) in
    let taken : hearing (read u) e e.coming u output units ≡ taking e rest r
    = sym (heard-same e e.coming q rest (read u) u output units c t)
    ∙ ap (λ (l : List Parcel). arriving (λ j. ours) e l xs output units) c
    ∙ ap (λ (s : Bool). cond s e (taking e rest r)) n.0 in
    rw taken (refl, omega (arith, n.1))

pub packet_demand : PacketDemand read
packet_demand R l es p =
    let m = run-same R es (begin l) (first_packable l) p in
    let d : Delivers R (λ j. ours) (packet_run read (begin l) es)
    = subst (Delivers R (λ j. ours)) m.1 (demand_met R l (parcel_events es) m.0) in
    record { delivers = d; takes = λ i. hears-next (end_at (packet_run read (begin l) es) i) (m.2 i) (d.accepts i) }
