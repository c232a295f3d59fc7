-- From packets to units: what is claimed of runs, of runs over packets.
--
--   all, whole, parcel-run   a run over packets as a run
--   listed             what AL2 sent and took is the same in both
--   crossed            what is said of the end of one, and of what AL2 sent at one end and took at the other, is said of the other
--   goes_on            every run goes on with whatever may come
--   on-way_packable    what is on its way can be written
--   packets_as-sent, packet-numbers, packets-by-AL1, packets-by-AL2, packets-by-plain-AL2, packets-by-AL1M   the claims
--
-- Assumes nothing.
use mathlib.Core.Path.{◌≡◌, refl, subst}
use mathlib.Core.List.{List, [], ◌∷◌, ◌++◌}
use Prim.Native.Nat.{ℕ}
use Rattle.multiplex.specs.Calls.{Call, Answer, ours}
use Rattle.packets.specs.Packet.{read}
use Rattle.runs.specs.Runs.{Side, other, World, run}
use Rattle.runs.specs.Demand.{PermittedAll}
use Rattle.runs.specs.Carried.{Run, ending, Coding, Reception, coded_by, taken_by, over_run, codings, receptions}
use Rattle.runs.specs.Carried.{UnitsAsSent, FollowIn, ByAL1, ByAL2, ByPlainAL2, ByAL1M}
use Rattle.runs.specs.OverPackets.{PacketRun, packet_beginning, packet_ending, parcel_events, Simulated, GoesOn, OnWayPackable, over_packets}
use Rattle.runs.specs.Hearing.{PacketEvent, packet_step, packet_run, PacketPermitted, PacketsPermitted}
use Rattle.runs.specs.OverPackets.{packet_codings, packet_receptions, PacketsAsSent, PacketNumbers}
use Rattle.runs.specs.OverPackets.{PacketsByAL1, PacketsByAL2, PacketsByPlainAL2, PacketsByAL1M}
use Rattle.runs.proofs.Handing.{as-sent, numbers-follow, carried-by-AL2}
use Rattle.runs.proofs.Passed.{carried-by-AL1, carried-by-plain-AL2, carried-by-AL1M}
use Rattle.runs.proofs.Packing.{WorldPackable}
use Rattle.runs.proofs.Hearing.{run-same, calls_same, first_packable}

module _ {R : ℕ → ℕ → Type 0} (r : PacketRun R) where
  at_first : WorldPackable (packet_beginning r)
  at_first = first_packable r.lent

  pub all : PermittedAll R (λ j. ours) (packet_beginning r) (parcel_events r.events)
      × (run (λ j. ours) (packet_beginning r) (parcel_events r.events) ≡ packet_ending r)
      × WorldPackable (packet_ending r)
  all = run-same R r.events (packet_beginning r) at_first r.permitted

  abbrev pub whole : Run R
  whole = record { lent = r.lent; events = parcel_events r.events; permitted = all.0 }

  ended : (P : World → Type 0) → P (ending whole) → P (packet_ending r)
  ended P = subst P all.1

  -- what AL2 sent and took is the same
  pub listed : {A : Type 0} (f : Call → Answer → List A) (i : Side)
      → over_run f (packet_beginning r) i (parcel_events r.events) ≡ over_packets f (packet_beginning r) i r.events
  listed f i = calls_same f i R r.events (packet_beginning r) at_first r.permitted

  pub crossed : (i : Side) (n : ℕ) (P : World → List Coding → List Reception → Type 0)
      → P (ending whole) (codings whole i n) (receptions whole (other i) n) → P (packet_ending r) (packet_codings r i n) (packet_receptions r (other i) n)
  crossed i n P p =
      let x = ending whole in
      ended (λ (y : World). P y (packet_codings r i n) (packet_receptions r (other i) n))
      (subst (λ (l : List Coding). P x l (packet_receptions r (other i) n)) (listed (coded_by n) i)
      (subst (λ (l : List Reception). P x (codings whole i n) l) (listed (taken_by n) (other i)) p))

pub parcel-run : Simulated
parcel-run R r = record { run = whole r; events = refl; begins = refl; ends = (all r).1 }

-- a run with one event more
more : (R : ℕ → ℕ → Type 0) (es : List PacketEvent) (x : World) (e : PacketEvent) → PacketsPermitted R read x es → PacketPermitted R (packet_run read x es) e
    → PacketsPermitted R read x (es ++ e ∷ [])
unfolding packet_run PacketsPermitted
more R [] x e p h = (h, tt)
more R (a ∷ es) x e p h = (p.0, more R es (packet_step read x a) e p.1 h)

pub goes_on : (R : ℕ → ℕ → Type 0) → GoesOn R
unfolding PacketsPermitted
goes_on R = record {
  first = λ l. (record { lent = l; events = []; permitted = tt }, refl, refl);
  next = λ r e h. (record { lent = r.lent; events = r.events ++ e ∷ []; permitted = more R r.events (packet_beginning r) e r.permitted h }, refl, refl);
  may = λ x. record {
    heard = λ i q rest u output units e b. (q, rest, e, b);
    filled = λ i u output units b. b;
    paid = λ i c room payload h. h;
    both_call = λ c h. h;
    called = λ i c h. h;
    posted = λ i n u h. h;
  };
}

pub on-way_packable : OnWayPackable
on-way_packable R r = (all r).2

pub packets_as-sent : PacketsAsSent
packets_as-sent r = ended r UnitsAsSent (as-sent (whole r))

pub packet-numbers : PacketNumbers
packet-numbers R r i n =
    subst (λ (l : List Coding). FollowIn l (packet_receptions r i n)) (listed r (coded_by n) i)
    (subst (λ (l : List Reception). FollowIn (codings (whole r) i n) l) (listed r (taken_by n) i) (numbers-follow R (whole r) i n))

pub packets-by-AL1 : PacketsByAL1
packets-by-AL1 r = ended r ByAL1 (carried-by-AL1 (whole r))

pub packets-by-AL2 : PacketsByAL2
packets-by-AL2 r i n = crossed r i n (λ x coded got. ByAL2 x i n coded got) (carried-by-AL2 (whole r) i n)

pub packets-by-plain-AL2 : PacketsByPlainAL2
packets-by-plain-AL2 r = ended r ByPlainAL2 (carried-by-plain-AL2 (whole r))

pub packets-by-AL1M : PacketsByAL1M
packets-by-AL1M R r = ended r ByAL1M (carried-by-AL1M R (whole r))
