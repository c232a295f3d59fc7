-- Demand 2: both ends fresh, the same table changes and openings at the same points, no closings or resets: the demultiplexer, given
-- each payload once, in order, with enough room, delivers exactly the units wholly sent, in order on each channel. Both ends send, on
-- the same channels, and their calls are interleaved in any way.
--
--   is_shared c         a table change or an opening
--   is_by_layer c        a sending or a taking of AL2
--   Quiet x            no payload is on its way
--   Permitted R x e    the event e may come in x: a table change or an opening at both ends, with no payload on its way; any sending or taking
--                      of AL2, any call that is refused, any post, any payload; and the oldest payload arrives, each of its octets
--                      changed at most as R allows
--   PermittedAll       .. one event behind another
--   without_last l      l without its last unit
--   is_waiting s n      octets of channel n wait
--   wholly_sent e n     the units posted at the end e on channel n, without the last if octets of it still wait
--   Accepts            an end takes the payload that comes next, if it has as many octets and the room is enough
--   Serves             where no refusal applies, an end makes a payload, and it has an octet
--   Delivers R L x     no payload was refused, but for want of room; once none is on its way, each end has delivered on each channel, in
--                      order, the units wholly sent at the other, each octet as R allows; and both ends accept and serve
--   Demand2 L          so it is after every run of permitted events, whatever changes R allows
--                      (with equality for R no octet changes, and the units are those sent: `AsSent` in specs/Carried.antt)
--
-- Assumes nothing.
use Rattle.std.specs.Prelude.{◌≡◌, ◌⊎◌, Bool, true, false, cond, List, [], ◌∷◌, ℕ, ◌≤◌, leb, length}
use Rattle.octets.specs.Each.{Each}
use Rattle.calls.specs.Refusal.{refused, told, refusal}
use Rattle.channels.specs.declared.Channels.{Channels}
use Rattle.channels.specs.Channels.{place_of, channel_at}
use Rattle.multiplex.specs.declared.multiplexer.Payload.{Payload}
use Rattle.multiplex.specs.Units.{units_on, enough_output, enough_units}
use Rattle.multiplex.specs.Calls as call
use Rattle.multiplex.specs.Calls.{Call, made, called_by, called, tests_of}
use Rattle.runs.specs.Runs.{Side, other, Parcel, End, World, end_at, Lent, begin, Event, both, calls, posts, pays, arrives, Libraries, step, run}

-- ---- what may come

abbrev pub is_shared : Call → Bool
is_shared (call.opening n g) = true
is_shared (call.closing n) = false
is_shared (call.resetting n) = false
is_shared (call.posting n u) = false
is_shared (call.replacing c s) = true
is_shared (call.demultiplexing c mark xs output units) = false
is_shared (call.multiplexing c room payload) = false
is_shared (call.sending n numbered u output) = false
is_shared (call.taking n numbered w) = false

abbrev pub is_by_layer : Call → Bool
is_by_layer (call.opening n g) = false
is_by_layer (call.closing n) = false
is_by_layer (call.resetting n) = false
is_by_layer (call.posting n u) = false
is_by_layer (call.replacing c s) = false
is_by_layer (call.demultiplexing c mark xs output units) = false
is_by_layer (call.multiplexing c room payload) = false
is_by_layer (call.sending n numbered u output) = true
is_by_layer (call.taking n numbered w) = true

abbrev pub Quiet : World → Type 0
Quiet x = (i : Side) → (end_at x i).coming ≡ []

abbrev pub Permitted : (ℕ → ℕ → Type 0) → World → Event → Type 0
Permitted R x (both c) = (is_shared c ≡ true) × Quiet x
Permitted R x (calls i c) = (is_by_layer c ≡ true) ⊎ ((k : ℕ) × ((called (end_at x i).link c).answer ≡ refused k))
Permitted R x (posts i n u) = Unit {0}
Permitted R x (pays i c room payload) = Unit {0}
Permitted R x (arrives i xs output units) = (q : Parcel) × (rest : List Parcel) × ((end_at x i).coming ≡ q ∷ rest) × Each R q.octets xs

unfoldable pub PermittedAll : (ℕ → ℕ → Type 0) → Libraries → World → List Event → Type 0
PermittedAll R L x [] = Unit {0}
PermittedAll R L x (e ∷ es) = Permitted R x e × PermittedAll R L (step L x e) es

-- ---- the demand

unfoldable pub without_last : List (List ℕ) → List (List ℕ)
without_last [] = []
without_last (u ∷ []) = []
without_last (u ∷ v ∷ l) = u ∷ without_last (v ∷ l)

abbrev pub is_waiting : Channels → ℕ → Bool
is_waiting s n = leb 1 (channel_at s (place_of s n)).waiting

abbrev pub wholly_sent : End → ℕ → List (List ℕ)
wholly_sent e n = cond (is_waiting e.link.channels n) (without_last (units_on n e.posted)) (units_on n e.posted)

abbrev pub Accepts : Libraries → End → Type 0
Accepts L e =
    (q : Parcel) (rest : List Parcel) (xs output units : List ℕ) (k : ℕ) → e.coming ≡ q ∷ rest → length q.octets ≡ length xs
    → enough_output ≤ length output → enough_units ≤ length units
    → (called_by (L e.came) e.link (call.demultiplexing q.code q.mark xs output units)).answer ≡ refused k → ⊥

abbrev pub Serves : Libraries → End → Type 0
Serves L e =
    (c room : ℕ) (payload : List ℕ) → refusal (tests_of e.link (call.multiplexing c room payload)) ≡ told tt
    → (p : Payload) × (left : List ℕ) × ((called_by (L e.came) e.link (call.multiplexing c room payload)).answer ≡ told (made p left)) × (1 ≤ p.octets)

pub record Delivers (R : ℕ → ℕ → Type 0) (L : Libraries) (x : World) : Type 0 where
  pub unrefused : (i : Side) → (end_at x i).refusals ≡ 0
  pub complete : (i : Side) (n : ℕ) → (end_at x (other i)).coming ≡ []
      → Each (Each R) (wholly_sent (end_at x i) n) (units_on n (end_at x (other i)).delivered)
  pub accepts : (i : Side) → Accepts L (end_at x i)
  pub serves : (i : Side) → Serves L (end_at x i)

abbrev pub Demand2 : Libraries → Type 1
Demand2 L =
    (R : ℕ → ℕ → Type 0) (l : Lent) (es : List Event) → PermittedAll R L (begin l) es → Delivers R L (run L (begin l) es)
