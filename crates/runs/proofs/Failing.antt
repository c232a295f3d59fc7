-- Four libraries that do not meet demand 2. Units of one octet are posted and sent on channel 0, each in a payload of its own.
--
--   blank, blank-length, enough, blanks, world   octets of 0, and both ends with them
--   output, units    room that is enough
--   idle-fails       the idle one delivers the first unit and not the second: the first, because ours does
--   refuser-fails    the one that refuses everything refuses the first payload
--   mute-fails       the one whose multiplexer refuses everything makes no payload of the first unit
--   silent-fails     .. nor does the one whose payloads are empty
--
-- Assumes nothing.
use mathlib.Core.Path.{◌≡◌, refl, sym, ap, subst}
use mathlib.Core.Bool.{Bool, true, false, cond}
use mathlib.Core.List.{List, [], ◌∷◌, ◌++◌, append-nil}
use Prim.Native.Nat.{ℕ, ◌≤◌}
use native.Mathlib.Omega.{arith}
use lib.ListN.{length, replicate, length-replicate}
use Rattle.octets.specs.Tests.{never}
use Rattle.octets.specs.Each.{Each, each-length, each_self}
use Rattle.calls.specs.Refusal.{Told, refused, told}
use Rattle.table.specs.Form.{in_turn, element_as, list_as, tree_of}
use Rattle.table.specs.Slots.{slots, cut, payload_slots}
use Rattle.table.specs.Table.{entry_of, is_defined}
use Rattle.channels.specs.Search.{first}
use Rattle.channels.specs.Channels.{start, place_of, posted, all_octets}
use Rattle.multiplex.specs.Pieces.{total}
use Rattle.multiplex.specs.declared.multiplexer.Payload.{Payload}
use Rattle.multiplex.specs.Multiplexer.{walked, multiplexed}
use Rattle.multiplex.specs.Units.{units_on, units_in, enough_output, enough_units}
use Rattle.multiplex.specs.Calls as call
use Rattle.multiplex.specs.Calls.{Answer, ours, called_by}
use Rattle.runs.specs.Runs.{Side, near, far, Parcel, End, World, end_at, Lent, begin, Event, posts, pays, arrives, lacks_room, taking, Libraries, step, run}
use Rattle.runs.specs.Demand.{PermittedAll, without_last, Delivers, Demand2}
use Rattle.runs.specs.Claims.{idle, refuser, mute, silent}
use Rattle.runs.proofs.Delivering.{demand_met}

pub blank : ℕ → List ℕ
blank n = replicate n 0

pub blank-length : (n : ℕ) → length (blank n) ≡ n
unfolding blank
blank-length n = length-replicate n 0

pub enough : (n : ℕ) → n ≤ length (blank n)
enough n = omega (arith, blank-length n)

abbrev pub blanks : Lent
blanks =
    let e = blank-length all_octets in
    record {
      held = blank all_octets;
      waiting = blank all_octets;
      held' = blank all_octets;
      waiting' = blank all_octets;
      held_room = e;
      waiting_room = e;
      held_room' = e;
      waiting_room' = e;
    }

abbrev pub world : World
world = begin blanks

tried : (L : Libraries) → Demand2 L → (es : List Event) → PermittedAll ◌≡◌ L world es → Delivers ◌≡◌ L (run L world es)
tried L d es p = d ◌≡◌ blanks es p

-- ---- the multiplexer

abbrev post : List Event
post = posts near 0 (1 ∷ []) ∷ []

unserved : (L : Libraries) → Demand2 L
    → ((e : End) (p : Payload) (left : List ℕ) → (called_by (L e.came) e.link (call.multiplexing 0 1 (0 ∷ []))).answer ≡ told (call.made p left) → 1 ≤ p.octets → ⊥) → ⊥
unfolding run step called_by start place_of first posted walked payload_slots cut slots tree_of list_as in_turn element_as entry_of is_defined total PermittedAll
unserved L d f =
    let s = (tried L d post (tt, tt)).serves near 0 1 (0 ∷ []) refl in
    f (run L world post).near_end s.0 s.1 s.2 s.3

pub mute-fails : (k : ℕ) → Demand2 (mute k) → ⊥
unfolding called_by
mute-fails k d = unserved (mute k) d (λ e p left f h. never (cc))

pub silent-fails : Demand2 silent → ⊥
unfolding called_by
silent-fails d = unserved silent d (λ e p left f h. let z : 0 ≡ p.octets = is_made p left f in omega arith)
  where
    is_made : (p : Payload) (left : List ℕ)
        → ◌≡◌ {A = Told Answer} (told (call.made (record { octets = 0; mark = false }) (0 ∷ []))) (told (call.made p left)) → 0 ≡ p.octets
    is_made p left f = cc

-- ---- the demultiplexer

abbrev sent : List Event
sent = posts near 0 (1 ∷ []) ∷ pays near 0 1 (0 ∷ []) ∷ []

abbrev pub output : List ℕ
output = blank enough_output

abbrev pub units : List ℕ
units = blank enough_units

-- it does not refuse the payload that comes next
next : (L : Libraries) (x : World) → Delivers ◌≡◌ L x → (i : Side) (q : Parcel) (rest : List Parcel) (k : ℕ) → (end_at x i).coming ≡ q ∷ rest
    → (called_by (L (end_at x i).came) (end_at x i).link (call.demultiplexing q.code q.mark q.octets output units)).answer ≡ refused k → ⊥
next L x d i q rest k e f = d.accepts i q rest q.octets output units k e refl (enough enough_output) (enough enough_units) f

pub refuser-fails : (k : ℕ) → Demand2 (refuser k) → ⊥
unfolding run step called_by start place_of first posted multiplexed walked payload_slots cut slots tree_of list_as in_turn element_as entry_of is_defined total PermittedAll
refuser-fails k d = next (refuser k) (run (refuser k) world sent) (tried (refuser k) d sent (tt, (tt, tt))) far _ _ k refl refl

-- ---- one that is idle after the first payload

abbrev octets_first : List Parcel → List ℕ
octets_first [] = []
octets_first (q ∷ l) = q.octets

-- two units are sent behind each other, by a library and from a world
abbrev delivered : Libraries → World → List Event
delivered L x = posts near 0 (1 ∷ []) ∷ pays near 0 1 (0 ∷ []) ∷ arrives far (octets_first (run L x sent).far_end.coming) output units ∷ []

not_lacking : (t : Told Answer) → ((k : ℕ) → t ≡ refused k → ⊥) → lacks_room t ≡ false
not_lacking (refused k) f = absurd (f k refl)
not_lacking (told a) f = refl

-- the far end once the first payload has come to it
abbrev before : End
before = (run idle world sent).far_end

abbrev after : End
after =
    taking before []
    (called_by ours before.link (call.demultiplexing 0 true (octets_first before.coming) output units))

abbrev once : World
once = record { near_end = (run idle world (delivered idle world)).near_end; far_end = after }

once-delivered : run idle world (delivered idle world) ≡ once
unfolding run step called_by start place_of first posted multiplexed walked payload_slots cut slots tree_of list_as in_turn element_as entry_of is_defined total PermittedAll
once-delivered =
    ap (λ (b : Bool). record { near_end = (run idle world (delivered idle world)).near_end; far_end = cond b before after })
    (not_lacking _ (λ k. next (λ j. ours) (run (λ j. ours) world sent) (tried (λ j. ours) demand_met sent (tt, (tt, tt))) far _ _ k refl))

abbrev twice : List Event
twice = delivered idle world ++ delivered idle once

as-sent : (xs : List ℕ) → Each ◌≡◌ xs xs
as-sent = each_self ◌≡◌ (λ a. refl)

ours-once : Each (Each ◌≡◌) ((1 ∷ []) ∷ []) (units_on 0 after.delivered)
unfolding run step called_by start place_of first posted multiplexed walked payload_slots cut slots tree_of list_as in_turn element_as entry_of is_defined total PermittedAll
    units_on without_last
ours-once =
    (subst (Delivers ◌≡◌ (λ j. ours)) once-delivered
    (tried (λ j. ours) demand_met (delivered idle world) (tt, (tt, ((_, _, refl, as-sent _), tt))))).complete near 0 refl

idle-twice : Demand2 idle → Each (Each ◌≡◌) ((1 ∷ []) ∷ (1 ∷ []) ∷ []) (units_on 0 (after.delivered ++ []))
unfolding run step called_by start place_of first posted multiplexed walked payload_slots cut slots tree_of list_as in_turn element_as entry_of is_defined total PermittedAll
    units_on units_in without_last
idle-twice d =
    let rest : PermittedAll ◌≡◌ idle (run idle world (delivered idle world)) (delivered idle once)
    = subst (λ (x : World). PermittedAll ◌≡◌ idle x (delivered idle once)) (sym once-delivered) (tt, (tt, ((_, _, refl, as-sent _), tt))) in
    let all : Delivers ◌≡◌ idle (run idle (run idle world (delivered idle world)) (delivered idle once))
    = tried idle d twice (tt, (tt, ((_, _, refl, as-sent _), rest))) in
    (subst (λ (x : World). Delivers ◌≡◌ idle (run idle x (delivered idle once))) once-delivered all).complete near 0 refl

pub idle-fails : Demand2 idle → ⊥
idle-fails d =
    let one : 1 ≡ length (units_on 0 after.delivered) = each-length ours-once in
    let two : 2 ≡ length (units_on 0 (after.delivered ++ [])) = each-length (idle-twice d) in
    omega (arith, ap (λ (l : List _). length (units_on 0 l)) (append-nil after.delivered))
