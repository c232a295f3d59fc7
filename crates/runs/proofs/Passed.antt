-- From unit to unit by AL1, which passes a unit as it is, and by AL1M, which repairs it.
--
--   AllUnits          each of these has 1 to 1,024 octets
--   run-units         so has every unit that was posted in a run
--   carried-by-AL1    .. so each is passed
--   carried-by-plain-AL2   a unit of AL2 without a number is handed up as it was handed in
--   sent_front        what AL1M sent stands at the front of what it was lent
--   carried-by-AL1M   at most e octets changed on the way: the unit is handed up as it was handed in
--
-- Assumes nothing.
use mathlib.Core.Path.{◌≡◌, refl, sym, ap, ap₂, ◌∙◌}
use mathlib.Core.Bool.{Bool, true, false, cond, not}
use mathlib.Core.List.{List, [], ◌∷◌, ◌++◌, map}
use Prim.Native.Nat.{ℕ}
use borrow.Author.Tests.{not-false}
use lib.Dec.{eqb}
use lib.ListN.{length, take}
use lib.Seq.{take-append_seam}
use Rattle.octets.specs.Each.{each_at, each-length}
use Rattle.calls.specs.Refusal.{Told, told, Ended, refusing}
use Rattle.calls.proofs.Laws.{by_test, by_tests}
use Rattle.std.specs.Prelude.{Ok}
use Rattle.adaptation.specs.Handed.{longest_unit, is_unit, Handed, handed}
use Rattle.adaptation.specs.AL1.{passed}
use Rattle.adaptation.specs.Sending.{Sends}
use Rattle.adaptation.specs.declared.Badge.TheVariants.{Unchecked}
use Rattle.adaptation.proofs.Laws.{sent_is_handed_up, plain_received}
use Rattle.channels.specs.Channels.{Post, post_tests, posted}
use Rattle.multiplex.specs.Units.{UnitOn, units_on}
use Rattle.multiplex.specs.Calls as call
use Rattle.multiplex.specs.Calls.{done, telling, ours, called_by, called}
use Rattle.runs.specs.Runs.{Side, near, far, Parcel, End, World, end_at, Event, both, calls, posts, pays, arrives, added, lacks_room, taking, arriving, step, run}
use Rattle.runs.specs.Demand.{without_last, is_waiting}
use Rattle.runs.specs.Carried as carried
use Rattle.runs.specs.Carried.{beginning, ending}
use Rattle.runs.proofs.Delivering.{demand_met}
use Rattle.runs.proofs.Handing.{as-sent}

-- ---- AL1

abbrev pub AllUnits : List UnitOn → Type 0
AllUnits [] = Unit {0}
AllUnits (u ∷ l) = (is_unit longest_unit u.octets ≡ true) × AllUnits l

units-append : (l m : List UnitOn) → AllUnits l → AllUnits m → AllUnits (l ++ m)
units-append [] m a b = b
units-append (u ∷ l) m a b = (a.0, units-append l m a.1 b)

posted-unit : (e : End) (n : ℕ) (u : List ℕ)
    → AllUnits (added (called e.link (call.posting n u)).answer (λ a. record { channel = n; octets = u } ∷ []))
unfolding called_by posted
posted-unit e n u =
    by_tests (λ (r : Ended (Unit {0}) Post). AllUnits (added (telling r.answer (λ t. done)) (λ a. record { channel = n; octets = u } ∷ [])))
    (refusing (record { channels = e.link.channels; octets = e.link.waiting })) (post_tests e.link.channels n u) _ (λ k. tt)
    (λ none.
    let long : not (is_unit longest_unit u) ≡ false = search none in
    (not-false (is_unit longest_unit u) long, tt))

come-posted : (e : End) (l : List Parcel) (xs output units : List ℕ) → (arriving (λ j. ours) e l xs output units).posted ≡ e.posted
come-posted e [] xs output units = refl
come-posted e (q ∷ l) xs output units =
    let r = called e.link (call.demultiplexing q.code q.mark xs output units) in
    by_test (λ (a : End). a.posted ≡ e.posted) (lacks_room r.answer) {x = e} {y = taking e l r} (λ b. refl) (λ b. refl)

step-units : (x : World) (v : Event) (i : Side) → AllUnits (end_at x i).posted → AllUnits (end_at (step (λ j. ours) x v) i).posted
unfolding step
step-units x (both c) near a = a
step-units x (both c) far a = a
step-units x (calls near c) near a = a
step-units x (calls near c) far a = a
step-units x (calls far c) near a = a
step-units x (calls far c) far a = a
step-units x (posts near n u) near a = units-append x.near_end.posted _ a (posted-unit x.near_end n u)
step-units x (posts near n u) far a = a
step-units x (posts far n u) near a = a
step-units x (posts far n u) far a = units-append x.far_end.posted _ a (posted-unit x.far_end n u)
step-units x (pays near c room payload) near a = a
step-units x (pays near c room payload) far a = a
step-units x (pays far c room payload) near a = a
step-units x (pays far c room payload) far a = a
step-units x (arrives near xs o u) near a = rw (come-posted x.near_end x.near_end.coming xs o u) a
step-units x (arrives near xs o u) far a = a
step-units x (arrives far xs o u) near a = a
step-units x (arrives far xs o u) far a = rw (come-posted x.far_end x.far_end.coming xs o u) a

pub run-units : (es : List Event) (x : World) (i : Side) → AllUnits (end_at x i).posted → AllUnits (end_at (run (λ j. ours) x es) i).posted
unfolding run
run-units [] x i a = a
run-units (v ∷ es) x i a = run-units es (step (λ j. ours) x v) i (step-units x v i a)

abbrev as_is : List (List ℕ) → Type 0
as_is l = map passed l ≡ map (λ (u : List ℕ). told (handed Unchecked u)) l

is-passed : (u : List ℕ) → is_unit longest_unit u ≡ true → passed u ≡ told (handed Unchecked u)
unfolding passed
is-passed u e = rw e

passed_on : (n : ℕ) (l : List UnitOn) → AllUnits l → as_is (units_on n l)
unfolding units_on
passed_on n [] a = refl
passed_on n (u ∷ l) a = by (eqb u.channel n) (passed_on n l a.1)
  where
    by : (b : Bool) → as_is (units_on n l) → as_is (cond b (u.octets ∷ units_on n l) (units_on n l))
    by true e = ap₂ (λ (x : Told Handed) (y : List (Told Handed)). x ∷ y) (is-passed u.octets a.0) e
    by false e = e

passed_without : (l : List (List ℕ)) → as_is l → as_is (without_last l)
unfolding without_last
passed_without [] e = refl
passed_without (u ∷ []) e = refl
passed_without (u ∷ v ∷ l) e =
    ap₂ (λ (x : Told Handed) (y : List (Told Handed)). x ∷ y) (ap first e) (passed_without (v ∷ l) (ap behind e))
  where
    first : List (Told Handed) → Told Handed
    first [] = told (handed Unchecked [])
    first (x ∷ l) = x

    behind : List (Told Handed) → List (Told Handed)
    behind [] = []
    behind (x ∷ l) = l

pub carried-by-AL1 : carried.CarriedByAL1
carried-by-AL1 r i n q =
    let e = end_at (ending r) i in
    let all = passed_on n e.posted (run-units r.events (beginning r) i (none i)) in
    ap (λ (l : List (List ℕ)). map passed l) (as-sent r i n q)
    ∙ by_test as_is (is_waiting e.link.channels n) (λ b. passed_without (units_on n e.posted) all) (λ b. all)
  where
    none : (i : Side) → AllUnits (end_at (beginning r) i).posted
    none near = tt
    none far = tt

-- ---- AL2 without a number

pub carried-by-plain-AL2 : carried.CarriedByPlainAL2
carried-by-plain-AL2 r i n j e q h u may c = rw (as-sent r i n q, c) (plain_received u e may)

-- ---- AL1M

pub sent_front : (b e m : ℕ) (u room out : List ℕ) → Sends b e u room (Ok m) out → length (take m out) ≡ m
sent_front b e m u room out s =
    let k = s.1 in
    let front : take m out ≡ k.sent = ap₂ take k.count k.written_is ∙ take-append_seam k.sent _ in
    ap (λ (l : List ℕ). length l) front ∙ sym k.count

pub carried-by-AL1M : carried.CarriedByAL1M
carried-by-AL1M R r i n j q h b e m u room out w before after a s c d =
    let k = demand_met R r.lent r.events r.permitted in
    let long : length w ≡ m =
    ap (λ (l : List ℕ). length l) (sym d) ∙ sym (each-length (each_at [] (k.complete i n q) j h)) ∙ ap (λ (l : List ℕ). length l) c ∙ sent_front b e m u room out s in
    (long, λ near enough list received. sent_is_handed_up b e m u room out w before after a s long near enough list received)
