-- From unit to unit: a unit that AL1, AL2 or AL1M coded, posted, multiplexed, demultiplexed and received where it lies is the unit handed in,
-- with its badge. proofs/Theorems.antt proves each claim.
--
--   Run R              a run of our library: both ends fresh, and events that are permitted; octets change on the way at most as R allows
--   ending             both ends at its end, and `beginning` at first
--   UnitsAsSent x      each end of x has delivered on each channel the units wholly sent at the other, in order
--   AsSent             so it is at the end of a run in which no octet changes on the way
--   is_at i j           the end j is i
--   Coding             a unit that AL2 sent with a number, and the octets that it wrote
--   Reception          a whole that AL2 took with a number, and what became of it
--   coded_by, taken_by   those of a call on channel n that is answered
--   called_at, over_run  what a call adds to a list, of an event at the end i, and of a run
--   codings, receptions   those of a run, in order
--   units_coded, wholes_coded, wholes_taken, receipts_told   what codings and receptions have
--   wholly e n us      of the units us, posted on channel n at the end e in some coding, those wholly sent
--   FollowIn, NumbersFollow   AL2's numbers follow one another, those sent and what is due: of codings and receptions, and so over a run, at each
--                      end and on each channel
--   ByAL2, CarriedByAL2   every unit coded is posted, every unit delivered is taken, and no octet changes: each unit wholly sent is handed up
--                      as it was handed in, with badge 0 and none missing; of both ends, and so at the end of a run
--   ByPlainAL2, CarriedByPlainAL2   a unit that AL2 sent without a number is handed up so too
--   ByAL1, CarriedByAL1   a unit that is delivered is passed as it is, unchecked
--   ByAL1M, CarriedByAL1M   the unit j that is delivered, whatever changed on the way, has as many octets as the one wholly sent; and where at
--                      most e of them differ, AL1M hands up the unit that was coded, with the true count, the places of those that
--                      differ and its badge
--   UnitToUnit         all of these, and that the unit which a layer reads where it lies in the output is the one delivered (the multiplexer's
--                      `LiesThere`)
--
-- Assumes nothing.
use Rattle.std.specs.Prelude.{◌≡◌, Bool, true, false, cond, ◌&&◌, List, [], ◌∷◌, ◌++◌, map, ℕ, ◌≤◌, ◌<◌, eqb, length, get_or, take, None, Result, Ok}
use Rattle.calls.specs.Refusal.{Told, told}
use Rattle.codeword.specs.Changed.{changed_places}
use Rattle.codeword.specs.CodeWord.{distance}
use Rattle.adaptation.specs.Handed.{handed}
use Rattle.adaptation.specs.AL1.{passed}
use Rattle.adaptation.specs.AL2.{whole, is_sendable, Receipt, handed_up, received}
use Rattle.adaptation.specs.AL2Claims.{as_sent, wholes_from, receipts, in_order}
use Rattle.adaptation.specs.declared.al2.Due.{Due}
use Rattle.checks.specs.Width.{kind_at}
use Rattle.adaptation.specs.Sending.{Sends}
use Rattle.adaptation.specs.Receiving.{RepairLent, Receives, handed_unit}
use Rattle.adaptation.specs.Claims.{badge_of_sent}
use Rattle.adaptation.specs.declared.Badge.TheVariants.{Unchecked}
use Rattle.adaptation.specs.declared.al1m.Judgement.{Judgement}
use Rattle.calls.specs.declared.Refusal.{Refusal}
use Rattle.multiplex.specs.Units.{units_on}
use Rattle.multiplex.specs.Claims.{LiesThere}
use Rattle.multiplex.specs.Calls as call
use Rattle.multiplex.specs.Calls.{Call, Answer, done, finished, made, sent, taken, ours, called}
use Rattle.runs.specs.Runs.{Side, near, far, other, End, World, end_at, Lent, begin, Event, both, calls, posts, pays, arrives, added, step, run}
use Rattle.runs.specs.Demand.{PermittedAll, without_last, is_waiting, wholly_sent}

-- ---- a run

pub record Run (R : ℕ → ℕ → Type 0) : Type 0 where
  pub lent : Lent
  pub events : List Event
  pub permitted : PermittedAll R (λ before. ours) (begin lent) events

module _ {R : ℕ → ℕ → Type 0} (r : Run R) where
  abbrev pub beginning : World
  beginning = begin r.lent

  abbrev pub ending : World
  ending = run (λ before. ours) beginning r.events

abbrev pub UnitsAsSent : World → Type 0
UnitsAsSent x =
    (i : Side) (n : ℕ) → (end_at x (other i)).coming ≡ [] → units_on n (end_at x (other i)).delivered ≡ wholly_sent (end_at x i) n

abbrev pub AsSent : Type 0
AsSent = (r : Run ◌≡◌) → UnitsAsSent (ending r)

-- ---- AL2 over a run

abbrev pub is_at : Side → Side → Bool
is_at near near = true
is_at near far = false
is_at far near = false
is_at far far = true

pub record Coding : Type 0 where
  pub unit : List ℕ
  pub octets : List ℕ

pub record Reception : Type 0 where
  pub octets : List ℕ
  pub receipt : Receipt

-- what a call on channel n adds, where units have numbers
abbrev pub coded_by : (n : ℕ) → Call → Answer → List Coding
coded_by n (call.opening m g) a = []
coded_by n (call.closing m) a = []
coded_by n (call.resetting m) a = []
coded_by n (call.posting m u) a = []
coded_by n (call.replacing c s) a = []
coded_by n (call.demultiplexing c mark xs output units) a = []
coded_by n (call.multiplexing c room payload) a = []
coded_by n (call.sending m numbered u output) done = []
coded_by n (call.sending m numbered u output) (finished k o l) = []
coded_by n (call.sending m numbered u output) (made p o) = []
coded_by n (call.sending m numbered u output) (sent k o) = cond (numbered && eqb m n) (record { unit = u; octets = take k o } ∷ []) []
coded_by n (call.sending m numbered u output) (taken r) = []
coded_by n (call.taking m numbered w) a = []

abbrev pub taken_by : (n : ℕ) → Call → Answer → List Reception
taken_by n (call.opening m g) a = []
taken_by n (call.closing m) a = []
taken_by n (call.resetting m) a = []
taken_by n (call.posting m u) a = []
taken_by n (call.replacing c s) a = []
taken_by n (call.demultiplexing c mark xs output units) a = []
taken_by n (call.multiplexing c room payload) a = []
taken_by n (call.sending m numbered u output) a = []
taken_by n (call.taking m numbered w) done = []
taken_by n (call.taking m numbered w) (finished k o l) = []
taken_by n (call.taking m numbered w) (made p o) = []
taken_by n (call.taking m numbered w) (sent k o) = []
taken_by n (call.taking m numbered w) (taken r) = cond (numbered && eqb m n) (record { octets = w; receipt = r } ∷ []) []

-- what an event adds at the end i, where a call adds what f says
abbrev pub called_at : {A : Type 0} → (Call → Answer → List A) → World → Side → Event → List A
called_at f x i (both c) = []
called_at f x i (calls j c) = cond (is_at i j) (added (called (end_at x i).link c).answer (f c)) []
called_at f x i (posts j n u) = []
called_at f x i (pays j c room payload) = []
called_at f x i (arrives j xs output units) = []

unfoldable pub over_run : {A : Type 0} → (Call → Answer → List A) → World → Side → List Event → List A
over_run f x i [] = []
over_run f x i (e ∷ es) = called_at f x i e ++ over_run f (step (λ before. ours) x e) i es

module _ {R : ℕ → ℕ → Type 0} (r : Run R) (i : Side) (n : ℕ) where
  abbrev pub codings : List Coding
  codings = over_run (coded_by n) (beginning r) i r.events

  abbrev pub receptions : List Reception
  receptions = over_run (taken_by n) (beginning r) i r.events

abbrev pub units_coded : List Coding → List (List ℕ)
units_coded l = map (λ (c : Coding). c.unit) l

abbrev pub wholes_coded : List Coding → List (List ℕ)
wholes_coded l = map (λ (c : Coding). c.octets) l

abbrev pub wholes_taken : List Reception → List (List ℕ)
wholes_taken l = map (λ (c : Reception). c.octets) l

abbrev pub receipts_told : List Reception → List (Told Receipt)
receipts_told l = map (λ (c : Reception). told c.receipt) l

abbrev pub wholly : End → ℕ → List (List ℕ) → List (List ℕ)
wholly e n us = cond (is_waiting e.link.channels n) (without_last us) us

abbrev pub FollowIn : List Coding → List Reception → Type 0
FollowIn coded got = (wholes_coded coded ≡ wholes_from 0 (units_coded coded)) × (receipts_told got ≡ receipts (wholes_taken got) (record { expected = 0; failed = 0 }))

abbrev pub NumbersFollow : Type 1
NumbersFollow = (R : ℕ → ℕ → Type 0) (r : Run R) (i : Side) (n : ℕ) → FollowIn (codings r i n) (receptions r i n)

-- what was coded at the end i for channel n, and what was taken at the other
abbrev pub ByAL2 : World → (i : Side) (n : ℕ) → List Coding → List Reception → Type 0
ByAL2 x i n coded got =
    (end_at x (other i)).coming ≡ [] → units_on n (end_at x i).posted ≡ wholes_coded coded → wholes_taken got ≡ units_on n (end_at x (other i)).delivered
    → receipts_told got ≡ in_order 0 (wholly (end_at x i) n (units_coded coded))

abbrev pub CarriedByAL2 : Type 0
CarriedByAL2 = (r : Run ◌≡◌) (i : Side) (n : ℕ) → ByAL2 (ending r) i n (codings r i n) (receptions r (other i) n)

-- ---- AL1 and AL1M, unit by unit

abbrev pub ByAL1 : World → Type 0
ByAL1 x =
    (i : Side) (n : ℕ) → (end_at x (other i)).coming ≡ []
    → map passed (units_on n (end_at x (other i)).delivered) ≡ map (λ (u : List ℕ). told (handed Unchecked u)) (wholly_sent (end_at x i) n)

abbrev pub CarriedByAL1 : Type 0
CarriedByAL1 = (r : Run ◌≡◌) → ByAL1 (ending r)

abbrev pub ByPlainAL2 : World → Type 0
ByPlainAL2 x =
    (i : Side) (n j : ℕ) (e : Due) → (end_at x (other i)).coming ≡ [] → j < length (wholly_sent (end_at x i) n) → (u : List ℕ) → is_sendable None u ≡ true
    → get_or (wholly_sent (end_at x i) n) j [] ≡ whole None u
    → received false (get_or (units_on n (end_at x (other i)).delivered) j []) e ≡ told (handed_up (as_sent u) 0 e)

abbrev pub CarriedByPlainAL2 : Type 0
CarriedByPlainAL2 = (r : Run ◌≡◌) → ByPlainAL2 (ending r)

abbrev pub ByAL1M : World → Type 0
ByAL1M x =
    (i : Side) (n j : ℕ) → (end_at x (other i)).coming ≡ [] → j < length (wholly_sent (end_at x i) n)
    → (b e m : ℕ) (u room out w : List ℕ) (before after : RepairLent) (a : Result Judgement Refusal) → Sends b e u room (Ok m) out
    → get_or (wholly_sent (end_at x i) n) j [] ≡ take m out → get_or (units_on n (end_at x (other i)).delivered) j [] ≡ w
    → (length w ≡ m)
    × (distance w (take m out) ≤ e → m ≤ length before.repair → e ≤ length before.places → Receives b e w before a after
    → (a ≡ Ok (record { badge = badge_of_sent (kind_at b) e (distance w (take m out)); changed = distance w (take m out); length = length u }))
    × (handed_unit (badge_of_sent (kind_at b) e (distance w (take m out))) w after.repair (length u) ≡ u)
    × (take (distance w (take m out)) after.places ≡ changed_places w (take m out)))

abbrev pub CarriedByAL1M : Type 1
CarriedByAL1M = (R : ℕ → ℕ → Type 0) (r : Run R) → ByAL1M (ending r)

pub record UnitToUnit : Type 1 where
  pub as_sent : AsSent
  pub numbers_follow : NumbersFollow
  pub by_al1 : CarriedByAL1
  pub by_al2 : CarriedByAL2
  pub by_plain_al2 : CarriedByPlainAL2
  pub by_al1_m : CarriedByAL1M
  pub lies : LiesThere
