-- Two ends that send to each other, and what becomes of them over a run of calls.
--
--   Side, near, far    the two ends; `other i` is the one that i is not
--   Parcel             a payload on its way: its multiplex code, its closing mark and its octets
--   End                one end: its state, the payloads on their way to it, the oldest first, how many came and how many of them it
--                      refused, and the units that were posted and accepted there, and those that it delivered, in order
--   World, end_at       both ends
--   fresh              an end that is fresh, with octets that it holds and octets that wait
--   Lent, begin        what both ends are lent for these octets, as many as document 01 asks, with any contents; and both fresh with it
--   Event              both c             the call c at both ends
--                      calls i c          the call c at end i
--                      posts i n u        end i posts the unit u on channel n
--                      pays i c room ..   end i makes a payload of at most `room` octets under code c; where one is made, it is on its way
--                      arrives i xs ..    the oldest payload on its way to end i is given to it, as the octets xs, with some room for what it
--                                         delivers; where it is refused for want of room (3), it stays on its way
--   added t f          what an answer adds to a list; a refusal adds nothing
--   refused_once t      1 for a refusal, 0 for an answer
--   units_told a        the units that an answer to a payload tells of
--   parcels_told c a    the payload that an answer tells of, made under code c
--   lacks_room t        it is refused with 3
--   with, posting, sending, taking   an end with another state; after a post; with one more payload on its way to it; and after a payload
--   Libraries          what may stand for the library at both ends; it may go by how many payloads came before
--   arriving           an end after the oldest payload on its way was given to it
--   after              both ends after what one of them has done, and what that puts on its way to the other
--   step, run          one event, and one behind another
--
-- Assumes nothing.
use Rattle.std.specs.Prelude.{◌≡◌, Bool, false, cond, List, [], ◌∷◌, ◌++◌, ℕ, ◌+◌, eqb, length, take}
use Rattle.calls.specs.Refusal.{Told, refused, told, Ended}
use Rattle.channels.specs.Channels.{all_octets}
use Rattle.multiplex.specs.Units.{UnitOn, units_in}
use Rattle.multiplex.specs.Calls as call
use Rattle.multiplex.specs.Calls.{Link, Call, Answer, done, finished, made, sent, taken, Library, called_by, called, begun}

pub data Side : Type 0 where
  near : Side
  far : Side

abbrev pub other : Side → Side
other near = far
other far = near

pub record Parcel : Type 0 where
  pub code : ℕ
  pub mark : Bool
  pub octets : List ℕ

pub record End : Type 0 where
  pub link : Link
  pub coming : List Parcel
  pub came : ℕ
  pub refusals : ℕ
  pub posted : List UnitOn
  pub delivered : List UnitOn

pub record World : Type 0 where
  pub near_end : End
  pub far_end : End

abbrev pub end_at : World → Side → End
end_at x near = x.near_end
end_at x far = x.far_end

abbrev pub fresh : (held waiting : List ℕ) → End
fresh h w = record { link = begun h w; coming = []; came = 0; refusals = 0; posted = []; delivered = [] }

pub record Lent : Type 0 where
  pub held : List ℕ
  pub waiting : List ℕ
  pub held' : List ℕ
  pub waiting' : List ℕ
  pub held_room : length held ≡ all_octets
  pub waiting_room : length waiting ≡ all_octets
  pub held_room' : length held' ≡ all_octets
  pub waiting_room' : length waiting' ≡ all_octets

abbrev pub begin : Lent → World
begin l = record { near_end = fresh l.held l.waiting; far_end = fresh l.held' l.waiting' }

-- ---- events

pub data Event : Type 0 where
  both : Call → Event
  calls : Side → Call → Event
  posts : Side → (n : ℕ) → (unit : List ℕ) → Event
  pays : Side → (code room : ℕ) → (payload : List ℕ) → Event
  arrives : Side → (octets output units : List ℕ) → Event

abbrev pub added : {A B : Type 0} → Told A → (A → List B) → List B
added (refused k) f = []
added (told a) f = f a

abbrev pub refused_once : {A : Type 0} → Told A → ℕ
refused_once (refused k) = 1
refused_once (told a) = 0

abbrev pub units_told : Answer → List UnitOn
units_told done = []
units_told (finished k output units) = units_in output units k
units_told (made p payload) = []
units_told (sent k output) = []
units_told (taken r) = []

-- the payload is the first octets of what its maker was lent
abbrev pub parcels_told : (code : ℕ) → Answer → List Parcel
parcels_told c done = []
parcels_told c (finished k output units) = []
parcels_told c (made p payload) = record { code = c; mark = p.mark; octets = take p.octets payload } ∷ []
parcels_told c (sent k output) = []
parcels_told c (taken r) = []

abbrev pub lacks_room : {A : Type 0} → Told A → Bool
lacks_room (refused k) = eqb k 3
lacks_room (told a) = false

-- ---- an end after a call

abbrev pub with : End → Link → End
with e x = record { link = x; coming = e.coming; came = e.came; refusals = e.refusals; posted = e.posted; delivered = e.delivered }

abbrev pub posting : End → UnitOn → Ended Answer Link → End
posting e u r = record {
  link = r.left;
  coming = e.coming;
  came = e.came;
  refusals = e.refusals;
  posted = e.posted ++ added r.answer (λ a. u ∷ []);
  delivered = e.delivered;
}

abbrev pub sending : End → List Parcel → End
sending e l = record {
  link = e.link;
  coming = e.coming ++ l;
  came = e.came;
  refusals = e.refusals;
  posted = e.posted;
  delivered = e.delivered;
}

-- what is still on its way then, and how the call ended
abbrev pub taking : End → List Parcel → Ended Answer Link → End
taking e rest r = record {
  link = r.left;
  coming = rest;
  came = e.came + 1;
  refusals = e.refusals + refused_once r.answer;
  posted = e.posted;
  delivered = e.delivered ++ added r.answer units_told;
}

-- ---- runs

abbrev pub Libraries : Type 0
Libraries = (before : ℕ) → Library

-- the oldest payload, where there is one, and those behind it
abbrev pub arriving : Libraries → End → List Parcel → (octets output units : List ℕ) → End
arriving L e [] xs output units = e
arriving L e (q ∷ rest) xs output units =
    let r = called_by (L e.came) e.link (call.demultiplexing q.code q.mark xs output units) in
    cond (lacks_room r.answer) e (taking e rest r)

-- both ends after what the end e has done, and what that puts on its way to the other, by whose end it is
abbrev pub after : World → Side → End → List Parcel → World
after x near e l = record { near_end = e; far_end = sending x.far_end l }
after x far e l = record { near_end = sending x.near_end l; far_end = e }

unfoldable pub step : Libraries → World → Event → World
step L x (both c) =
    record { near_end = with x.near_end (called x.near_end.link c).left; far_end = with x.far_end (called x.far_end.link c).left }
step L x (calls i c) = after x i (with (end_at x i) (called (end_at x i).link c).left) []
step L x (posts i n u) =
    after x i (posting (end_at x i) (record { channel = n; octets = u }) (called (end_at x i).link (call.posting n u))) []
step L x (pays i c room payload) =
    let e = end_at x i in
    let r = called_by (L e.came) e.link (call.multiplexing c room payload) in
    after x i (with e r.left) (added r.answer (parcels_told c))
step L x (arrives i xs output units) = after x i (arriving L (end_at x i) (end_at x i).coming xs output units) []

unfoldable pub run : Libraries → World → List Event → World
run L x [] = x
run L x (e ∷ es) = run L (step L x e) es
