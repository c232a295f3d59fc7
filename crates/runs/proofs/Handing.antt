-- From unit to unit: AL2's numbers in step over a run, and what each layer hands up.
--
--   MayFrom i l        each of the units l may be sent, from number i on
--   Coded, coded       what AL2 sent in a run: the numbers follow one another, and the units may be sent
--   told-receipts      .. and what it took: what is due follows too
--   numbers-follow     AL2's numbers follow one another over a run
--   wholes_without, may_without   the same without the last unit
--   as-sent            what is delivered is what was wholly sent, where no octet changes on the way
--   carried-by-AL2     each unit wholly sent is handed up as it was handed in, with badge 0 and none missing
--
-- Assumes nothing.
use mathlib.Core.Path.{◌≡◌, refl, sym, ap, ap₂, ◌∙◌}
use mathlib.Core.Bool.{Bool, true, false, cond, ◌&&◌}
use mathlib.Core.List.{List, [], ◌∷◌, map}
use Prim.Native.Nat.{ℕ, ◌+◌, ◌%◌, ◌<◌}
use native.Mathlib.Nat.{mod-lt}
use native.Mathlib.Omega.{arith}
use lib.Dec.{eqb}
use lib.ListN.{take}
use Rattle.octets.specs.Each.{each_map, each_same}
use Rattle.calls.specs.Refusal.{Told, refused, told}
use Rattle.adaptation.specs.AL2.{whole, is_sendable, Receipt, handed_up}
use Rattle.adaptation.specs.AL2Claims.{as_sent, wholes_from, receipts, in_order}
use Rattle.adaptation.specs.declared.al2.Due.{Due}
use Rattle.std.specs.Prelude.{Some}
use Rattle.adaptation.proofs.Laws.{next_in_order}
use Rattle.channels.specs.declared.Channel.{Channel}
use Rattle.channels.specs.Channels.{start, vacant, fresh, place_of}
use Rattle.channels.specs.Layers as layers
use Rattle.channels.specs.Claims.{channel_of}
use Rattle.multiplex.specs.Calls as call
use Rattle.multiplex.specs.Calls.{Answer, telling, sent, taken, called_by, called}
use Rattle.runs.specs.Runs.{Side, near, far, other, end_at, added}
use Rattle.runs.specs.Demand.{without_last, is_waiting}
use Rattle.runs.specs.Carried as carried
use Rattle.runs.specs.Carried.{Run, beginning, ending, Coding, Reception, coded_by, taken_by, over_run, codings, receptions, units_coded, wholes_taken, receipts_told}
use Rattle.runs.proofs.Permitting.{by_layer}
use Rattle.runs.proofs.Opening.{start_alike}
use Rattle.runs.proofs.Numbering.{on_channel}
use Rattle.runs.proofs.Following.{sent_of, due_of, SentOne, sent-none, sent_one, sending_one, TakenOne, taken_none, taken_one, taking_one, other-sending, other-taking}
use Rattle.runs.proofs.Unbroken.{Many, many-none, many_more, Follows, run_follows}
use Rattle.runs.proofs.Stepping.{Kept}
use Rattle.runs.proofs.Delivering.{begin-kept, demand_met}

-- ---- AL2's calls go on from number to number

added_none : {A B : Type 0} (t : Told A) (f : A → Answer) → added {B = B} (telling t f) (λ a. []) ≡ []
added_none (refused k) f = refl
added_none (told a) f = refl

module _ (n m : ℕ) (numbered : Bool) where
  told-coded : (u out o : List ℕ) (t : Told ℕ) → added (telling t (λ k. sent k o)) (coded_by n (call.sending m numbered u out))
      ≡ added t (λ k. cond (numbered && eqb m n) (record { unit = u; octets = take k o } ∷ []) [])
  told-coded u out o (refused k) = refl
  told-coded u out o (told k) = refl

  told-taken : (w : List ℕ) (t : Told Receipt) → added (telling t taken) (taken_by n (call.taking m numbered w))
      ≡ added t (λ r. cond (numbered && eqb m n) (record { octets = w; receipt = r } ∷ []) [])
  told-taken w (refused k) = refl
  told-taken w (told r) = refl

codes : (n : ℕ) → Follows sent_of n (coded_by n) SentOne
unfolding called_by
codes n = record {
  none = λ a. sent-none;
  blind_w = λ c k. refl;
  blind_h = λ c k. refl;
  new = λ m b. refl;
  layer = λ x c full. by_layer
      (λ c. SentOne (channel_of x.channels n).numbers.sent (added (called x c).answer (coded_by n c)) (channel_of (called x c).left.channels n).numbers.sent)
      (λ m numbered u out.
      let r = layers.sending (record { channels = x.channels; output = out }) m numbered u in
      rw (told-coded n m numbered u out r.left.output r.answer) (sending_one x.channels full m u out n numbered))
      (λ m numbered w.
      rw (other-taking x.channels m numbered w n, added_none {B = Coding} (layers.taking x.channels m numbered w).answer taken) sent-none) c;
}

takes : (n : ℕ) → Follows due_of n (taken_by n) TakenOne
unfolding called_by
takes n = record {
  none = λ a. taken_none;
  blind_w = λ c k. refl;
  blind_h = λ c k. refl;
  new = λ m b. refl;
  layer = λ x c full. by_layer
      (λ c. TakenOne (channel_of x.channels n).numbers.due (added (called x c).answer (taken_by n c)) (channel_of (called x c).left.channels n).numbers.due)
      (λ m numbered u out.
      let r = layers.sending (record { channels = x.channels; output = out }) m numbered u in
      rw (other-sending x.channels m numbered u out n, added_none {B = Reception} r.answer (λ k. sent k r.left.output)) taken_none)
      (λ m numbered w.
      rw (told-taken n m numbered w (layers.taking x.channels m numbered w).answer) (taking_one x.channels full m w n numbered)) c;
}

-- ---- over a run

abbrev pub MayFrom : ℕ → List (List ℕ) → Type 0
MayFrom i [] = Unit {0}
MayFrom i (u ∷ l) = (is_sendable (Some i) u ≡ true) × MayFrom ((i + 1) % 256) l

pub record Coded (i : ℕ) (l : List Coding) : Type 0 where
  pub wholes : map (λ (c : Coding). c.octets) l ≡ wholes_from i (map (λ (c : Coding). c.unit) l)
  pub may : MayFrom i (map (λ (c : Coding). c.unit) l)

many-coded : {i j : ℕ} {l : List Coding} → Many SentOne i l j → Coded i l
many-coded many-none = record { wholes = refl; may = tt }
many-coded (many_more sent-none m) = many-coded m
many-coded (many_more (sent_one u w h e) m) =
    let k = many-coded m in
    record { wholes = ap₂ (λ (a : List ℕ) (b : List (List ℕ)). a ∷ b) e k.wholes; may = (h, k.may) }

many-taken : {i j : Due} {l : List Reception} → Many TakenOne i l j
    → map (λ (c : Reception). told c.receipt) l ≡ receipts (map (λ (c : Reception). c.octets) l) i
unfolding receipts
many-taken many-none = refl
many-taken (many_more taken_none m) = many-taken m
many-taken (many_more (taken_one w r e) m) = rw e (ap (λ (l : List (Told Receipt)). told r ∷ l) (many-taken m))

-- what is due at first
abbrev first_due : Due
first_due = record { expected = 0; failed = 0 }

module _ {R : ℕ → ℕ → Type 0} (r : Run R) (i : Side) (n : ℕ) where
  kept : Kept R (beginning r)
  kept = begin-kept R r.lent

  at_first : {A : Type 0} (f : Channel → A) (a : A) → f vacant ≡ a → f (fresh 0 true) ≡ a → on_channel f (end_at (beginning r) i) n ≡ a
  at_first f a v e = by i
    where
      by : (i : Side) → on_channel f (end_at (beginning r) i) n ≡ a
      by near = start_alike f a v e (place_of start n)
      by far = start_alike f a v e (place_of start n)

  pub coded : Coded 0 (over_run (coded_by n) (beginning r) i r.events)
  coded = many-coded (rw (at_first sent_of 0 refl refl) at (run_follows (codes n) r.events (beginning r) i kept r.permitted))

  pub told-receipts : receipts_told (receptions r i n) ≡ receipts (wholes_taken (receptions r i n)) first_due
  told-receipts = many-taken (rw (at_first due_of first_due refl refl) at (run_follows (takes n) r.events (beginning r) i kept r.permitted))

pub numbers-follow : carried.NumbersFollow
numbers-follow R r i n = ((coded r i n).wholes, told-receipts r i n)

-- ---- what is handed up

receipts-in-order : (i : ℕ) (us : List (List ℕ)) → i < 256 → MayFrom i us → receipts (wholes_from i us) (record { expected = i; failed = 0 }) ≡ in_order i us
unfolding receipts
receipts-in-order i [] l m = refl
receipts-in-order i (u ∷ us) l m =
    rw (next_in_order u (record { expected = i; failed = 0 }) l m.0)
    (ap (λ (t : List (Told Receipt)). told (handed_up (as_sent u) 0 (record { expected = (i + 1) % 256; failed = 0 })) ∷ t) (receipts-in-order ((i + 1) % 256) us (mod-lt (i + 1) (omega arith)) m.1))

pub wholes_without : (i : ℕ) (us : List (List ℕ)) → without_last (wholes_from i us) ≡ wholes_from i (without_last us)
unfolding without_last
wholes_without i [] = refl
wholes_without i (u ∷ []) = refl
wholes_without i (u ∷ v ∷ us) = ap (λ (l : List (List ℕ)). whole (Some i) u ∷ l) (wholes_without ((i + 1) % 256) (v ∷ us))

pub may_without : (i : ℕ) (us : List (List ℕ)) → MayFrom i us → MayFrom i (without_last us)
unfolding without_last
may_without i [] m = tt
may_without i (u ∷ []) m = tt
may_without i (u ∷ v ∷ us) m = (m.0, may_without ((i + 1) % 256) (v ∷ us) m.1)

in-order-by : (b : Bool) (us : List (List ℕ)) → MayFrom 0 us
    → receipts (cond b (without_last (wholes_from 0 us)) (wholes_from 0 us)) first_due ≡ in_order 0 (cond b (without_last us) us)
in-order-by true us m = ap (λ (l : List (List ℕ)). receipts l first_due) (wholes_without 0 us) ∙ receipts-in-order 0 (without_last us) (omega arith) (may_without 0 us m)
in-order-by false us m = receipts-in-order 0 us (omega arith) m

pub as-sent : carried.AsSent
as-sent r i n q =
    let d = demand_met ◌≡◌ r.lent r.events r.permitted in
    sym (each_same (each_map (λ u v e. each_same e) (d.complete i n q)))

pub carried-by-AL2 : carried.CarriedByAL2
carried-by-AL2 r i n q posted took =
    let c = coded r i n in
    let us = units_coded (codings r i n) in
    let b = is_waiting (end_at (ending r) i).link.channels n in
    let sent : wholes_taken (receptions r (other i) n) ≡ cond b (without_last (wholes_from 0 us)) (wholes_from 0 us) =
    took ∙ as-sent r i n q ∙ ap (λ (l : List (List ℕ)). cond b (without_last l) l) (posted ∙ c.wholes) in
    told-receipts r (other i) n ∙ ap (λ (l : List (List ℕ)). receipts l first_due) sent ∙ in-order-by b us c.may
