-- AL2's sending and receiving undo each other: the claims of specs/AL2Claims.antt.
--
--   sent_is_whole, read_back, read_is_whole, read_parts       sending and reading
--   numbers_rise, range_kept                              a channel's numbers
--   arrival_is                                           what becomes of a number
--   missing_told, next_in_order, late_discarded, plain_received, failed_counted, discard_leaves, due_is, answers_say   what becomes of a unit
--   in_step                                              .. and of units that follow one another
--   wholes_from-append, number_after-append               .. and of more units behind them
--   due_after-append
--   number_after-lt                                      the number that is sent next is an octet
--   sizes, sendable                                     what may be sent is so long, and what is so long may with any number
--
-- Assumes nothing.
use mathlib.Core.Path.{◌≡◌, refl, sym, ap, ap₂, ◌∙◌, subst}
use mathlib.Core.Logic.{inl, inr}
use mathlib.Core.Bool.{Bool, true, false, cond, not}
use mathlib.Core.List.{List, [], ◌∷◌, ◌++◌}
use Prim.Native.Nat.{ℕ, zero, suc, ◌+◌, ◌-◌, ◌%◌, ◌≤◌, ◌<◌}
use native.Mathlib.Omega.{arith}
use borrow.Author.Tests.{le-leb, leb-true, ltb-false, not-false}
use lib.Dec.{T, leb}
use lib.ListN.{length, take, drop, take-append-drop}
use Rattle.std.specs.Prelude.{Option, Some, None}
use Rattle.octets.specs.Same.{same-equal}
use Rattle.octets.specs.Tests.{both_true, never}
use Rattle.octets.specs.Written.{written, written_front, written_behind}
use Rattle.calls.specs.Refusal.{Told, refused, told, Ended, leaving, refusing}
use Rattle.calls.specs.Refusal as tests
use Rattle.calls.proofs.Laws.{told-refused, told_same, leaving-same, by_test, by_tests}
use Rattle.checks.specs.Check.{check_of, agrees, eight}
use Rattle.adaptation.specs.Handed.{longest_unit, is_unit}
use Rattle.adaptation.specs.AL2.{field, whole, is_sendable, send_tests, sent, field_length, is_whole, number_of, unit_of, Parts, read_tests, parts_of}
use Rattle.adaptation.specs.AL2.{apart, risen, distance, most_past, accepting, arrival, Receipt, handed_up, discarded, due_by, delivered, settled, receipt_of, received}
use Rattle.adaptation.specs.AL2Claims.{NumbersRise, DueInRange, NumbersInRange, RangeKept, ArrivalIs, DiscardLeaves, DueIs, AnswersSay}
use Rattle.adaptation.specs.AL2Claims.{is_numbered, Less, SentIsWhole, ReadBack, ReadIsWhole, ReadParts, MissingTold, NextInOrder, LateDiscarded}
use Rattle.adaptation.specs.AL2Claims.{PlainReceived, FailedCounted, wholes_from, number_after, due_next, receipts, due_after, are_sendable, InStep}
use Rattle.adaptation.specs.declared.al2.Due.{Due}
use Rattle.adaptation.specs.declared.al2.Numbers.{Numbers}
use Rattle.adaptation.specs.declared.al2.Taken.{Taken}
use Rattle.adaptation.proofs.Applying.{whole_length, settled-failed}
use Rattle.adaptation.proofs.Arrivals.{arrival-taken, arrival_late}
use Rattle.adaptation.proofs.Wholes.{whole_apart, whole-received}

pub numbers_rise : NumbersRise
numbers_rise = record { first = refl; number = λ m. (refl, refl); rises = λ m. refl; stays = λ m. refl }

settled_range : (n : Option ℕ) (b : Bool) (u : List ℕ) (e : Due) → DueInRange e → DueInRange (due_by (settled n b u e))
unfolding arrival
settled_range (Some n) false u e h = (h.0, omega arith)
settled_range None false u e h = h
settled_range (Some n) true u e h =
    by_test (λ (a : Option Taken). DueInRange (due_by (delivered a u e))) (leb (distance n e.expected) most_past) (λ t. (omega arith, omega arith)) (λ t. h)
settled_range None true u e h = h

risen_range : (numbered : Bool) (m : Numbers) → NumbersInRange m → NumbersInRange (risen numbered m)
risen_range true m h = (omega arith, h.1)
risen_range false m h = h

pub range_kept : RangeKept
range_kept = record {
  first = (omega arith, (omega arith, omega arith));
  sent = risen_range;
  taken = λ numbered w e h. settled_range (number_of numbered w) (agrees eight w) (unit_of numbered w) e h;
}

-- ---- a unit that may be sent

pub sizes : (n : Option ℕ) (u : List ℕ) → is_sendable n u ≡ true → (0 < length u) × (length (whole n u) ≤ longest_unit)
sizes n u h =
    let b = both_true (leb 1 (length u)) (leb (length (whole n u)) longest_unit) h in
    (leb-true 1 (length u) b.0, leb-true (length (whole n u)) longest_unit b.1)

-- ---- sending and reading

pub sent_is_whole : SentIsWhole
unfolding sent
sent_is_whole n u out after m =
    by_tests
    (λ (r : Ended ℕ (List ℕ)). r ≡ leaving m after → Is)
    (refusing out) (send_tests n u out) (leaving (length (whole n u)) (written out 0 (whole n u)))
    (λ k e. told-refused (ap (λ (r : Ended ℕ (List ℕ)). r.answer) e) refl) written_is
  where
    Is : Type 0
    Is = (is_sendable n u ≡ true) × (m ≡ length (whole n u)) × (take m after ≡ whole n u) × (drop m after ≡ drop m out)

    written_is : tests.None (send_tests n u out) → leaving (length (whole n u)) (written out 0 (whole n u)) ≡ leaving m after
        → Is
    written_is (a, (b, c)) e =
        let room : length (whole n u) ≤ length out = ltb-false (length out) (length (whole n u)) b in
        let both = leaving-same (length (whole n u)) m (written out 0 (whole n u)) after e in
        let k : m ≡ length (whole n u) = sym both.0 in
        let z : m ≡ 0 + length (whole n u) = omega arith in
        let x : after ≡ written out 0 (whole n u) = sym both.1 in
        (not-false (is_sendable n u) a, k, rw (k, x) (written_front out (whole n u) room), rw (z, x) (written_behind out 0 (whole n u) (omega arith)))

pub read_back : ReadBack
read_back n u h = whole_apart n u (sizes n u h).0 (sizes n u h).1

-- a list whose check agrees is its content and the check of that
sealed : (w : List ℕ) → agrees eight w ≡ true → w ≡ take (length w - 1) w ++ check_of eight (take (length w - 1) w)
unfolding agrees eight
sealed w a =
    let e = same-equal (drop (length w - 1) w) (check_of eight (take (length w - 1) w)) (subst T (sym a) tt) in
    sym (take-append-drop (length w - 1) w) ∙ ap (λ (x : List ℕ). take (length w - 1) w ++ x) e

-- .. which is the number and the unit
content : (s : Bool) (w : List ℕ) → field_length s + 1 + 1 ≤ length w → field (number_of s w) ++ unit_of s w ≡ take (length w - 1) w
content true [] h = absurd (omega arith)
content true (a ∷ v) h =
    let k : suc (length v) - 1 ≡ suc (length v - 1) = omega arith in
    let i : suc (length v) - 1 - 1 ≡ length v - 1 = omega arith in
    ap (λ (j : ℕ). a ∷ take j v) i ∙ ap (λ (j : ℕ). take j (a ∷ v)) (sym k)
content false w h = let i : length w - 1 - 0 ≡ length w - 1 = omega arith in ap (λ (j : ℕ). take j w) i

numbered_of : (s : Bool) (w : List ℕ) → is_numbered (number_of s w) ≡ s
numbered_of true w = refl
numbered_of false w = refl

field_of : (s : Bool) (w : List ℕ) → length (field (number_of s w)) ≡ field_length s
field_of true w = refl
field_of false w = refl

pub read_is_whole : ReadIsWhole
unfolding apart
read_is_whole s w p =
    by_tests (λ (t : Told Parts). t ≡ told p → p.agreeing ≡ true → Whole p) refused (read_tests s w) (told (parts_of s w)) (λ k e. never (cc))
    (λ h e. subst (λ (q : Parts). q.agreeing ≡ true → Whole q) (told_same (parts_of s w) p e) (made h.0))
  where
    Whole : Parts → Type 0
    Whole q = (is_numbered q.number ≡ s) × (is_sendable q.number q.unit ≡ true) × (w ≡ whole q.number q.unit)

    made : not (is_whole s w) ≡ false → agrees eight w ≡ true → Whole (parts_of s w)
    made h a =
        let b = both_true (leb (field_length s + 1 + 1) (length w)) (leb (length w) longest_unit) (not-false (is_whole s w) h) in
        let short = leb-true (field_length s + 1 + 1) (length w) b.0 in
        let long = leb-true (length w) longest_unit b.1 in
        let e : w ≡ whole (number_of s w) (unit_of s w) = sealed w a ∙ ap (λ (x : List ℕ). x ++ check_of eight x) (sym (content s w short)) in
        let l = whole_length (number_of s w) (unit_of s w) (field_length s) (sym (field_of s w)) in
        let n : length w ≡ field_length s + length (unit_of s w) + 1 = ap length e ∙ l in
        (numbered_of s w, rw (le-leb 1 (length (unit_of s w)) (omega arith), le-leb (length (whole (number_of s w) (unit_of s w))) longest_unit (omega (arith, l))), e)

pub read_parts : ReadParts
unfolding apart
read_parts s n w p =
    by_tests (λ (t : Told Parts). t ≡ told p → Said p) refused (read_tests s (n ∷ w)) (told (parts_of s (n ∷ w))) (λ k e. never (cc))
    (λ none e. subst Said (told_same (parts_of s (n ∷ w)) p e) (refl, refl))
  where
    Said : Parts → Type 0
    Said q = (q.number ≡ cond s (Some n) None) × (q.agreeing ≡ agrees eight (n ∷ w))

-- ---- what becomes of a unit

-- by what becomes of its number
module _ (u : List ℕ) (e : Due) (n : ℕ) (h : is_sendable (Some n) u ≡ true) where
  arrived : (a : Option Taken) → arrival n e ≡ a → received true (whole (Some n) u) e ≡ told (delivered a u e)
  arrived a q = whole-received (Some n) u e (sizes (Some n) u h).0 (sizes (Some n) u h).1 ∙ ap (λ (x : Option Taken). told (delivered x u e)) q

pub arrival_is : ArrivalIs
arrival_is e d n k (he, hd, is) less = (λ l. rw is (arrival-taken e d he hd k less l), λ l. rw is (arrival_late e d he hd (omega arith)))

pub missing_told : MissingTold
missing_told u e d n k past l less h = arrived u e n h (Some (record { missing = k; due = accepting n })) ((arrival_is e d n k past less).0 l)

-- none is missing before the number expected, whatever failed
none-less : (c : ℕ) → Less 0 c 0
none-less zero = inl refl
none-less (suc c) = inr (omega arith, refl)

pub next_in_order : NextInOrder
next_in_order u e he h = missing_told u e 0 e.expected 0 (he, omega arith, omega arith) (omega arith) (none-less e.failed) h

pub late_discarded : LateDiscarded
late_discarded u e d n (he, hd, is) l h = arrived u e n h None (rw is (arrival_late e d he hd (omega arith)))

pub plain_received : PlainReceived
plain_received u e h = whole-received None u e (sizes None u h).0 (sizes None u h).1

pub failed_counted : FailedCounted
unfolding received
failed_counted true w e k q h a = rw (h, a) (ap told (settled-failed (number_of true w) (unit_of true w) e k q))
failed_counted false w e k q h a = rw (h, a) (ap told (settled-failed (number_of false w) (unit_of false w) e k q))

-- of a receipt, how many are missing before the unit
missing_by : Receipt → ℕ
missing_by (handed_up u k e) = k
missing_by (discarded k e) = k

delivered_late : (a : Option Taken) (u : List ℕ) (e x : Due) (k : ℕ) → delivered a u e ≡ discarded k x → (k ≡ 0) × (x ≡ e)
unfolding missing_by
delivered_late (Some t) u e x k q = never (cc)
delivered_late None u e x k q = (sym (ap missing_by q), sym (ap due_by q))

settled_late : (n : Option ℕ) (b : Bool) (u : List ℕ) (e x : Due) (k : ℕ) → settled n b u e ≡ discarded k x → (k ≡ 0) × (x ≡ e)
settled_late n false u e x k q = never (cc)
settled_late (Some n) true u e x k q = delivered_late (arrival n e) u e x k q
settled_late None true u e x k q = never (cc)

pub discard_leaves : DiscardLeaves
unfolding received
discard_leaves s w e x k =
    by_tests (λ (t : Told Receipt). t ≡ told (discarded k x) → (k ≡ 0) × (x ≡ e)) refused (read_tests s w) (told (receipt_of s w e)) (λ j q. never (cc))
    (λ none q. settled_late (number_of s w) (agrees eight w) (unit_of s w) e x k (told_same (receipt_of s w e) (discarded k x) q))

pub due_is : DueIs
due_is h k e = (refl, refl)

pub answers_say : (u : List ℕ) (e : Due) → AnswersSay u e
answers_say u e = record {
  unit = λ b k x. refl;
  clean = λ k x. refl;
  failed = λ k x. refl;
  late = refl;
  unheard = λ k. refl;
  parts = λ n t. refl;
  unread = λ k. refl;
}

-- ---- one after another

pub sendable : (i : ℕ) (u : List ℕ) → is_unit (longest_unit - 2) u ≡ true → is_sendable (Some i) u ≡ true
sendable i u h =
    let b = both_true (leb 1 (length u)) (leb (length u) (longest_unit - 2)) h in
    let l = whole_length (Some i) u 1 refl in
    rw (b.0, le-leb (length (whole (Some i) u)) longest_unit (omega (arith, l, leb-true (length u) (longest_unit - 2) b.1)))

pub wholes_from-append : (i : ℕ) (l m : List (List ℕ)) → wholes_from i (l ++ m) ≡ wholes_from i l ++ wholes_from (number_after i l) m
wholes_from-append i [] m = refl
wholes_from-append i (u ∷ l) m = ap (λ (x : List (List ℕ)). whole (Some i) u ∷ x) (wholes_from-append ((i + 1) % 256) l m)

pub number_after-append : (i : ℕ) (l m : List (List ℕ)) → number_after i (l ++ m) ≡ number_after (number_after i l) m
number_after-append i [] m = refl
number_after-append i (u ∷ l) m = number_after-append ((i + 1) % 256) l m

pub number_after-lt : (i : ℕ) (l : List (List ℕ)) → i < 256 → number_after i l < 256
number_after-lt i [] h = h
number_after-lt i (u ∷ l) h = number_after-lt ((i + 1) % 256) l (omega arith)

pub due_after-append : (l m : List (List ℕ)) (e : Due) → due_after (l ++ m) e ≡ due_after m (due_after l e)
unfolding due_after
due_after-append [] m e = refl
due_after-append (w ∷ l) m e = due_after-append l m (due_next (received true w e) e)

pub in_step : InStep
unfolding receipts due_after
in_step i c [] hi all = (refl, refl)
in_step i c (u ∷ l) hi all =
    let b = both_true (is_unit (longest_unit - 2) u) (are_sendable l) all in
    let e : Due = record { expected = i; failed = c } in
    let w = whole (Some i) u in
    let first = next_in_order u e hi (sendable i u b.0) in
    let next : due_next (received true w e) e ≡ accepting i = ap (λ (t : Told Receipt). due_next t e) first in
    let rest = in_step ((i + 1) % 256) 0 l (omega arith) b.1 in (
      ap₂ (λ (t : Told Receipt) (x : List (Told Receipt)). t ∷ x) first (ap (receipts (wholes_from ((i + 1) % 256) l)) next ∙ rest.0),
      ap (λ (x : Due). (due_after (wholes_from ((i + 1) % 256) l) x).expected) next ∙ rest.1,
    )
