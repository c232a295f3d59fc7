-- What is claimed of AL2's sending and receiving, each the inverse of the other, over every number, every unit and whatever is due (000, 7.3;
-- document 01, "AL1 and AL2"; document 02, ticket 5); proofs/InStep.antt proves each claim.
--
--   NumbersRise       a channel starts with its numbers and its count 0; a unit is sent with the number that is sent next, which then rises
--                     modulo 256, or with none, and then nothing changes
--   DueInRange e      the number expected is an octet, and at most 127 units are counted
--   NumbersInRange m  .. and the number sent is an octet
--   RangeKept         so it is at first, after each sending and after each receiving
--   is_numbered n      there is a number
--   as_sent u          u is handed up with badge 0 and nothing changed
--   as_failed u        .. with badge 3
--   SentIsWhole       what sending writes is number, unit and check, as many octets as it answers, and the rest of the output stays
--   ReadBack          that is read as the number, an agreeing check and the unit
--   ReadIsWhole       .. and what is read with an agreeing check is what sending its parts writes
--   ReadParts         whatever its check is, the number that is read is the first octet where units have one, and whether the check agrees is told
--   Past e d n        number n is d past e, modulo 256
--   Less d c k        k is d less c, and 0 if that is below zero
--   Counted s c k     k is the count c once a unit failed: with a number one more and at most 127, without one c
--   ArrivalIs         what becomes of a number by itself: up to 127 past the expected one, d less the count are missing before it, the number
--                     behind it is expected next and the count is 0; from 128 on it is misdelivered
--   MissingTold       up to 127 past the expected number: the unit is handed up as sent, d less the count of failed units are missing, the
--                     number behind n is expected next, and the count is 0
--   NextInOrder       .. so with the expected number none is missing
--   LateDiscarded     from 128 past it: the unit is discarded, none is missing, and the expected number and the count stay
--   PlainReceived     without a number the unit is handed up as sent, none is missing, and the expected number and the count stay
--   FailedCounted     where the check disagrees: badge 3, none is missing, the expected number stays, and the unit is counted if it has a number
--   DiscardLeaves     whatever was received, a discard tells none missing, and leaves what is due
--   DueIs             what is due next by a receipt is what it tells, of a unit handed up and of one discarded
--   AnswersSay        what the answers of receiving and reading say: the badge, how many are missing and what is due are those answered, and the
--                     unit is the part of the whole
--   wholes_from i l    what sending makes of the units l, one after another, from number i on
--   number_after i l   the number that is then sent next
--   due_next t e       what is due once a whole was received, where e was
--   receipts l e      what becomes of the wholes l, one after another, where e is due at first
--   due_after l e      what is then due
--   in_order i l       each of the units l is handed up as sent with none missing, from number i on
--   are_sendable l     each of the units l may be sent with a number: with it and the check it is no longer than the longest unit
--   InStep            units sent and received one after another, from the same number, whatever the count: each is handed up as sent with none
--                     missing, and the numbers are the same again
--
-- Assumes nothing.
use Rattle.std.specs.Prelude.{◌≡◌, ◌⊎◌, Bool, true, false, cond, ◌&&◌, List, [], ◌∷◌, ℕ, ◌+◌, ◌-◌, ◌%◌, ◌≤◌, ◌<◌, length, take, drop}
use Rattle.std.specs.Prelude.{Option, Some, None, Ok, Err}
use Rattle.calls.specs.Refusal.{Told, refused, told, leaving, number}
use Rattle.calls.specs.declared.Refusal.{Refusal}
use Rattle.checks.specs.Check.{agrees, eight}
use Rattle.adaptation.specs.Handed.{longest_unit, is_unit, badge_number, Handed}
use Rattle.adaptation.specs.AL2.{first_numbers, number_as, risen, whole, is_sendable, sent, is_whole, unit_of, Parts, apart}
use Rattle.adaptation.specs.AL2.{arrival, Receipt, handed_up, discarded, due_by, receipt_of, received, apart_says, received_says}
use Rattle.adaptation.specs.declared.Badge.{Badge}
use Rattle.adaptation.specs.declared.Badge.TheVariants.{Clean, CheckFailed}
use Rattle.adaptation.specs.declared.al2.Due.{Due}
use Rattle.adaptation.specs.declared.al2.Numbers.{Numbers}

abbrev pub is_numbered : Option ℕ → Bool
is_numbered (Some n) = true
is_numbered None = false

abbrev pub as_sent : List ℕ → Handed
as_sent u = record { badge = 0; changed = 0; unit = u }

abbrev pub as_failed : List ℕ → Handed
as_failed u = record { badge = 3; changed = 0; unit = u }

-- ---- a channel's numbers

pub record NumbersRise : Type 0 where
  pub first : first_numbers ≡ record { sent = 0; due = record { expected = 0; failed = 0 } }
  pub number : (m : Numbers) → (number_as true m ≡ Some m.sent) × (number_as false m ≡ None)
  pub rises : (m : Numbers) → risen true m ≡ record { sent = (m.sent + 1) % 256; due = m.due }
  pub stays : (m : Numbers) → risen false m ≡ m

abbrev pub DueInRange : Due → Type 0
DueInRange e = (e.expected < 256) × (e.failed ≤ 127)

abbrev pub NumbersInRange : Numbers → Type 0
NumbersInRange m = (m.sent < 256) × DueInRange m.due

pub record RangeKept : Type 0 where
  pub first : NumbersInRange first_numbers
  pub sent : (numbered : Bool) (m : Numbers) → NumbersInRange m → NumbersInRange (risen numbered m)
  pub taken : (numbered : Bool) (w : List ℕ) (e : Due) → DueInRange e → DueInRange (due_by (receipt_of numbered w e))

-- ---- sending and reading

abbrev pub SentIsWhole : Type 0
SentIsWhole =
    (n : Option ℕ) (u out after : List ℕ) (m : ℕ) → sent n u out ≡ leaving m after
    → (is_sendable n u ≡ true) × (m ≡ length (whole n u)) × (take m after ≡ whole n u) × (drop m after ≡ drop m out)

abbrev pub ReadBack : Type 0
ReadBack =
    (n : Option ℕ) (u : List ℕ) → is_sendable n u ≡ true
    → apart (is_numbered n) (whole n u) ≡ told (record { number = n; agreeing = true; unit = u })

abbrev pub ReadIsWhole : Type 0
ReadIsWhole =
    (s : Bool) (w : List ℕ) (p : Parts) → apart s w ≡ told p → p.agreeing ≡ true
    → (is_numbered p.number ≡ s) × (is_sendable p.number p.unit ≡ true) × (w ≡ whole p.number p.unit)

abbrev pub ReadParts : Type 0
ReadParts =
    (s : Bool) (n : ℕ) (w : List ℕ) (p : Parts) → apart s (n ∷ w) ≡ told p
    → (p.number ≡ cond s (Some n) None) × (p.agreeing ≡ agrees eight (n ∷ w))

-- ---- receiving what was sent

abbrev pub Past : (e d n : ℕ) → Type 0
Past e d n = (e < 256) × (d < 256) × (n ≡ (e + d) % 256)

abbrev pub Less : (d c k : ℕ) → Type 0
Less d c k = (d ≡ c + k) ⊎ ((d < c) × (k ≡ 0))

abbrev pub Counted : (numbered : Bool) → (c k : ℕ) → Type 0
Counted true c k = ((c < 127) × (k ≡ c + 1)) ⊎ ((127 ≤ c) × (k ≡ 127))
Counted false c k = k ≡ c

abbrev pub ArrivalIs : Type 0
ArrivalIs =
    (e : Due) (d n k : ℕ) → Past e.expected d n → Less d e.failed k
    → (d ≤ 127 → arrival n e ≡ Some (record { missing = k; due = record { expected = (n + 1) % 256; failed = 0 } })) × (128 ≤ d → arrival n e ≡ None)

abbrev pub MissingTold : Type 0
MissingTold =
    (u : List ℕ) (e : Due) (d n k : ℕ) → Past e.expected d n → d ≤ 127 → Less d e.failed k → is_sendable (Some n) u ≡ true
    → received true (whole (Some n) u) e ≡ told (handed_up (as_sent u) k (record { expected = (n + 1) % 256; failed = 0 }))

abbrev pub NextInOrder : Type 0
NextInOrder =
    (u : List ℕ) (e : Due) → e.expected < 256 → is_sendable (Some e.expected) u ≡ true
    → received true (whole (Some e.expected) u) e ≡ told (handed_up (as_sent u) 0 (record { expected = (e.expected + 1) % 256; failed = 0 }))

abbrev pub LateDiscarded : Type 0
LateDiscarded =
    (u : List ℕ) (e : Due) (d n : ℕ) → Past e.expected d n → 128 ≤ d → is_sendable (Some n) u ≡ true
    → received true (whole (Some n) u) e ≡ told (discarded 0 e)

abbrev pub PlainReceived : Type 0
PlainReceived = (u : List ℕ) (e : Due) → is_sendable None u ≡ true → received false (whole None u) e ≡ told (handed_up (as_sent u) 0 e)

abbrev pub FailedCounted : Type 0
FailedCounted =
    (s : Bool) (w : List ℕ) (e : Due) (k : ℕ) → Counted s e.failed k → is_whole s w ≡ true → agrees eight w ≡ false
    → received s w e ≡ told (handed_up (as_failed (unit_of s w)) 0 (record { expected = e.expected; failed = k }))

abbrev pub DiscardLeaves : Type 0
DiscardLeaves = (s : Bool) (w : List ℕ) (e x : Due) (k : ℕ) → received s w e ≡ told (discarded k x) → (k ≡ 0) × (x ≡ e)

abbrev pub DueIs : Type 0
DueIs = (h : Handed) (k : ℕ) (e : Due) → (due_by (handed_up h k e) ≡ e) × (due_by (discarded k e) ≡ e)

-- u is the unit's part of the whole, and e what was due
pub record AnswersSay (u : List ℕ) (e : Due) : Type 0 where
  pub unit : (b : Badge) (k : ℕ) (x : Due) → received_says (Ok (Some (record { badge = b; missing = k; due = x }))) u e ≡ told (handed_up (record { badge = badge_number b; changed = 0; unit = u }) k x)
  pub clean : (k : ℕ) (x : Due) → received_says (Ok (Some (record { badge = Clean; missing = k; due = x }))) u e ≡ told (handed_up (as_sent u) k x)
  pub failed : (k : ℕ) (x : Due) → received_says (Ok (Some (record { badge = CheckFailed; missing = k; due = x }))) u e ≡ told (handed_up (as_failed u) k x)
  pub late : received_says (Ok None) u e ≡ told (discarded 0 e)
  pub unheard : (r : Refusal) → received_says (Err r) u e ≡ refused (number r)
  pub parts : (n : Option ℕ) (t : Bool) → apart_says (Ok (record { number = n; agrees = t })) u ≡ told (record { number = n; agreeing = t; unit = u })
  pub unread : (r : Refusal) → apart_says (Err r) u ≡ refused (number r)

-- ---- one after another

abbrev pub wholes_from : ℕ → List (List ℕ) → List (List ℕ)
wholes_from i [] = []
wholes_from i (u ∷ l) = whole (Some i) u ∷ wholes_from ((i + 1) % 256) l

abbrev pub number_after : ℕ → List (List ℕ) → ℕ
number_after i [] = i
number_after i (u ∷ l) = number_after ((i + 1) % 256) l

abbrev pub due_next : Told Receipt → Due → Due
due_next (refused k) e = e
due_next (told r) e = due_by r

unfoldable pub receipts : List (List ℕ) → Due → List (Told Receipt)
receipts [] e = []
receipts (w ∷ l) e = received true w e ∷ receipts l (due_next (received true w e) e)

unfoldable pub due_after : List (List ℕ) → Due → Due
due_after [] e = e
due_after (w ∷ l) e = due_after l (due_next (received true w e) e)

abbrev pub in_order : ℕ → List (List ℕ) → List (Told Receipt)
in_order i [] = []
in_order i (u ∷ l) = told (handed_up (as_sent u) 0 (record { expected = (i + 1) % 256; failed = 0 })) ∷ in_order ((i + 1) % 256) l

abbrev pub are_sendable : List (List ℕ) → Bool
are_sendable [] = true
are_sendable (u ∷ l) = is_unit (longest_unit - 2) u && are_sendable l

abbrev pub InStep : Type 0
InStep =
    (i c : ℕ) (l : List (List ℕ)) → i < 256 → are_sendable l ≡ true
    → (receipts (wholes_from i l) (record { expected = i; failed = c }) ≡ in_order i l)
    × ((due_after (wholes_from i l) (record { expected = i; failed = c })).expected ≡ number_after i l)
