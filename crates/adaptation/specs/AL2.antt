-- AL2 (000, 7.3; document 01, "AL1 and AL2"; document 02, ticket 5). What a channel keeps of it between two calls is one record, `Numbers`:
-- the number that is sent next and what is due, which is the number that is expected next and the count of failed units. Receiving takes
-- and answers what is due, and nothing of what is sent.
--
--   first_numbers    a channel's numbers at first: all are 0
--   number_as s m    the number of a unit: the one of m that is sent next, or none, by whether units have numbers
--   risen s m       the numbers once a unit was sent: if it had one, the one sent rises modulo 256
--   field n         a number as it is sent: one octet, or none where units have no number (7.3.3.2.1)
--   field_length s   how many octets that is, by whether units have numbers
--   whole n u       a unit u with its number, and the check of 8 bits over both (7.3.3.2.3)
--   is_sendable n u  u has an octet, and the whole no more than the longest unit (1,024)
--   send_tests n u out   what refuses to put it into a lent output, in this order
--   sent n u out    how that ends: with the octets written, or a refusal
--   is_whole s w     w is no shorter than a number if there is one, a unit and a check, and no longer than the longest unit
--   number_of s w    the number that w is made of
--   unit_of s w      .. and the unit
--   Parts           a unit that was read: its number, whether its check agrees, and the unit
--   read_tests s w   what refuses to read w
--   parts_of s w     the parts of w
--   apart s w       how reading w ends
--   distance n e    n - e modulo 256
--   most_past        how far past the number expected a number is accepted, and not misdelivered
--   most_failed      the most failed units that are counted
--   accepting n     what is due once number n was accepted: the one after it, and no unit failed since
--   counting e      what is due once one unit more is counted as failed, where e was
--   failing n e     what is due once a unit failed, where e was: it is counted if it has a number
--   arrival n e     what becomes of number n where e is due (house): up to 127 past the number expected, it is accepted, and as many are
--                   missing as that, less the units that failed since the last accepted one, and never below 0; else it is misdelivered
--   Receipt         what becomes of a unit: it is handed up or discarded, with how many are missing before it, and what is due next
--   due_by r         .. that
--   delivered       .. by what becomes of its number, where its check agrees; on a discard none is missing
--   settled         .. by its parts: the check first, then the number if there is one
--   receipt_of s w e .. by the octets w, where e is due
--   received s w e  how receiving w ends, where e is due
--   apart_says, receipt_says, received_says   what each answer of the functions says
--
-- Assumes nothing.
use Rattle.std.specs.Prelude.{Bool, true, false, cond, not, ◌&&◌, List, [], ◌∷◌, ◌++◌, ℕ, ◌+◌, ◌-◌, ◌%◌, min, leb, ltb, length, get_or, take, drop}
use Rattle.std.specs.Prelude.{Option, Some, None, Result, Ok, Err}
use Rattle.octets.specs.Written.{written}
use Rattle.calls.specs.Refusal.{Told, refused, told, Ended, leaving, refusing, Test, ◌when◌, checked, number}
use Rattle.calls.specs.declared.Refusal.{Refusal}
use Rattle.checks.specs.Check.{check_of, agrees, eight}
use Rattle.adaptation.specs.Handed.{longest_unit, Handed, handed}
use Rattle.adaptation.specs.declared.Badge.TheVariants.{Clean, CheckFailed}
use Rattle.adaptation.specs.declared.al2.Due.{Due}
use Rattle.adaptation.specs.declared.al2.Numbers.{Numbers}
use Rattle.adaptation.specs.declared.al2.Apart.{Apart}
use Rattle.adaptation.specs.declared.al2.Taken.{Taken}
use Rattle.adaptation.specs.declared.al2.Delivery.{Delivery}

-- ---- a channel's numbers

abbrev pub first_numbers : Numbers
first_numbers = record { sent = 0; due = record { expected = 0; failed = 0 } }

abbrev pub number_as : Bool → Numbers → Option ℕ
number_as s m = cond s (Some m.sent) None

abbrev pub risen : Bool → Numbers → Numbers
risen s m = cond s (record { sent = (m.sent + 1) % 256; due = m.due }) m

-- ---- sending

abbrev pub field : Option ℕ → List ℕ
field (Some n) = n ∷ []
field None = []

abbrev pub whole : Option ℕ → List ℕ → List ℕ
whole n u = (field n ++ u) ++ check_of eight (field n ++ u)

abbrev pub is_sendable : Option ℕ → List ℕ → Bool
is_sendable n u = leb 1 (length u) && leb (length (whole n u)) longest_unit

abbrev pub send_tests : Option ℕ → List ℕ → List ℕ → List Test
send_tests n u out = 2 when not (is_sendable n u) ∷ 3 when ltb (length out) (length (whole n u)) ∷ []

unfoldable pub sent : Option ℕ → List ℕ → List ℕ → Ended ℕ (List ℕ)
sent n u out = checked (refusing out) (send_tests n u out) (leaving (length (whole n u)) (written out 0 (whole n u)))

-- ---- reading

abbrev pub field_length : Bool → ℕ
field_length s = cond s 1 0

abbrev pub is_whole : Bool → List ℕ → Bool
is_whole s w = leb (field_length s + 1 + 1) (length w) && leb (length w) longest_unit

abbrev pub number_of : Bool → List ℕ → Option ℕ
number_of s w = cond s (Some (get_or w 0 0)) None

abbrev pub unit_of : Bool → List ℕ → List ℕ
unit_of s w = take (length w - 1 - field_length s) (drop (field_length s) w)

pub record Parts : Type 0 where
  pub number : Option ℕ
  pub agreeing : Bool
  pub unit : List ℕ

abbrev pub read_tests : Bool → List ℕ → List Test
read_tests s w = 2 when not (is_whole s w) ∷ []

abbrev pub parts_of : Bool → List ℕ → Parts
parts_of s w = record { number = number_of s w; agreeing = agrees eight w; unit = unit_of s w }

unfoldable pub apart : Bool → List ℕ → Told Parts
apart s w = checked refused (read_tests s w) (told (parts_of s w))

-- ---- receiving

abbrev pub distance : ℕ → ℕ → ℕ
distance n e = (n + 256 - e) % 256

abbrev pub most_past : ℕ
most_past = 127

abbrev pub most_failed : ℕ
most_failed = 127

abbrev pub accepting : ℕ → Due
accepting n = record { expected = (n + 1) % 256; failed = 0 }

abbrev pub counting : Due → Due
counting e = record { expected = e.expected; failed = min (e.failed + 1) most_failed }

abbrev pub failing : Option ℕ → Due → Due
failing (Some n) e = counting e
failing None e = e

-- a difference of natural numbers is never below 0
unfoldable pub arrival : ℕ → Due → Option Taken
arrival n e =
    let d = distance n e.expected in
    cond (leb d most_past) (Some (record { missing = d - e.failed; due = accepting n })) None

pub data Receipt : Type 0 where
  handed_up : Handed → (missing : ℕ) → Due → Receipt
  discarded : (missing : ℕ) → Due → Receipt

abbrev pub due_by : Receipt → Due
due_by (handed_up u missing e) = e
due_by (discarded missing e) = e

abbrev pub delivered : Option Taken → List ℕ → Due → Receipt
delivered (Some t) u e = handed_up (handed Clean u) t.missing t.due
delivered None u e = discarded 0 e

abbrev pub settled : Option ℕ → Bool → List ℕ → Due → Receipt
settled n false u e = handed_up (handed CheckFailed u) 0 (failing n e)
settled (Some n) true u e = delivered (arrival n e) u e
settled None true u e = handed_up (handed Clean u) 0 e

abbrev pub receipt_of : Bool → List ℕ → Due → Receipt
receipt_of s w e = settled (number_of s w) (agrees eight w) (unit_of s w) e

unfoldable pub received : Bool → List ℕ → Due → Told Receipt
received s w e = checked refused (read_tests s w) (told (receipt_of s w e))

-- ---- what each answer says

abbrev pub apart_says : Result Apart Refusal → List ℕ → Told Parts
apart_says (Ok a) u = told (record { number = a.number; agreeing = a.agrees; unit = u })
apart_says (Err r) u = refused (number r)

-- u is the unit, and e what was due
abbrev pub receipt_says : Option Delivery → List ℕ → Due → Receipt
receipt_says (Some d) u e = handed_up (handed d.badge u) d.missing d.due
receipt_says None u e = discarded 0 e

abbrev pub received_says : Result (Option Delivery) Refusal → List ℕ → Due → Told Receipt
received_says (Ok d) u e = told (receipt_says d u e)
received_says (Err r) u e = refused (number r)
