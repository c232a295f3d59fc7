-- AL1M's receiving (document 01, "AL1M units"; document 02, ticket 2; 003, D.4.1.9).
--
--   RepairLent, lending, has_repair_room   what is lent for a repair, octets and a list, and whether it has the room: passed on from the code
--                                    word's
--   is_word n b e                     n octets may be a sent unit with a check of b bits and e repairs
--   receive_tests n b e lent          what refuses to receive n octets, with octets and a list lent for the repair, in this order
--   is_bare κ e                       there is neither a check nor a code
--   badge_of x r a                    the badge, from whether it is bare, what the repair answers, and whether the check of the word
--                                    found agrees
--   changed_of r                      in how many octets the word found differs from the received one; 0 where none was found
--   unit_length κ e n                 how many octets of n are the unit
--   is_corrected x                    badge 1
--   handed_unit x w after t           the unit handed up: the first t octets of the repair buffer when corrected, and of the received
--                                    word w otherwise (house)
--   HandedIs κ e w before j after    what is told of the word w, and left of what was lent, where it is handed up
--   Receives b e w before r after    what receiving the word w, with `before` lent for the repair, answers and leaves: it is handed up, and the
--                                    code word found is at the front of the lent octets, the places at which it differs at the front of the
--                                    lent list, both unchanged where none was found; or it is refused, and nothing changes
--
-- Assumes nothing.
use Rattle.std.specs.Prelude.{◌≡◌, Bool, true, false, cond, not, ◌&&◌, Option, Some, None, Result, Ok, Err, List, ℕ, zero, suc, ◌+◌, ◌-◌, ◌*◌, eqb, leb, length, take}
use Rattle.codeword.specs.CodeWord.{longest_word}
use Rattle.codeword.specs.Repair.{Repaired}
pub use Rattle.codeword.specs.Repair.{RepairLent, lending, has_repair_room}
use Rattle.calls.specs.Refusal.{told, Test, refusal, RefusedIs, number}
use Rattle.calls.specs.declared.Refusal.{Refusal}
use Rattle.checks.specs.Check.{Kind, agrees}
use Rattle.checks.specs.Width.{kind_at}
use Rattle.adaptation.specs.AL1M.{al1m_tests, is_setting}
use Rattle.adaptation.specs.declared.Badge.{Badge}
use Rattle.adaptation.specs.declared.Badge.TheVariants.{Clean, Corrected, OutOfReach, CheckFailed, Unchecked}
use Rattle.adaptation.specs.declared.al1m.Judgement.{Judgement}

unfoldable pub is_word : ℕ → ℕ → ℕ → Bool
is_word n b e = leb n longest_word && leb (1 + (kind_at b).octets + 2 * e) n

abbrev pub receive_tests : ℕ → ℕ → ℕ → RepairLent → List Test
receive_tests n b e lent = al1m_tests (is_setting b e) (is_word n b e) (not (has_repair_room n e lent))

abbrev pub is_bare : Kind → ℕ → Bool
is_bare κ e = eqb e 0 && eqb κ.octets 0

abbrev pub badge_of : Bool → Option ℕ → Bool → Badge
badge_of x None a = OutOfReach
badge_of x (Some k) false = CheckFailed
badge_of x (Some zero) true = cond x Unchecked Clean
badge_of x (Some (suc k)) true = Corrected

abbrev pub changed_of : Option ℕ → ℕ
changed_of (Some k) = k
changed_of None = 0

abbrev pub unit_length : Kind → ℕ → ℕ → ℕ
unit_length κ e n = n - 2 * e - κ.octets

abbrev pub is_corrected : Badge → Bool
is_corrected Clean = false
is_corrected Corrected = true
is_corrected OutOfReach = false
is_corrected CheckFailed = false
is_corrected Unchecked = false

abbrev pub handed_unit : Badge → List ℕ → List ℕ → ℕ → List ℕ
handed_unit x w after t = take t (cond (is_corrected x) after w)

pub record HandedIs (κ : Kind) (e : ℕ) (w : List ℕ) (before : RepairLent) (j : Judgement) (after : RepairLent) : Type 0 where
  pub reach : Option ℕ
  pub repaired : Repaired e w before reach after
  pub badge_is : j.badge ≡ badge_of (is_bare κ e) reach (agrees κ (take (length w - 2 * e) after.repair))
  pub changed_is : j.changed ≡ changed_of reach
  pub length_is : j.length ≡ unit_length κ e (length w)

abbrev pub Receives : ℕ → ℕ → List ℕ → RepairLent → Result Judgement Refusal → RepairLent → Type 0
Receives b e w before (Ok j) after = (refusal (receive_tests (length w) b e before) ≡ told tt) × HandedIs (kind_at b) e w before j after
Receives b e w before (Err r) after = RefusedIs (receive_tests (length w) b e before) (number r) before after
