-- What is claimed of AL1M, over every unit, word and setting; proofs/Badges.antt and proofs/Theorems.antt prove each claim.
--
--   is_faulty x            badge 2 or 3
--   badge_of_sent κ e k     the badge of a sent unit of which k octets changed, at most e: clean if none did, or unchecked where there is
--                         neither check nor code; else corrected
--   SentIsHandedUp        a sent unit of which at most e octets changed, length and settings unchanged, is handed up as sent, with the
--                         true number of changed octets and their places, and with that badge
--   is_agreeing b e c      the check of b bits in the code word c agrees
--   FoundIsShown          where a code word lies within e octets, whatever its check says: it, the places at which it differs and their number are
--                         shown, and the rest is as it was
--   Faultless             what a badge that is not at fault is given to
--   FaultlessIsCodeWord   another badge is given to nothing but the one code word within e octets whose check agrees: its unit is handed
--                         up, its distance told, and the places at which it differs are listed
--   Earns b e w x         what the badge x is given for (document 01, "AL1M units")
--   Exactly x             it is given exactly for that
--   CleanExactly          0: the received word is a code word and its check agrees, unless there is neither check nor code
--   CorrectedExactly      1: the code word within e octets differs from the received one, and its check agrees
--   OutOfReachExactly     2: there is no code word within e octets
--   CheckFailedExactly    3: there is one, and its check disagrees
--   UncheckedExactly      4: there is neither check nor code
--   OutOfReachLeaves      with badge 2 nothing is changed, neither lent octets nor the lent list, and that is told
--   NoCheckAgrees         with no check it agrees
--   EncodedUnique         any two answers that sending's promise allows are equal, lent octets included
--   ReceivedUnique        .. and any two that receiving's does, the lent list included
--   RefusalLeaves         a refusal leaves every lent octet and the lent list as they came
--
-- Assumes nothing.
use Rattle.std.specs.Prelude.{◌≡◌, ◌≢◌, ◌↔◌, Bool, true, false, cond, List, ℕ, zero, suc, ◌-◌, ◌*◌, ◌≤◌, length, take, Result, Ok, Err}
use Rattle.codeword.specs.Changed.{changed_places}
use Rattle.codeword.specs.Claims.{RepairShows}
use Rattle.codeword.specs.CodeWord.{Octets, CodeWord, distance, Within}
use Rattle.codeword.specs.Repair.{RepairLent}
use Rattle.checks.specs.Check.{Kind, none, agrees}
use Rattle.checks.specs.Width.{kind_at}
use Rattle.adaptation.specs.Sending.{Sends}
use Rattle.adaptation.specs.Receiving.{is_bare, handed_unit, Receives}
use Rattle.calls.specs.declared.Refusal.{Refusal}
use Rattle.adaptation.specs.declared.Badge.{Badge}
use Rattle.adaptation.specs.declared.Badge.TheVariants.{Clean, Corrected, OutOfReach, CheckFailed, Unchecked}
use Rattle.adaptation.specs.declared.al1m.Judgement.{Judgement}

abbrev pub is_faulty : Badge → Bool
is_faulty Clean = false
is_faulty Corrected = false
is_faulty OutOfReach = true
is_faulty CheckFailed = true
is_faulty Unchecked = false

abbrev pub badge_of_sent : Kind → ℕ → ℕ → Badge
badge_of_sent κ e zero = cond (is_bare κ e) Unchecked Clean
badge_of_sent κ e (suc k) = Corrected

abbrev pub SentIsHandedUp : Type 0
SentIsHandedUp =
    (b e m : ℕ) (u room whole w : List ℕ) (before after : RepairLent) (r : Result Judgement Refusal) → Sends b e u room (Ok m) whole
    → length w ≡ m → distance w (take m whole) ≤ e → m ≤ length before.repair → e ≤ length before.places → Receives b e w before r after
    → (r ≡ Ok (record { badge = badge_of_sent (kind_at b) e (distance w (take m whole)); changed = distance w (take m whole); length = length u }))
    × (handed_unit (badge_of_sent (kind_at b) e (distance w (take m whole))) w after.repair (length u) ≡ u)
    × (take (distance w (take m whole)) after.places ≡ changed_places w (take m whole))

abbrev pub is_agreeing : ℕ → ℕ → List ℕ → Bool
is_agreeing b e c = agrees (kind_at b) (take (length c - 2 * e) c)

abbrev pub FoundIsShown : Type 0
FoundIsShown =
    (b e : ℕ) (w : List ℕ) (before after : RepairLent) (j : Judgement) → Receives b e w before (Ok j) after
    → (c : List ℕ) → Within e w c → RepairShows w c before j.changed after

pub record Faultless (b e : ℕ) (w : List ℕ) (after : RepairLent) (c : List ℕ) (j : Judgement) : Type 0 where
  pub within : Within e w c
  pub agreeing : is_agreeing b e c ≡ true
  pub changed : j.changed ≡ distance w c
  pub places : take j.changed after.places ≡ changed_places w c
  pub unit : handed_unit j.badge w after.repair j.length ≡ take j.length c

abbrev pub FaultlessIsCodeWord : Type 0
FaultlessIsCodeWord =
    (b e : ℕ) (w : List ℕ) (before after : RepairLent) (j : Judgement) → Receives b e w before (Ok j) after → is_faulty j.badge ≡ false
    → (c : List ℕ) × Faultless b e w after c j

-- ---- each badge

abbrev pub Earns : ℕ → ℕ → List ℕ → Badge → Type 0
Earns b e w Clean = CodeWord e w × (is_agreeing b e w ≡ true) × (is_bare (kind_at b) e ≡ false)
Earns b e w Corrected = (c : List ℕ) × Within e w c × (c ≢ w) × (is_agreeing b e c ≡ true)
Earns b e w OutOfReach = (c : List ℕ) → Within e w c → ⊥
Earns b e w CheckFailed = (c : List ℕ) × Within e w c × (is_agreeing b e c ≡ false)
Earns b e w Unchecked = Octets w × (is_bare (kind_at b) e ≡ true)

abbrev pub Exactly : Badge → Type 0
Exactly x = (b e : ℕ) (w : List ℕ) (before after : RepairLent) (j : Judgement) → Receives b e w before (Ok j) after → j.badge ≡ x ↔ Earns b e w x

abbrev pub CleanExactly : Type 0
CleanExactly = Exactly Clean

abbrev pub CorrectedExactly : Type 0
CorrectedExactly = Exactly Corrected

abbrev pub OutOfReachExactly : Type 0
OutOfReachExactly = Exactly OutOfReach

abbrev pub CheckFailedExactly : Type 0
CheckFailedExactly = Exactly CheckFailed

abbrev pub UncheckedExactly : Type 0
UncheckedExactly = Exactly Unchecked

abbrev pub OutOfReachLeaves : Type 0
OutOfReachLeaves =
    (b e : ℕ) (w : List ℕ) (before after : RepairLent) (j : Judgement) → Receives b e w before (Ok j) after
    → j.badge ≡ OutOfReach → (j.changed ≡ 0) × (after ≡ before)

-- ---- the rest

abbrev pub NoCheckAgrees : Type 0
NoCheckAgrees = (w : List ℕ) → agrees none w ≡ true

abbrev pub EncodedUnique : Type 0
EncodedUnique =
    (b e : ℕ) (u before after left : List ℕ) (r q : Result ℕ Refusal) → Sends b e u before r after → Sends b e u before q left → (r ≡ q) × (after ≡ left)

abbrev pub ReceivedUnique : Type 0
ReceivedUnique =
    (b e : ℕ) (w : List ℕ) (before after left : RepairLent) (r q : Result Judgement Refusal) → Receives b e w before r after → Receives b e w before q left → (r ≡ q) × (after ≡ left)

abbrev pub RefusalLeaves : Type 0
RefusalLeaves =
    ((b e : ℕ) (k : Refusal) (u before after : List ℕ) → Sends b e u before (Err k) after → after ≡ before)
    × ((b e : ℕ) (k : Refusal) (w : List ℕ) (before after : RepairLent) → Receives b e w before (Err k) after → after ≡ before)
