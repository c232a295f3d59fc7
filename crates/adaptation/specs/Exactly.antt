-- What document 01, and ticket 2 of document 02, say of the adaptation layers with "exactly when", where a definition changed together with
-- its code would get past every other claim: the table of refusals, number by number, each where the tests before it do not hold; what is never
-- too small; when a unit is unchecked; what becomes of a unit of AL2 whose check disagrees; and what AL1M's sending leaves.
-- The settings and lengths themselves are said in specs/Limits.antt, and the numbers in their order in crate `demands`.
--
--   OfAL1M t n b e k lent    refusals 1, 2 and 3 of AL1M, with a check of b bits and e repairs: of the length question for t octets, of t
--                            octets sent into k lent ones, and of n octets received, with octets and a list lent for the repair
--   OfUnits n s u out        refusals 2 and 3 of AL1 and AL2: of u passed, sent with number n into the lent octets out, and received
--                            as a whole, with a number or not, by s
--   SentLeaves b e u before m after   what sending u into the lent octets `before`, with a check of b bits and e repairs, leaves there
--                            where it answers m octets
--   WholeIs n u              "optional one-octet number, unit, 8 bit check over both": what AL2 sends u as, with number n or without
--   AdaptationExactly        all of it; proofs/Applying.antt and proofs/Assembled.antt prove it
--
-- Assumes nothing.
use Rattle.std.specs.Prelude.{◌≡◌, ◌↔◌, ◌⊎◌, Bool, true, false, List, [], ◌∷◌, ◌++◌, ℕ, ◌+◌, ◌≤◌, ◌<◌, length, take, drop, Option, Some, None, Ok}
use Rattle.codeword.specs.CodeWord.{CodeWord}
use Rattle.codeword.specs.Repair.{RepairLent}
use Rattle.calls.specs.Refusal.{told, Gives}
use Rattle.checks.specs.Check.{none, eight, sixteen, check_of}
use Rattle.checks.specs.Width.{kind_at}
use Rattle.checks.specs.Exactly.{ChecksExactly}
use Rattle.adaptation.specs.AL1M as al1m
use Rattle.adaptation.specs.Sending.{encode_tests, Sends}
use Rattle.adaptation.specs.Receiving.{is_word, receive_tests, is_bare}
use Rattle.adaptation.specs.AL1.{pass_tests, passed}
use Rattle.adaptation.specs.AL2 as al2
use Rattle.adaptation.specs.AL2Claims.{is_numbered, Counted}
use Rattle.adaptation.specs.declared.al2.Due.{Due}

-- "AL1M units"
pub record OfAL1M (t n b e k : ℕ) (lent : RepairLent) : Type 0 where
  -- the length question, which is lent no room
  pub length1 : Gives (al1m.length_tests t b e) 1 ↔ (al1m.is_setting b e ≡ false)
  pub length2 : Gives (al1m.length_tests t b e) 2 ↔ ((al1m.is_setting b e ≡ true) × (al1m.is_sendable t b e ≡ false))
  pub length3 : Gives (al1m.length_tests t b e) 3 → ⊥
  -- a unit of t octets, encoded into k
  pub encode1 : Gives (encode_tests t b e k) 1 ↔ (al1m.is_setting b e ≡ false)
  pub encode2 : Gives (encode_tests t b e k) 2 ↔ ((al1m.is_setting b e ≡ true) × (al1m.is_sendable t b e ≡ false))
  pub encode3 : Gives (encode_tests t b e k) 3 ↔ ((al1m.is_setting b e ≡ true) × ((al1m.is_sendable t b e ≡ true) × (k < al1m.sent_octets t b e)))
  -- n octets received: 3 for a repair buffer shorter than n, or a list shorter than e
  pub receive1 : Gives (receive_tests n b e lent) 1 ↔ (al1m.is_setting b e ≡ false)
  pub receive2 : Gives (receive_tests n b e lent) 2 ↔ ((al1m.is_setting b e ≡ true) × (is_word n b e ≡ false))
  pub receive3 : Gives (receive_tests n b e lent) 3
      ↔ ((al1m.is_setting b e ≡ true) × ((is_word n b e ≡ true) × ((length lent.repair < n) ⊎ (length lent.places < e))))

-- "AL1 and AL2", without the channel that AL2's calls name
pub record OfUnits (n : Option ℕ) (s : Bool) (u out : List ℕ) : Type 0 where
  pub pass2 : Gives (pass_tests u) 2 ↔ ((1 ≤ length u) × (length u ≤ 1024) → ⊥)
  pub send2 : Gives (al2.send_tests n u out) 2 ↔ (al2.is_sendable n u ≡ false)
  pub send3 : Gives (al2.send_tests n u out) 3 ↔ ((al2.is_sendable n u ≡ true) × (length out < length (al2.whole n u)))
  pub read2 : Gives (al2.read_tests s u) 2 ↔ (al2.is_whole s u ≡ false)

pub record SentLeaves (b e : ℕ) (u before : List ℕ) (m : ℕ) (after : List ℕ) : Type 0 where
  -- "unit AL-SDU* of t octets, check of l octets, then parity: sent length is t + l + 2e"
  pub long : m ≡ al1m.sent_octets (length u) b e
  pub unit : take (length u) after ≡ u
  pub check : take (kind_at b).octets (drop (length u) after) ≡ check_of (kind_at b) u
  -- "a code word of n octets is one whose polynomial g divides"
  pub code : CodeWord e (take m after)
  -- "an answer leaves a lent output unchanged past what it writes"
  pub past : drop m after ≡ drop m before

pub record WholeIs (n : ℕ) (u : List ℕ) : Type 0 where
  pub numbered : al2.whole (Some n) u ≡ (n ∷ u) ++ check_of eight (n ∷ u)
  pub unnumbered : al2.whole None u ≡ u ++ check_of eight u

pub record AdaptationExactly : Type 0 where
  pub al1m : (t n b e k : ℕ) (lent : RepairLent) → OfAL1M t n b e k lent
  -- a repair buffer of 255 octets and a list of 127 places are never too small
  pub enough : (n b e : ℕ) (lent : RepairLent) → 255 ≤ length lent.repair → 127 ≤ length lent.places → Gives (receive_tests n b e lent) 3 → ⊥
  pub units : (n : Option ℕ) (s : Bool) (u out : List ℕ) → OfUnits n s u out
  -- AL1 passes a unit of 1 to 1,024 octets as it is, badge 4
  pub passes : (u : List ℕ) → 1 ≤ length u → length u ≤ 1024 → passed u ≡ told (record { badge = 4; changed = 0; unit = u })
  pub whole : (n : ℕ) (u : List ℕ) → WholeIs n u
  -- when a check agrees, and which check each width has
  pub checks : ChecksExactly
  -- badge 4, "for AL1M exactly when e = 0 and l = 0"
  pub unchecked : (e : ℕ) → (is_bare none e ≡ true ↔ (e ≡ 0)) × ((is_bare eight e ≡ false) × (is_bare sixteen e ≡ false))
  -- "if it disagrees, the unit is handed up with badge 3 and the expected number stays": the unit u, whole, behind a number or none and
  -- before an octet c that is not their check; none of its octets is changed, and no unit is missing. With a number it is counted, without
  -- one it is not (document 02, ticket 5)
  pub failed : (n : Option ℕ) (u : List ℕ) (c k : ℕ) (e : Due) → 1 ≤ length u → length (al2.field n ++ u) + 1 ≤ 1024
      → (c ∷ [] ≡ check_of eight (al2.field n ++ u) → ⊥) → Counted (is_numbered n) e.failed k
      → al2.received (is_numbered n) ((al2.field n ++ u) ++ c ∷ []) e
      ≡ told (al2.handed_up (record { badge = 3; changed = 0; unit = u }) 0 (record { expected = e.expected; failed = k }))
  pub sends : (b e m : ℕ) (u before after : List ℕ) → Sends b e u before (Ok m) after → SentLeaves b e u before m after
