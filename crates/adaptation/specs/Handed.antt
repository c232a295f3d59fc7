-- What is handed up (document 01, "AL1M units", "AL1 and AL2").
--
--   longest_unit     the octets of the longest unit; in AL2 its number and its check count too
--   is_unit k u      u has an octet, and at most k
--   badge_number b   document 01's number for each badge
--   Handed          a unit that is handed up: its badge's number, how many of its octets were changed, and its octets
--   handed b u      .. with none changed
--
-- Assumes nothing.
use Rattle.std.specs.Prelude.{Bool, ◌&&◌, List, ℕ, leb, length}
use Rattle.adaptation.specs.declared.Badge.{Badge}
use Rattle.adaptation.specs.declared.Badge.TheVariants.{Clean, Corrected, OutOfReach, CheckFailed, Unchecked}

abbrev pub longest_unit : ℕ
longest_unit = 1024

abbrev pub is_unit : ℕ → List ℕ → Bool
is_unit k u = leb 1 (length u) && leb (length u) k

abbrev pub badge_number : Badge → ℕ
badge_number Clean = 0
badge_number Corrected = 1
badge_number OutOfReach = 2
badge_number CheckFailed = 3
badge_number Unchecked = 4

pub record Handed : Type 0 where
  pub badge : ℕ
  pub changed : ℕ
  pub unit : List ℕ

abbrev pub handed : Badge → List ℕ → Handed
handed b u = record { badge = badge_number b; changed = 0; unit = u }
