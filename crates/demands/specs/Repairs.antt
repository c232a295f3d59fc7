-- Demand 3: for every received word of at most 255 octets and every permitted e, a repaired word is found exactly when some code word
-- of that length differs from it in at most e octets; never a second one; a unit of which at most e octets changed is handed up as
-- sent with the true count; a word out of reach is badged so and never corrected. Beside that each badge is pinned (document 01, "AL1M
-- units"), and so are the places of the octets that were repaired (document 02, ticket 2).
--
--   Repairs    what demand 3 says of one word
--   Demand3    that, of every answer that AL1M's receiving may give. (Which words and settings are permitted is demand 1: all but those
--              of refusals 1 and 2, and 3 where the buffer for the repair or the list of places is too small.) proofs/Reached.antt proves it
--
-- Assumes nothing.
use Rattle.std.specs.Prelude.{◌≡◌, ◌↔◌, false, List, ℕ, take, Ok}
use Rattle.codeword.specs.Claims.{PlacesExactly, PlacesCounted, RepairShows}
use Rattle.codeword.specs.CodeWord.{Within}
use Rattle.adaptation.specs.Receiving.{RepairLent, Receives, handed_unit}
use Rattle.adaptation.specs.Claims.{is_faulty, Faultless, Earns, SentIsHandedUp}
use Rattle.adaptation.specs.declared.Badge.{Badge}
use Rattle.adaptation.specs.declared.Badge.TheVariants.{Corrected, OutOfReach}
use Rattle.adaptation.specs.declared.al1m.Judgement.{Judgement}

-- a check of b bits and e repairs, the word w, what was lent for the repair before and after, and what is told
module _ (b e : ℕ) (w : List ℕ) (before after : RepairLent) (j : Judgement) where
  pub record Repairs : Type 0 where
    -- a repaired word is found exactly when some code word of that length differs from it in at most e octets
    pub found : (j.badge ≡ OutOfReach → ⊥) ↔ ((c : List ℕ) × Within e w c)
    -- .. it stands in the repair buffer, the places at which it differs stand in the list, and the count is their number
    pub repaired : (c : List ℕ) → Within e w c → RepairShows w c before j.changed after
    -- never a second one
    pub once : (c d : List ℕ) → Within e w c → Within e w d → c ≡ d
    -- each badge is given exactly for what document 01 says
    pub badge : (x : Badge) → j.badge ≡ x ↔ Earns b e w x
    -- a badge that is not at fault is given to the unit of that code word alone, where its check agrees
    pub faultless : is_faulty j.badge ≡ false → (c : List ℕ) × Faultless b e w after c j
    -- the unit handed up is a part of the received word, but where it is corrected
    pub as_received : (j.badge ≡ Corrected → ⊥) → handed_unit j.badge w after.repair j.length ≡ take j.length w
    -- a word out of reach is badged so and never corrected
    pub lost : ((c : List ℕ) → Within e w c → ⊥) → (j.badge ≡ OutOfReach) × (j.changed ≡ 0) × (after ≡ before)

pub record Demand3 : Type 0 where
  -- what the changed places are: exactly those at which two words differ, ascending from 0 at the first octet; and how many
  pub places : PlacesExactly
  pub counted : PlacesCounted
  pub repairs : (b e : ℕ) (w : List ℕ) (before after : RepairLent) (j : Judgement) → Receives b e w before (Ok j) after → Repairs b e w before after j
  -- a unit of which at most e octets changed is handed up as sent with the true count, and the places of those that changed: clean if none
  -- changed (unchecked where there is neither check nor code), and corrected if any did
  pub as_sent : SentIsHandedUp
