-- The repair (document 01, "AL1M units"; 003, D.4.1.9), and the list of what it changed (document 02, ticket 2).
--
--   RepairLent                     what is lent for a repair: octets for the repaired word, and a list for the changed places
--   lending o l                    the octets o and the list l, lent: for the proofs, since each promise writes the record out
--   has_repair_room n e lent         they have room for a word of n octets and for e places
--   reads n e lent                 a word of n octets is one of the code, and they have room for it and for e places
--   filled lent c l                c is written at the front of the lent octets, and l at the front of the lent list; the rest stays
--   FoundIs e w before k after     found, with k octets changed: a code word of that length within e octets of w is written at the front, and
--                                  so are the places at which it differs from w; k is the number of octets in which it does
--   OutOfReachIs e w before after  out of reach: there is none, and nothing changes
--   Repaired e w before r after    what repairing the word w with `before` lent answers and leaves: one of the two
--
-- Assumes nothing.
use Rattle.std.specs.Prelude.{◌≡◌, Bool, true, ◌&&◌, Option, Some, None, List, ℕ, ◌*◌, leb, ltb, length}
use Rattle.octets.specs.Written.{written}
use Rattle.codeword.specs.Changed.{changed_places}
use Rattle.codeword.specs.CodeWord.{longest_word, Within, distance}

pub record RepairLent : Type 0 where
  pub repair : List ℕ
  pub places : List ℕ

abbrev pub lending : List ℕ → List ℕ → RepairLent
lending o l = record { repair = o; places = l }

abbrev pub has_repair_room : ℕ → ℕ → RepairLent → Bool
has_repair_room n e lent = leb n (length lent.repair) && leb e (length lent.places)

-- no more octets than the longest word has, more than the 2e of the parity, and the room
abbrev pub reads : ℕ → ℕ → RepairLent → Bool
reads n e lent = leb n longest_word && ltb (2 * e) n && has_repair_room n e lent

abbrev pub filled : RepairLent → List ℕ → List ℕ → RepairLent
filled lent c l = record { repair = written lent.repair 0 c; places = written lent.places 0 l }

pub record FoundIs (e : ℕ) (w : List ℕ) (before : RepairLent) (changed : ℕ) (after : RepairLent) : Type 0 where
  pub fits : reads (length w) e before ≡ true
  pub found : List ℕ
  pub within : Within e w found
  pub count : changed ≡ distance w found
  pub filled_is : after ≡ filled before found (changed_places w found)

pub record OutOfReachIs (e : ℕ) (w : List ℕ) (before after : RepairLent) : Type 0 where
  pub none : reads (length w) e before ≡ true → (c : List ℕ) → Within e w c → ⊥
  pub same : after ≡ before

abbrev pub Repaired : ℕ → List ℕ → RepairLent → Option ℕ → RepairLent → Type 0
Repaired e w before (Some changed) after = FoundIs e w before changed after
Repaired e w before None after = OutOfReachIs e w before after
