-- What AL2 tells as missing is what was lost, and a damaged unit is not among it (document 02, ticket 5); proofs/Missing.antt proves the claim.
--
--   Passage           what becomes of a unit on its way: it arrives as it was sent; octets arrive in its place whose check disagrees; or nothing
--                     arrives (of one that comes twice or late `LateDiscarded` and `DiscardLeaves` speak, specs/AL2Claims.antt)
--   arriving i l      what arrives of units with the passages l, which were sent one after another from number i on
--   Shown             what is shown of a unit that is handed up: the unit with its badge, and how many are missing before it
--   shown_of l         .. of what became of each, one after another; a unit that is discarded or refused is not shown
--   showing k l       what ought to be shown, where k were lost since the last one that arrived as sent: a unit that arrives as sent, and before
--                     it as many missing as were lost since the one before it that did; a damaged one with badge 3
--   Passable g l      the passages may be, where g units were lost or damaged since the last that arrived as sent: units may be sent, octets in a
--                     unit's place are such as AL2 takes, and no more than 127 units in a row are lost or damaged before one that arrives as sent
--   MissingIsLost     what is shown of units that are sent from the expected number on, where no unit failed before, is that
--
-- Assumes nothing.
use Rattle.std.specs.Prelude.{◌≡◌, true, false, List, [], ◌∷◌, ℕ, ◌+◌, ◌-◌, ◌%◌, ◌≤◌, ◌<◌, Some}
use Rattle.calls.specs.Refusal.{Told, refused, told}
use Rattle.checks.specs.Check.{agrees, eight}
use Rattle.adaptation.specs.Handed.{longest_unit, is_unit, Handed}
use Rattle.adaptation.specs.AL2.{whole, is_whole, unit_of, Receipt, handed_up, discarded}
use Rattle.adaptation.specs.AL2Claims.{as_sent, as_failed, receipts}

pub data Passage : Type 0 where
  intact : (u : List ℕ) → Passage
  damaged : (w : List ℕ) → Passage
  lost : Passage

abbrev pub arriving : ℕ → List Passage → List (List ℕ)
arriving i [] = []
arriving i (intact u ∷ l) = whole (Some i) u ∷ arriving ((i + 1) % 256) l
arriving i (damaged w ∷ l) = w ∷ arriving ((i + 1) % 256) l
arriving i (lost ∷ l) = arriving ((i + 1) % 256) l

pub record Shown : Type 0 where
  pub handed : Handed
  pub missing : ℕ

abbrev pub shown_of : List (Told Receipt) → List Shown
shown_of [] = []
shown_of (told (handed_up h k e) ∷ l) = record { handed = h; missing = k } ∷ shown_of l
shown_of (told (discarded k e) ∷ l) = shown_of l
shown_of (refused k ∷ l) = shown_of l

abbrev pub showing : ℕ → List Passage → List Shown
showing k [] = []
showing k (intact u ∷ l) = record { handed = as_sent u; missing = k } ∷ showing 0 l
showing k (damaged w ∷ l) = record { handed = as_failed (unit_of true w); missing = 0 } ∷ showing k l
showing k (lost ∷ l) = showing (k + 1) l

abbrev pub Passable : ℕ → List Passage → Type 0
Passable g [] = Unit {0}
Passable g (intact u ∷ l) = (g ≤ 127) × (is_unit (longest_unit - 2) u ≡ true) × Passable 0 l
Passable g (damaged w ∷ l) = (is_whole true w ≡ true) × (agrees eight w ≡ false) × Passable (g + 1) l
Passable g (lost ∷ l) = Passable (g + 1) l

abbrev pub MissingIsLost : Type 0
MissingIsLost =
    (i : ℕ) (l : List Passage) → i < 256 → Passable 0 l → shown_of (receipts (arriving i l) (record { expected = i; failed = 0 })) ≡ showing 0 l
