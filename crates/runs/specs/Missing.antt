-- What AL2 tells as missing over a run (document 02, ticket 5): as many as were lost, and a damaged unit is not among them. proofs/Missing.antt proves
-- each claim.
--
--   ShownIn got        where the wholes that AL2 took with a number are what arrives of units that were sent one after another from number 0 on, what
--                      is shown of them is what ought to be: before each unit that arrives as sent as many are missing as were lost
--   LostShown          so it is over a run, at each end and on each channel, whatever else comes in it (a run has no accepted reset or closing)
--   Noticed v w        w came in the place of v, and if its check agrees, it is v
--   has_short_gaps g ws  of the wholes ws, where the checks of g disagree before them: no more than 127 in a row disagree before one that agrees
--   shown_in_noise us ws what is shown of the units us, of which the wholes ws came: where the check agrees the unit as it was handed in, with badge
--                      0, else what came, with badge 3; and none is missing
--   ByAL2InNoise, NothingMissing   every unit coded is posted, every unit delivered is taken, nothing is on its way, octets changed on the way, the
--                      check notices it, and no more than 127 in a row are damaged before one that is not: each unit wholly sent is shown so, and
--                      none is missing; of both ends, and so at the end of a run
--   PacketsLostShown, PacketsNothingMissing   .. and at the end of a run over packets
--   MissingOverRuns    all of these
--
-- Assumes nothing.
use Rattle.std.specs.Prelude.{◌≡◌, Bool, true, cond, ◌&&◌, List, [], ◌∷◌, ℕ, ◌+◌, leb}
use Rattle.octets.specs.Each.{Each}
use Rattle.checks.specs.Check.{agrees, eight}
use Rattle.adaptation.specs.AL2.{unit_of}
use Rattle.adaptation.specs.AL2Claims.{as_sent, as_failed}
use Rattle.adaptation.specs.AL2Missing.{Passage, arriving, Shown, shown_of, showing, Passable}
use Rattle.multiplex.specs.Units.{units_on}
use Rattle.runs.specs.Runs.{Side, other, World, end_at}
use Rattle.runs.specs.Demand.{wholly_sent}
use Rattle.runs.specs.Carried.{Run, ending, Coding, Reception, codings, receptions, units_coded, wholes_coded, wholes_taken, receipts_told, wholly}
use Rattle.runs.specs.OverPackets.{PacketRun, packet_ending, packet_codings, packet_receptions}

abbrev pub ShownIn : List Reception → Type 0
ShownIn got = (l : List Passage) → wholes_taken got ≡ arriving 0 l → Passable 0 l → shown_of (receipts_told got) ≡ showing 0 l

abbrev pub LostShown : Type 1
LostShown = (R : ℕ → ℕ → Type 0) (r : Run R) (i : Side) (n : ℕ) → ShownIn (receptions r i n)

-- ---- where nothing is lost

abbrev pub Noticed : List ℕ → List ℕ → Type 0
Noticed v w = agrees eight w ≡ true → w ≡ v

abbrev pub has_short_gaps : ℕ → List (List ℕ) → Bool
has_short_gaps g [] = true
has_short_gaps g (w ∷ ws) = cond (agrees eight w) (leb g 127 && has_short_gaps 0 ws) (has_short_gaps (g + 1) ws)

abbrev pub shown_in_noise : List (List ℕ) → List (List ℕ) → List Shown
shown_in_noise us [] = []
shown_in_noise [] (w ∷ ws) = []
shown_in_noise (u ∷ us) (w ∷ ws) = record { handed = cond (agrees eight w) (as_sent u) (as_failed (unit_of true w)); missing = 0 } ∷ shown_in_noise us ws

-- what was coded at the end i for channel n, and what was taken at the other
abbrev pub ByAL2InNoise : World → (i : Side) (n : ℕ) → List Coding → List Reception → Type 0
ByAL2InNoise x i n coded got =
    (end_at x (other i)).coming ≡ [] → units_on n (end_at x i).posted ≡ wholes_coded coded → wholes_taken got ≡ units_on n (end_at x (other i)).delivered
    → Each Noticed (wholly_sent (end_at x i) n) (wholes_taken got) → has_short_gaps 0 (wholes_taken got) ≡ true
    → shown_of (receipts_told got) ≡ shown_in_noise (wholly (end_at x i) n (units_coded coded)) (wholes_taken got)

abbrev pub NothingMissing : Type 1
NothingMissing = (R : ℕ → ℕ → Type 0) (r : Run R) (i : Side) (n : ℕ) → ByAL2InNoise (ending r) i n (codings r i n) (receptions r (other i) n)

-- ---- over packets

abbrev pub PacketsLostShown : Type 1
PacketsLostShown = (R : ℕ → ℕ → Type 0) (r : PacketRun R) (i : Side) (n : ℕ) → ShownIn (packet_receptions r i n)

abbrev pub PacketsNothingMissing : Type 1
PacketsNothingMissing =
    (R : ℕ → ℕ → Type 0) (r : PacketRun R) (i : Side) (n : ℕ) → ByAL2InNoise (packet_ending r) i n (packet_codings r i n) (packet_receptions r (other i) n)

pub record MissingOverRuns : Type 1 where
  pub lost_shown : LostShown
  pub nothing_missing : NothingMissing
  pub packets_lost_shown : PacketsLostShown
  pub packets_nothing_missing : PacketsNothingMissing
