-- What of document 01's small set concerns AL2 and the lengths, by computation; the check is the vector of the checks' own table. The octets
-- are in hex.
--
--   small   all of it:
--   AL2's whole by A1: number 10, unit 80, check F5; and with no number the unit 10 80
--   A9 lengths: unit 47, check 16, e = 2: 53; with e = 101: 251; with e = 104: refusal 2
--
-- Assumes nothing.
use Rattle.std.specs.Prelude.{◌≡◌, refl, List, [], ◌∷◌, ℕ, Some, None}
use Rattle.std.proofs.Common.{ap}
use Rattle.calls.specs.Refusal.{refused, told}
use Rattle.checks.specs.Check.{eight, sixteen}
use Rattle.checks.specs.Width.{width_of}
use Rattle.checks.specs.Small as checks
use Rattle.adaptation.specs.AL1M.{is_setting, is_sendable, sent_length}
use Rattle.adaptation.specs.AL2.{whole}

pub small :
    (whole (Some 0x10) (0x80 ∷ []) ≡ 0x10 ∷ 0x80 ∷ 0xF5 ∷ [])
    × (whole None (0x10 ∷ 0x80 ∷ []) ≡ 0x10 ∷ 0x80 ∷ 0xF5 ∷ [])
    × (sent_length 47 16 2 ≡ told 53)
    × (sent_length 47 16 101 ≡ told 251)
    × (sent_length 47 16 104 ≡ refused 2)
unfolding eight sixteen width_of is_setting is_sendable sent_length
small =
    let sealed = ap (λ (c : List ℕ). 0x10 ∷ 0x80 ∷ c) (checks.small).0 in
    (sealed, sealed, refl, refl, refl)
