-- A test that fails says that what it tests for is not so.
--
--   failed-iff   what cannot be is so exactly where `false` is `true`
--
-- Assumes nothing.
use Rattle.std.proofs.Common.{◌≡◌, true, false, ◌↔◌}
use Rattle.octets.specs.Tests.{never}

pub failed-iff : {A : Type 0} → (A → ⊥) → false ≡ true ↔ A
failed-iff f = (λ h. never (cc), λ a. absurd (f a))
