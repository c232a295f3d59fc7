-- Which widths there are, which check each has, and when a check agrees, where a definition changed together with its code would get past every
-- other claim.
--
--   ChecksExactly     all of it; proofs/Exact.antt proves it
--
-- Assumes nothing.
use Rattle.std.specs.Prelude.{◌≡◌, ◌↔◌, ◌⊎◌, true, List, ◌++◌, ℕ, length}
use Rattle.checks.specs.Check.{Kind, none, eight, sixteen, check_of, agrees}
use Rattle.checks.specs.Width.{is_width, kind_at}

pub record ChecksExactly : Type 0 where
  -- refusal 1: a check's width is 0, 8 or 16
  pub known : (b : ℕ) → is_width b ≡ true ↔ ((b ≡ 0) ⊎ ((b ≡ 8) ⊎ (b ≡ 16)))
  -- "Checks": the check of each width
  pub widths : (kind_at 0 ≡ none) × (kind_at 8 ≡ eight) × (kind_at 16 ≡ sixteen)
  -- .. and no check has no octets
  pub nothing : none.octets ≡ 0
  -- a check agrees where all its octets are the check of what stands before them
  pub agreeing : (κ : Kind) (u c : List ℕ) → length c ≡ κ.octets → agrees κ (u ++ c) ≡ true ↔ (c ≡ check_of κ u)
