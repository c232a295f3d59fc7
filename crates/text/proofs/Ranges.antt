-- A number in a range.
--
--   between_true    it is, where it is neither below nor above
--   between_below   it is not, where it is below
--   between_above   .. or above
--   between_holds   where it is, it is neither
--   ranges          the first three, for tactics
--
-- Assumes nothing.
use mathlib.Core.Path.{◌≡◌}
use mathlib.Core.Bool.{true, false, and-false}
use Prim.Native.Nat.{ℕ, ◌≤◌, ◌<◌}
use borrow.Author.Tests.{le-leb, lt-leb, leb-true}
use lib.Dec.{leb}
use Rattle.octets.specs.Tests.{both_true}
use Rattle.text.specs.Numbers.{between}

module _ (a b c : ℕ) where
  pub between_true : a ≤ c → c ≤ b → between a b c ≡ true
  unfolding between
  between_true h k = rw (le-leb a c h, le-leb c b k)

  pub between_below : c < a → between a b c ≡ false
  unfolding between
  between_below h = rw (lt-leb a c h)

  pub between_above : b < c → between a b c ≡ false
  unfolding between
  between_above h = rw (lt-leb c b h, and-false)

  pub between_holds : between a b c ≡ true → (a ≤ c) × (c ≤ b)
  unfolding between
  between_holds e =
      let h = both_true (leb a c) (leb c b) e in
      (leb-true a c h.0, leb-true c b h.1)

pub ruleset ranges = (between_true, between_below, between_above)
