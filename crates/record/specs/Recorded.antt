-- The units of a call record (document 02, ticket 1), and the list of them as it is lent.
--
--   Recorded          a unit as a record has it: its channel, badge and changed count, and its octets
--   longest_recorded   the octets of the longest
--   most_changed       the largest changed count
--   Changed b n       n is a changed count that goes with badge b
--   Octets l          each of l is an octet
--   Ranges b k n      badge b, changed count k and length n are in their ranges
--   InRange u         .. those of the unit, and its channel and octets
--   AllInRange us     .. of every unit
--   is_damaged u       the unit's badge is 2 or 3
--   flat f l          what f makes of the first of l, then of the second, ..
--   four_numbers u     a unit in numbers: channel, badge, changed count, length
--   numbers_of us      four numbers to a unit: channel, badge, changed count, length
--   octets_of us       the units' octets, one unit behind another
--   Lent us n o       n and o are the numbers and the octets of the units us
--
-- Assumes nothing.
use Rattle.std.specs.Prelude.{◌≡◌, Bool, ◌||◌, List, [], ◌∷◌, ◌++◌, ℕ, ◌≤◌, ◌<◌, eqb, length, get_or}

pub record Recorded : Type 0 where
  pub channel : ℕ
  pub badge : ℕ
  pub changed : ℕ
  pub octets : List ℕ

abbrev pub longest_recorded : ℕ
longest_recorded = 1024

abbrev pub most_changed : ℕ
most_changed = 127

-- 1 to 127 for badge 1, 0 to 127 for badge 3, else 0
pub record Changed (b n : ℕ) : Type 0 where
  pub corrected : b ≡ 1 → (1 ≤ n) × (n ≤ most_changed)
  pub failed : b ≡ 3 → n ≤ most_changed
  pub other : (b ≡ 1 → ⊥) → (b ≡ 3 → ⊥) → n ≡ 0

abbrev pub Octets : List ℕ → Type 0
Octets l = (i : ℕ) → get_or l i 0 < 256

-- the badge is 0 to 4, the length 1 to 1,024
pub record Ranges (b k n : ℕ) : Type 0 where
  pub badge_is : b ≤ 4
  pub changed_is : Changed b k
  pub some : 1 ≤ n
  pub few : n ≤ longest_recorded

-- .. and the channel has two octets
pub record InRange (u : Recorded) : Type 0 where
  pub channel_is : u.channel < 65536
  pub ranges : Ranges u.badge u.changed (length u.octets)
  pub octets_are : Octets u.octets

abbrev pub AllInRange : List Recorded → Type 0
AllInRange [] = Unit {0}
AllInRange (u ∷ us) = InRange u × AllInRange us

abbrev pub is_damaged : Recorded → Bool
is_damaged u = eqb u.badge 2 || eqb u.badge 3

-- ---- a list of units as it is lent

unfoldable pub flat : {A : Type 0} → (A → List ℕ) → List A → List ℕ
flat f [] = []
flat f (x ∷ l) = f x ++ flat f l

abbrev pub four_numbers : Recorded → List ℕ
four_numbers u = u.channel ∷ u.badge ∷ u.changed ∷ length u.octets ∷ []

abbrev pub numbers_of : List Recorded → List ℕ
numbers_of = flat four_numbers

abbrev pub octets_of : List Recorded → List ℕ
octets_of = flat (λ (u : Recorded). u.octets)

pub record Lent (us : List Recorded) (n o : List ℕ) : Type 0 where
  pub numbers : n ≡ numbers_of us
  pub octets : o ≡ octets_of us
