-- A list of units as it is lent: a unit's four numbers tell how many of the octets are its own, so that numbers and octets tell the list.
--
--   numbers-length    four numbers to a unit
--   octets-length     the octets that the units take in a record are their headers' and their own
--   before-total      .. which is what numbers and octets say
--   total-reverse     the octets taken do not go by the order
--   numbers_behind    the numbers behind those of the first units, which are given the latest first
--   Front x m us      x are the numbers of the first of the units us, and m those of the others
--   four_lent         four numbers before others are the first unit's
--   none_lent         fewer than four are of no unit
--   made              the unit of these numbers and octets
--   made-same         .. is one
--   unit-same         two units with the same four numbers and the same octets are equal
--   listing-same      two lists with the same numbers and the same octets are equal
--   lent_same         .. as they are lent
--
-- Assumes nothing.
use mathlib.Core.Path.{◌≡◌, refl, sym, ap, ap₂, ◌∙◌}
use mathlib.Core.List.{List, [], ◌∷◌, ◌++◌, reverse_aux}
use Prim.Native.Nat.{ℕ, suc, ◌+◌, ◌*◌, ◌<◌}
use native.Mathlib.Nat.{zero-add}
use native.Mathlib.Omega.{arith}
use lib.ListN.{length, get_or, length-append}
use Rattle.octets.specs.High.{append-same}
use Rattle.octets.specs.Tests.{never}
use Rattle.record.specs.Recorded.{Recorded, flat, four_numbers, numbers_of, octets_of, Lent}
use Rattle.record.specs.Layout.{header_octets, total}
use Rattle.record.specs.Walk.{before_of}

pub numbers-length : (us : List Recorded) → length (numbers_of us) ≡ 4 * length us
unfolding flat
numbers-length [] = refl
numbers-length (u ∷ us) = omega (arith, numbers-length us)

pub octets-length : (us : List Recorded) → total us ≡ header_octets * length us + length (octets_of us)
unfolding flat total
octets-length [] = refl
octets-length (u ∷ us) = omega (arith, octets-length us, length-append u.octets (octets_of us))

pub before-total : (us : List Recorded) (n o : List ℕ) → Lent us n o → before_of n o ≡ total us
before-total us n o l = omega (arith, ap length l.numbers, ap length l.octets, numbers-length us, octets-length us)

pub total-reverse : (us past : List Recorded) → total (reverse_aux us past) ≡ total us + total past
unfolding total
total-reverse [] past = omega arith
total-reverse (u ∷ us) past = omega (arith, total-reverse us (u ∷ past))

pub numbers_behind : (past us : List Recorded) (i : ℕ) → get_or (numbers_of (reverse_aux past us)) (4 * length past + i) 0 ≡ get_or (numbers_of us) i 0
unfolding flat
numbers_behind [] us i = ap (λ (k : ℕ). get_or (numbers_of us) k 0) (zero-add i)
numbers_behind (u ∷ past) us i =
    let place : 4 * suc (length past) + i ≡ 4 * length past + suc (suc (suc (suc i))) = omega arith in
    ap (λ (k : ℕ). get_or (numbers_of (reverse_aux past (u ∷ us))) k 0) place ∙ numbers_behind past (u ∷ us) (suc (suc (suc (suc i))))

pub record Front (x m : List ℕ) (us : List Recorded) : Type 0 where
  pub first : Recorded
  pub others : List Recorded
  pub list : us ≡ first ∷ others
  pub numbers : x ≡ four_numbers first
  pub behind : m ≡ numbers_of others

pub four_lent : (x m : List ℕ) (us : List Recorded) → length x ≡ 4 → x ++ m ≡ numbers_of us → Front x m us
unfolding flat
four_lent x m [] e l = absurd (omega (arith, length-append x m, ap length l))
four_lent x m (u ∷ us) e l =
    let split = append-same x (four_numbers u) m (numbers_of us) e l in
    record { first = u; others = us; list = refl; numbers = split.0; behind = split.1 }

pub none_lent : (m : List ℕ) (us : List Recorded) → length m < 4 → m ≡ numbers_of us → us ≡ []
unfolding flat
none_lent m [] h e = refl
none_lent m (u ∷ us) h e = absurd (omega (arith, ap length e, length-append (four_numbers u) (numbers_of us)))

abbrev made : ℕ → ℕ → ℕ → List ℕ → Recorded
made c b k o = record { channel = c; badge = b; changed = k; octets = o }

made-same : {c b k d p q : ℕ} {o r : List ℕ} → c ≡ d → b ≡ p → k ≡ q → o ≡ r → made c b k o ≡ made d p q r
made-same h i j l = cc

unit-same : (u v : Recorded) → four_numbers u ≡ four_numbers v → u.octets ≡ v.octets → u ≡ v
unit-same u v e o = made-same (cc) (cc) (cc) o

listing-same : (us vs : List Recorded) → numbers_of us ≡ numbers_of vs → octets_of us ≡ octets_of vs → us ≡ vs
unfolding flat
listing-same [] [] e o = refl
listing-same [] (v ∷ vs) e o = never (cc)
listing-same (u ∷ us) [] e o = never (cc)
listing-same (u ∷ us) (v ∷ vs) e o =
    let split = append-same u.octets v.octets (octets_of us) (octets_of vs) (cc) o in
    ap₂ (λ (w : Recorded) (ws : List Recorded). w ∷ ws) (unit-same u v (cc) split.0) (listing-same us vs (cc) split.1)

pub lent_same : (us vs : List Recorded) (n o : List ℕ) → Lent us n o → Lent vs n o → us ≡ vs
lent_same us vs n o l m = listing-same us vs (sym l.numbers ∙ m.numbers) (sym l.octets ∙ m.octets)
