-- Numbers and a count of octets that go with each other: each unit has what it says, and nothing is left. Whatever the octets are, units can be made
-- of them so, by taking each unit's octets off the front.
--
--   Good n left      the numbers n are of units in range that have `left` octets
--   four_next        four numbers of a list, and what is behind them
--   none_left        a list of no octets
--   good-listed      numbers that are good for the octets are of a list of units
--   listed_good      .. and the other way
--   good_iff         both
--   adds_good        good numbers in the ticket's words
--   whole_exactly    .. so that the claim of specs/Form.antt holds
--
-- Assumes nothing.
use mathlib.Core.Path.{◌≡◌, refl, sym, ap, ap₂, subst, ◌∙◌}
use mathlib.Core.Logic.{◌↔◌}
use mathlib.Core.List.{List, [], ◌∷◌, ◌++◌}
use Prim.Native.Nat.{ℕ, suc, ◌+◌, ◌-◌, ◌≤◌, ◌<◌}
use native.Mathlib.Omega.{arith}
use native.Mathlib.Numerals.{add-one}
use lib.ListN.{length, get_or, take, drop, length-append, length-drop, take-append-drop}
use lib.Seq.{drop-cons, get_or-drop, length-take-le}
use Rattle.record.specs.Recorded.{Recorded, Octets, Ranges, AllInRange, flat, numbers_of, octets_of}
use Rattle.record.specs.Form.{AddsUp, WholeExactly}
use Rattle.record.specs.Walk.{Listed}
use Rattle.record.proofs.Acceptable.{ranges_so}
use Rattle.record.proofs.OctetParts.{part_octets}

abbrev pub Good : List ℕ → ℕ → Type 0
Good [] left = left ≡ 0
Good (c ∷ []) left = ⊥
Good (c ∷ b ∷ []) left = ⊥
Good (c ∷ b ∷ k ∷ []) left = ⊥
Good (c ∷ b ∷ k ∷ m ∷ n) left = Ranges b k m × (m ≤ left) × Good n (left - m)

pub four_next : (n : List ℕ) (at : ℕ) → at + 4 ≤ length n
    → drop at n ≡ get_or n at 0 ∷ get_or n (at + 1) 0 ∷ get_or n (at + 2) 0 ∷ get_or n (at + 3) 0 ∷ drop (at + 4) n
four_next n at h =
    one at (at + 1) refl (omega arith)
    ∙ ap (λ (l : List ℕ). get_or n at 0 ∷ l)
    (one (at + 1) (at + 2) (omega arith) (omega arith)
    ∙ ap (λ (l : List ℕ). get_or n (at + 1) 0 ∷ l)
    (one (at + 2) (at + 3) (omega arith) (omega arith)
    ∙ ap (λ (l : List ℕ). get_or n (at + 2) 0 ∷ l) (one (at + 3) (at + 4) (omega arith) (omega arith))))
  where
    one : (i j : ℕ) → i + 1 ≡ j → i < length n → drop i n ≡ get_or n i 0 ∷ drop j n
    one i j e l = drop-cons n i 0 l ∙ ap (λ (k : ℕ). get_or n i 0 ∷ drop k n) (sym (add-one i) ∙ e)

none_left : (o : List ℕ) → length o ≡ 0 → o ≡ []
none_left [] e = refl
none_left (x ∷ o) e = absurd (omega arith)

pub good-listed : (n o : List ℕ) → ((i : ℕ) → get_or n i 0 < 65536) → Octets o → Good n (length o) → Listed n o
unfolding flat
good-listed [] o f h g = record { list = []; lent = record { numbers = refl; octets = none_left o g }; ranges = tt }
good-listed (c ∷ []) o f h g = absurd g
good-listed (c ∷ b ∷ []) o f h g = absurd g
good-listed (c ∷ b ∷ k ∷ []) o f h g = absurd g
good-listed (c ∷ b ∷ k ∷ m ∷ n) o f h g =
    let rest = good-listed n (drop m o) (λ i. f (suc (suc (suc (suc i))))) (λ i. subst (λ (x : ℕ). x < 256) (sym (get_or-drop m o i 0)) (h (m + i)))
    (subst (Good n) (sym (length-drop m o)) g.2) in
    let long : length (take m o) ≡ m = length-take-le m o g.1 in
    record {
      list = record { channel = c; badge = b; changed = k; octets = take m o } ∷ rest.list;
      lent = record {
        numbers = ap₂ (λ (x : ℕ) (l : List ℕ). c ∷ b ∷ k ∷ x ∷ l) (sym long) rest.lent.numbers;
        octets = sym (take-append-drop m o) ∙ ap (λ (l : List ℕ). take m o ++ l) rest.lent.octets;
      };
      ranges = (record { channel_is = f 0; ranges = rw long g.0; octets_are = part_octets o 0 m h }, rest.ranges);
    }

pub listed_good : (us : List Recorded) → AllInRange us → Good (numbers_of us) (length (octets_of us))
unfolding flat
listed_good [] r = refl
listed_good (u ∷ us) r =
    let long = length-append u.octets (octets_of us) in
    let left : length (octets_of us) ≡ length (u.octets ++ octets_of us) - length u.octets = omega (arith, long) in
    (r.0.ranges, omega (arith, long), subst (Good (numbers_of us)) left (listed_good us r.1))

pub good_iff : (n o : List ℕ) → ((i : ℕ) → get_or n i 0 < 65536) → Octets o → Listed n o ↔ Good n (length o)
good_iff n o f h = (λ l. rw (l.lent.numbers, l.lent.octets) (listed_good l.list l.ranges), good-listed n o f h)

-- ---- in the ticket's words

adds_good : (n : List ℕ) (m : ℕ) → AddsUp n m ↔ Good n m
adds_good [] m = (λ e. e, λ e. e)
adds_good (c ∷ []) m = (λ e. e, λ e. e)
adds_good (c ∷ b ∷ []) m = (λ e. e, λ e. e)
adds_good (c ∷ b ∷ k ∷ []) m = (λ e. e, λ e. e)
adds_good (c ∷ b ∷ k ∷ l ∷ n) m =
    let rest = adds_good n (m - l) in
    (λ h. ((ranges_so b k l).1 h.0, h.1, rest.0 h.2), λ h. ((ranges_so b k l).0 h.0, h.1, rest.1 h.2))

pub whole_exactly : WholeExactly
whole_exactly n o small octets =
    let same = good_iff n o small octets in
    let adds = adds_good n (length o) in (
      λ h. adds.1 (same.0 (record { list = h.0; lent = h.1; ranges = h.2 })),
      λ a. let l = same.1 (adds.0 a) in (l.list, l.lent, l.ranges),
    )
