-- No place is free exactly where as many channels are open as there are places.
--
--   full_exactly     the claim of specs/Full.antt
--
-- Assumes nothing.
use mathlib.Core.Path.{◌≡◌, refl, sym, ◌∙◌}
use mathlib.Core.Logic.{◌↔◌}
use mathlib.Core.Bool.{Bool, true, false, cond, not}
use mathlib.Core.List.{List, [], ◌∷◌}
use Prim.Native.Nat.{suc, ◌+◌, ◌≤◌}
use native.Mathlib.Omega.{arith}
use borrow.Author.Tests.{leb-true, le-leb}
use lib.ListN.{length}
use Rattle.octets.specs.Tests.{never}
use Rattle.calls.specs.Refusal.{refused, leaving, refusing, Test, ◌when◌, checked}
use Rattle.channels.specs.declared.Channel.{Channel}
use Rattle.channels.specs.declared.Channels.{Channels}
use Rattle.channels.specs.Search.{first}
use Rattle.channels.specs.Channels.{fresh, is_free, is_in, free_place, put, open_tests, opened}
use Rattle.channels.specs.Full.{open_count, FullExactly}

most : (l : List Channel) → open_count l ≤ length l
most [] = omega arith
most (c ∷ l) = by c.«open» (most l)
  where
    by : (b : Bool) → open_count l ≤ length l → cond b 1 0 + open_count l ≤ suc (length l)
    by true h = omega arith
    by false h = omega arith

full : (l : List Channel) → length l ≤ first is_free l → open_count l ≡ length l
unfolding first
full [] h = refl
full (c ∷ l) h = by c.«open» h (full l)
  where
    by : (b : Bool) → suc (length l) ≤ cond (not b) 0 (suc (first is_free l)) → (length l ≤ first is_free l → open_count l ≡ length l)
        → cond b 1 0 + open_count l ≡ suc (length l)
    by true h more = omega (arith, more (omega arith))
    by false h more = absurd (omega arith)

none_free : (l : List Channel) → open_count l ≡ length l → length l ≤ first is_free l
unfolding first
none_free [] e = omega arith
none_free (c ∷ l) e = by c.«open» e (none_free l) (most l)
  where
    by : (b : Bool) → cond b 1 0 + open_count l ≡ suc (length l) → (open_count l ≡ length l → length l ≤ first is_free l) → open_count l ≤ length l
        → suc (length l) ≤ cond (not b) 0 (suc (first is_free l))
    by true e more m = omega (arith, more (omega arith))
    by false e more m = absurd (omega arith)

-- the second of two tests decides
second : (s y : Channels) (b t : Bool) → (checked (refusing s) (13 when b ∷ 12 when t ∷ []) (leaving {A = Unit {0}} tt y)).answer ≡ refused 12
    ↔ ((b ≡ false) × (t ≡ true))
second s y true t = (λ h. never (cc), λ p. let q = p.0 in never (cc))
second s y false true = (λ h. (refl, refl), λ p. refl)
second s y false false = (λ h. never (cc), λ p. let q = p.1 in never (cc))

abbrev second_test : List Test → Bool
second_test [] = false
second_test (t ∷ []) = false
second_test (t ∷ (k when b) ∷ l) = b

pub full_exactly : FullExactly
unfolding opened free_place
full_exactly s n g e =
    let d = second s (put s (free_place s) (fresh n g)) (is_in s n) (second_test (open_tests s n)) in (
      (λ h. let p = d.0 h in let t = p.1 in (p.0, full s.at (omega (arith, leb-true)) ∙ e)),
      (λ p. d.1 (p.0, le-leb 16 (free_place s) (omega (arith, none_free s.at (p.1 ∙ sym e))))),
    )
