-- Which widths there are, which check each has, and when a check agrees.
--
--   checks_exactly     as specs/Exactly.antt claims it
--
-- It takes nothing from the other proofs: a definition that fails a claim is refused here, before a lemma that it breaks besides.
--
-- Assumes nothing.
use mathlib.Core.Path.{◌≡◌, refl, sym, ◌∙◌, subst}
use mathlib.Core.Logic.{◌↔◌, ◌⊎◌, inl, inr}
use mathlib.Core.Bool.{Bool, true, false, cond}
use mathlib.Core.List.{List, ◌++◌}
use Prim.Native.Nat.{ℕ, ◌-◌}
use native.Mathlib.Omega.{arith}
use borrow.Author.Tests.{eqb-true}
use lib.Dec.{T, eqb}
use lib.ListN.{length, length-append}
use lib.Seq.{take_at, drop_at}
use Rattle.octets.specs.Tests.{never}
use Rattle.octets.specs.Same.{same, same_self, same-equal}
use Rattle.checks.specs.Check.{Kind, none, eight, sixteen, check_of, agrees}
use Rattle.checks.specs.Width.{width_of, kind_at}
use Rattle.checks.specs.declared.Width.TheVariants.{Zero, Eight, Sixteen}
use Rattle.std.specs.Prelude.{Some, None, is_some}
use Rattle.checks.specs.Exactly.{ChecksExactly}

known : (b : ℕ) → is_some (width_of b) ≡ true → (b ≡ 0) ⊎ ((b ≡ 8) ⊎ (b ≡ 16))
unfolding width_of
known b = zero (eqb b 0) refl
  where
    sixteenth : (t : Bool) → eqb b 16 ≡ t → is_some (cond t (Some Sixteen) None) ≡ true → (b ≡ 0) ⊎ ((b ≡ 8) ⊎ (b ≡ 16))
    sixteenth true e h = inr (inr (eqb-true b 16 e))
    sixteenth false e h = never (cc)

    eighth : (t : Bool) → eqb b 8 ≡ t → is_some (cond t (Some Eight) (cond (eqb b 16) (Some Sixteen) None)) ≡ true → (b ≡ 0) ⊎ ((b ≡ 8) ⊎ (b ≡ 16))
    eighth true e h = inr (inl (eqb-true b 8 e))
    eighth false e h = sixteenth (eqb b 16) refl h

    zero : (t : Bool) → eqb b 0 ≡ t → is_some (cond t (Some Zero) (cond (eqb b 8) (Some Eight) (cond (eqb b 16) (Some Sixteen) None))) ≡ true
        → (b ≡ 0) ⊎ ((b ≡ 8) ⊎ (b ≡ 16))
    zero true e h = inl (eqb-true b 0 e)
    zero false e h = eighth (eqb b 8) refl h

known_back : (b : ℕ) → (b ≡ 0) ⊎ ((b ≡ 8) ⊎ (b ≡ 16)) → is_some (width_of b) ≡ true
unfolding width_of
known_back b (inl e) = rw e
known_back b (inr (inl e)) = rw e
known_back b (inr (inr e)) = rw e

widths : (kind_at 0 ≡ none) × (kind_at 8 ≡ eight) × (kind_at 16 ≡ sixteen)
unfolding width_of
widths = (refl, refl, refl)

nothing : none.octets ≡ 0
unfolding none
nothing = refl

agreeing : (κ : Kind) (u c : List ℕ) → length c ≡ κ.octets → agrees κ (u ++ c) ≡ true ↔ (c ≡ check_of κ u)
unfolding agrees
agreeing κ u c h =
    let n : length (u ++ c) - κ.octets ≡ length u = omega (arith, length-append u c) in
    let a : agrees κ (u ++ c) ≡ same c (check_of κ u) = rw (n, take_at u c (length u) refl, drop_at u c (length u) refl) in
    (λ e. same-equal c (check_of κ u) (subst T (sym (sym a ∙ e)) tt), λ e. a ∙ (rw e (same_self (check_of κ u))))

pub checks_exactly : ChecksExactly
checks_exactly = record { known = λ b. (known b, known_back b); widths = widths; nothing = nothing; agreeing = agreeing }
