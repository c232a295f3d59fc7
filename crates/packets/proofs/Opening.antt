-- A flag in front, as a fact and as a test.
--
--   form m            which flag `flag_of m` is
--   flag-stands       a list that begins with a flag
--   flag_cases        it does, or there is neither
--   begins-flag, flagless, neither-none   the test of the flag in front
--   begins_long       a flag has two octets
--   form_marks        the mark that a flag is
--
-- Assumes nothing.
use mathlib.Core.Path.{◌≡◌, refl, ap, ◌∙◌}
use mathlib.Core.Logic.{◌⊎◌, inl, inr}
use mathlib.Core.Bool.{Bool, true, false}
use mathlib.Core.List.{List}
use Prim.Native.Nat.{ℕ, ◌≤◌}
use native.Mathlib.Omega.{arith}
use lib.Dec.{T}
use lib.ListN.{length, take, length-take}
use Rattle.octets.specs.Same.{same, same-equal}
use Rattle.octets.specs.Tests.{never}
use Rattle.packets.specs.Flag.{flag_of, is_flag, flag_in, is_neither}
use Rattle.packets.specs.Packet.{is_mark}
use Rattle.packets.specs.Claims.{BeginsWithFlag}
use Rattle.packets.specs.declared.flags.Flag.{Flag}
use Rattle.packets.specs.declared.flags.Flag.TheVariants.{Plain, Complemented}
use Rattle.std.specs.Prelude.{Option, Some, None}
use Rattle.packets.proofs.Standing.{is_plain, is-complemented, is-neither}
use Rattle.packets.proofs.Laying.{flag-length}

abbrev pub form : Bool → Option Flag
form false = Some Plain
form true = Some Complemented

pub form_marks : (m : Bool) → (is_neither (form m) ≡ false) × (is_mark (form m) ≡ m)
form_marks false = (refl, refl)
form_marks true = (refl, refl)

module _ (u : List ℕ) where
  pub flag-stands : (m : Bool) → take 2 u ≡ flag_of m → flag_in u ≡ form m
  flag-stands false h = is_plain u (ap (λ (v : List ℕ). same v (flag_of false)) h)
  flag-stands true h = is-complemented u (ap (λ (v : List ℕ). same v (flag_of false)) h) (ap (λ (v : List ℕ). same v (flag_of true)) h)

  passed : (b : Bool) → b ≡ true → T b
  passed true e = tt
  passed false e = never (cc)

  pub flag_cases : BeginsWithFlag u ⊎ (flag_in u ≡ None)
  flag_cases = by (is_flag false u) refl (is_flag true u) refl
    where
      by : (s : Bool) → is_flag false u ≡ s → (t : Bool) → is_flag true u ≡ t → BeginsWithFlag u ⊎ (flag_in u ≡ None)
      by true e t f = inl (false, same-equal (take 2 u) (flag_of false) (passed (is_flag false u) e))
      by false e true f = inl (true, same-equal (take 2 u) (flag_of true) (passed (is_flag true u) f))
      by false e false f = inr (is-neither u e f)

  pub begins-flag : BeginsWithFlag u → is_neither (flag_in u) ≡ false
  begins-flag (m, h) = ap is_neither (flag-stands m h) ∙ (form_marks m).0

  pub flagless : (BeginsWithFlag u → ⊥) → is_neither (flag_in u) ≡ true
  flagless f = by flag_cases
    where
      by : BeginsWithFlag u ⊎ (flag_in u ≡ None) → is_neither (flag_in u) ≡ true
      by (inl b) = absurd (f b)
      by (inr e) = ap is_neither e

  pub neither-none : flag_in u ≡ None → BeginsWithFlag u → ⊥
  neither-none e b = never (cc (begins-flag b, ap is_neither e))

  pub begins_long : BeginsWithFlag u → 2 ≤ length u
  begins_long (m, h) = omega (arith, length-take 2 u, ap length h ∙ flag-length m)
