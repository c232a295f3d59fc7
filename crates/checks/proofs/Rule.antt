-- The remainders of octets, worked out by shifting and adding.
--
--   worked κ x   `remainder_of κ x`; who unfolds this computes it
--   leaves κ f   the test of all 256 octets: is f x the remainder of the octet x, by the check κ?
--   leaves_at    .. if so, it is
--   left8 x      the remainder by the generator of the check of 8 bits, as src/rules.rt works it out; `left8_is`: it is
--   left16 x     .. of 16 bits; `left16_is`
--
-- Assumes nothing.
use mathlib.Core.Path.{◌≡◌, refl, ◌∙◌}
use mathlib.Core.Bool.{Bool}
use mathlib.Core.List.{List, [], ◌∷◌}
use Prim.Native.Nat.{ℕ, ◌*◌, ◌/◌, ◌%◌, ◌<◌}
use lib.Dec.{T}
use lib.Bits.{bit_xor}
use Rattle.algebra.specs.Division.{sum, lowered, divided, remainder}
use Rattle.octets.specs.Every.{every, every_at}
use Rattle.octets.specs.Same.{same, same-equal}
use Rattle.checks.specs.Bits.{is_odd, bits_of, number, octets_of}
use Rattle.checks.specs.Check.{Kind, generator, plain, eight, sixteen}
use Rattle.checks.specs.Steps.{remainder_of}

unfoldable pub worked : Kind → ℕ → List ℕ
unfolding is_odd bits_of number octets_of sum lowered divided remainder generator plain remainder_of eight sixteen
worked κ x = remainder_of κ x

worked-is : (κ : Kind) (x : ℕ) → worked κ x ≡ remainder_of κ x
unfolding worked
worked-is κ x = refl

abbrev pub leaves : Kind → (ℕ → List ℕ) → Bool
leaves κ f = every (λ x. same (f x) (worked κ x)) 256

pub leaves_at : (κ : Kind) (f : ℕ → List ℕ) → T (leaves κ f) → (x : ℕ) → x < 256 → f x ≡ remainder_of κ x
leaves_at κ f rule x h = same-equal (f x) (worked κ x) (every_at (λ x. same (f x) (worked κ x)) 256 rule x h) ∙ worked-is κ x

abbrev pub left8 : ℕ → List ℕ
left8 x =
    let q : ℕ = bit_xor (bit_xor x (x * 64 % 256)) (x * 128 % 256) in
    bit_xor (bit_xor q (q / 2)) (q / 4) ∷ []

pub left8_is : (x : ℕ) → x < 256 → left8 x ≡ remainder_of eight x
unfolding worked
left8_is = leaves_at eight left8 tt

abbrev pub left16 : ℕ → List ℕ
left16 x =
    let q : ℕ = bit_xor x (x * 16 % 256) in
    bit_xor (q / 16) (q * 8 % 256) ∷ bit_xor q (q / 32) ∷ []

pub left16_is : (x : ℕ) → x < 256 → left16 x ≡ remainder_of sixteen x
unfolding worked
left16_is = leaves_at sixteen left16 tt
