-- The bits of octets (specs/Remainders.antt), by computing with their definition.
--
--   bits_are   which they are, and in which order
--
-- It takes nothing from the other proofs: bits in another order are refused here, before a lemma that they break besides.
--
-- Assumes nothing.
use mathlib.Core.Path.{◌≡◌, refl, sym, ap, ◌∙◌}
use mathlib.Core.Bool.{false}
use Prim.Native.Nat.{ℕ, zero, suc, ◌/◌, ◌%◌, ◌^◌, ◌<◌}
use native.Mathlib.Nat.{div-one, div-div-eq-div-mul, pow-succ', le_of_suc-le-suc}
use native.Mathlib.Omega.{arith}
use lib.Dec.{eqb}
use lib.ListN.{get_or, get_or-append}
use Rattle.checks.specs.Bits.{is_odd, bits_of, bits}
use Rattle.checks.specs.Remainders.{BitsAre}

bit_at : (n a i : ℕ) → i < n → get_or (bits_of n a) i false ≡ eqb (a / 2 ^ i % 2) 1
unfolding is_odd bits_of
bit_at zero a i l = absurd (omega arith)
bit_at (suc n) a zero l = ap (λ (x : ℕ). eqb (x % 2) 1) (sym (div-one a))
bit_at (suc n) a (suc i) l =
    bit_at n (a / 2) i (le_of_suc-le-suc l)
    ∙ ap (λ (x : ℕ). eqb (x % 2) 1) (div-div-eq-div-mul a 2 (2 ^ i) ∙ ap (λ (x : ℕ). a / x) (sym (pow-succ' 2 i)))

pub bits_are : BitsAre
unfolding bits_of bits
bits_are a u = (refl, refl, λ i l. get_or-append (bits_of 8 a) (bits u) false i l ∙ bit_at 8 a i l)
