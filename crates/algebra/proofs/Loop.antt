-- From series to loops.
--
--   from_zero   nothing taken off
--   horner      one turn of Horner's rule, from the highest coefficient down
--
-- Assumes nothing.
use mathlib.Core.Path.{◌≡◌, refl, ◌∙◌}
use Prim.Native.Nat.{ℕ, zero, suc, ◌-◌, ◌<◌}
use native.Mathlib.Omega.{arith}
use Rattle.algebra.specs.Field.{Field}
use Rattle.algebra.specs.Series.{Series, operations}
use Rattle.algebra.specs.Value.{ev, from}
use Rattle.algebra.proofs.Product.{tl-at}
use Rattle.algebra.proofs.Value.{ev-suc}

module _ (𝓕 : Field) where
  infixl 60 ◌⊕◌
  infixl 70 ◌⊙◌
  open 𝓕 use {Carrier as F, add as ◌⊕◌, mul as ◌⊙◌}
  open operations 𝓕 use {tl}

  from_at : (i : ℕ) (f : Series 𝓕) → from 𝓕 i f 0 ≡ f i
  unfolding from
  from_at zero f = refl
  from_at (suc i) f = from_at i (tl f) ∙ tl-at 𝓕 f i

  tl-from : (i : ℕ) (f : Series 𝓕) → tl (from 𝓕 i f) ≡ from 𝓕 (suc i) f
  unfolding from
  tl-from zero f = refl
  tl-from (suc i) f = tl-from i (tl f)

  pub from_zero : (f : Series 𝓕) → from 𝓕 0 f ≡ f
  unfolding from
  from_zero f = refl

  -- acc = acc x + fᵢ, for i from d - 1 down to 0
  pub horner : (d i : ℕ) (f : Series 𝓕) (x : F) → i < d → ev 𝓕 (d - i) (from 𝓕 i f) x ≡ f i ⊕ x ⊙ ev 𝓕 (d - suc i) (from 𝓕 (suc i) f) x
  horner d i f x l = let e : d - i ≡ suc (d - suc i) = omega arith in rw (e, ev-suc, from_at, tl-from)
