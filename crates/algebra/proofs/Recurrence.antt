-- Massey's lemma.
--
--   massey    a recurrence of length L that fails first at r, and one of length v that does not fail up to r: r < v + L
--
-- Assumes nothing.
use mathlib.Core.Path.{◌≡◌, sym, ◌∙◌, ap}
use mathlib.Core.Logic.{◌≢◌}
use Prim.Native.Nat.{ℕ, suc, ◌+◌, ◌≤◌, ◌<◌}
use native.Mathlib.Omega.{arith}
use native.Mathlib.Decide.{dec_le}
use Rattle.algebra.specs.Field.{Field}
use Rattle.algebra.specs.Series.{Series, Below, operations}
use Rattle.algebra.specs.Massey.{Annihilates}
use Rattle.algebra.proofs.Ring.{𝟙-⊙}
use Rattle.algebra.proofs.Product.{⊛_left, window}

module _ (𝓕 : Field) where
  infixl 70 ◌⊛◌
  open 𝓕 use {nil as 𝟘, one as 𝟙}
  open operations 𝓕 use {◌⊛◌}

  -- the first coefficient that does not vanish is the same seen through a product with constant coefficient 1
  leading : (v r : ℕ) (Λ C S : Series 𝓕) → Λ 0 ≡ 𝟙 → Below 𝓕 (suc v) Λ
      → ((k : ℕ) → r ≤ k + v → k < r → (C ⊛ S) k ≡ 𝟘) → (Λ ⊛ (C ⊛ S)) r ≡ (C ⊛ S) r
  leading v r Λ C S u d w = window 𝓕 v r Λ (C ⊛ S) d w ∙ (rw u (𝟙-⊙ 𝓕 _))

  pub massey : (L v r : ℕ) (C Λ S : Series 𝓕)
      → C 0 ≡ 𝟙 → Below 𝓕 (suc L) C → Annihilates 𝓕 L r C S → (C ⊛ S) r ≢ 𝟘
      → Λ 0 ≡ 𝟙 → Below 𝓕 (suc v) Λ → Annihilates 𝓕 v (suc r) Λ S
      → r < v + L
  massey L v r C Λ S c0 cd ca ne l0 ld la = go (dec_le (suc r) (v + L))
    where
      go : Dec (suc r ≤ v + L) → r < v + L
      go (yes h) = h
      go (no h) = absurd (ne (sym (leading v r Λ C S l0 ld (λ k m n. ca k (omega arith) n))
          ∙ ap (λ s. s r) (⊛_left 𝓕 Λ C S)
          ∙ leading L r C Λ S c0 cd (λ k m n. la k (omega arith) (omega arith))
          ∙ la r (omega arith) (omega arith)))
