-- Linear recurrences, and what the algorithm of Berlekamp and Massey keeps. B is kept shifted, x^m B of the textbook.
--
--   Annihilates a r f S        f S has no term from x^a up to, and not at, x^r: for a = L, f is a recurrence of length L for the
--                              first r terms of S
--   Least r L S                no recurrence for the first r terms of S is shorter than L
--   MasseyState S C B r L b    after r terms of S: C is a recurrence of length L for them, and no shorter one is; B is the C from
--                              before L last grew, times x for each step since, and b what it fails by at r
--   ScaledState S c B r L b    the same of an algorithm that never divides: c is such a C times a constant that is not zero, and so is B
--
-- Assumes nothing.
use Rattle.std.specs.Prelude.{◌≡◌, ◌≢◌, ℕ, suc, ◌+◌, ◌≤◌, ◌<◌}
use Rattle.algebra.specs.Field.{Field}
use Rattle.algebra.specs.Series.{Series, Below, operations}

module _ (𝓕 : Field) where
  infixl 70 ◌⊛◌
  infixr 80 ◌⊡◌
  open 𝓕 use {Carrier as F, nil as 𝟘, one as 𝟙}
  open operations 𝓕 use {◌⊡◌, ◌⊛◌}

  abbrev pub Annihilates : ℕ → ℕ → Series 𝓕 → Series 𝓕 → Type 0
  Annihilates a r f S = (k : ℕ) → a ≤ k → k < r → (f ⊛ S) k ≡ 𝟘

  abbrev pub Least : ℕ → ℕ → Series 𝓕 → Type 0
  Least r L S = (v : ℕ) (Λ : Series 𝓕) → Λ 0 ≡ 𝟙 → Below 𝓕 (suc v) Λ → Annihilates v r Λ S → L ≤ v

  pub record MasseyState (S C B : Series 𝓕) (r L : ℕ) (b : F) : Type 0 where
    pub c_one : C 0 ≡ 𝟙
    pub c_below : Below 𝓕 (suc L) C
    pub c_ann : Annihilates L r C S
    pub short : L ≤ r
    pub least : Least r L S
    pub b_zero : B 0 ≡ 𝟘
    pub b_below : (k : ℕ) → suc r < k + L → B k ≡ 𝟘
    pub b_ann : (k : ℕ) → r < k + L → k < r → (B ⊛ S) k ≡ 𝟘
    pub b_ne : b ≢ 𝟘
    pub b_at : 0 < L → (B ⊛ S) r ≡ b

  pub record ScaledState (S c B : Series 𝓕) (r L : ℕ) (b : F) : Type 0 where
    pub factor : F
    pub factor_ne : factor ≢ 𝟘
    pub C : Series 𝓕
    pub c_is : c ≡ factor ⊡ C
    pub state : MasseyState S C B r L b
