-- A fact of every number below n, by one test that antt computes.
--
--   both_left, both_right   of two tests that passed, each did
--   every f n     the test f passes at each number below n
--   every_at      .. so it passes at k, for k below n
--   every_pair    .. and so does a test of two numbers, at i below m and j below n
--
-- Assumes nothing.
use Rattle.std.specs.Prelude.{Bool, true, false, ◌&&◌, ℕ, zero, suc, ◌<◌, T}
use Rattle.std.proofs.Common.{⊎_elim, subst, sym, le_of_suc-le-suc, not-suc-le-zero, eq-or-lt_of_le}

pub both_left : (a b : Bool) → T (a && b) → T a
both_left true b t = tt
both_left false b t = t

pub both_right : (a b : Bool) → T (a && b) → T b
both_right true b t = t
both_right false b t = absurd t

abbrev pub every : (ℕ → Bool) → ℕ → Bool
every f zero = true
every f (suc n) = f n && every f n

pub every_at : (f : ℕ → Bool) (n : ℕ) → T (every f n) → (k : ℕ) → k < n → T (f k)
every_at f zero t k h = absurd (not-suc-le-zero h)
every_at f (suc n) t k h =
    ⊎_elim (λ e. subst (λ (m : ℕ). T (f m)) (sym e) (both_left (f n) (every f n) t))
    (λ l. every_at f n (both_right (f n) (every f n) t) k l)
    (eq-or-lt_of_le (le_of_suc-le-suc h))

pub every_pair : (f : ℕ → ℕ → Bool) (m n : ℕ) → T (every (λ i. every (f i) n) m) → (i j : ℕ) → i < m → j < n → T (f i j)
every_pair f m n t i j h l = every_at (f i) n (every_at (λ i. every (f i) n) m t i h) j l
