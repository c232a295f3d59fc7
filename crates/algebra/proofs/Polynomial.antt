-- The polynomial of a list of coefficients, the highest first.
--
--   polynomial-none, polynomial-cons     the clauses of the definition
--   below-polynomial                     its degree is below the list's length
--   polynomial-at                        its coefficient at k is the list's element k from the end
--   polynomial-append                    of u ++ p: x^n times that of u, plus that of p, which has n elements
--   polynomial-same                      two lists of one length with the same polynomial are equal
--   raised-zero, raised-suc              the clauses of raising
--   raised-⊞, raised-sh, raised-none,    it goes through sums and shifts, and raises 0 to 0 and a x^k to a x^(k+n)
--   raised-monomial
--   raised-⊛                             .. and x^n (f g) is (x^n f) g
--   raised-low, raised_high              the coefficients of x^n f, below n and from n on
--   raised_local                         those below m are read off f's below m
--   below_raised                         the degree
--
-- Assumes nothing.
use mathlib.Core.Path.{◌≡◌, refl, sym, ◌∙◌, ap, fun_ext}
use mathlib.Core.List.{List, [], ◌∷◌, ◌++◌}
use Prim.Native.Nat.{ℕ, zero, suc, ◌+◌, ◌-◌, ◌≤◌, ◌<◌}
use native.Mathlib.Nat.{add-zero, add-suc}
use native.Mathlib.Omega.{arith}
use native.Mathlib.Decide.{dec_le}
use lib.ListN.{length, get_or, length-append}
use lib.Seq.{ext_get_or}
use Rattle.algebra.specs.Field.{Field}
use Rattle.algebra.specs.Series.{Series, Below, operations}
use Rattle.algebra.specs.Polynomial.{monomial, polynomial, raised}
use Rattle.algebra.proofs.Ring.{ring, ⊕-𝟘, 𝟘-⊕}
use Rattle.algebra.proofs.Product.{⊞-at, none-at, sh-zero, sh-suc, sh-⊞, sh-⊛, sh-none, below-⊞, below_more, below-sh}
use Rattle.algebra.proofs.Remainder.{monomial-top, monomial_above, monomial_below, monomial-suc}

module _ (𝓕 : Field) where
  infixl 60 ◌⊕◌ ◌⊞◌
  infixl 70 ◌⊛◌
  open 𝓕 use {Carrier as F, add as ◌⊕◌, nil as 𝟘}
  open operations 𝓕 use {◌⊞◌, ◌⊛◌, none, sh}

  pub polynomial-none : polynomial 𝓕 [] ≡ none
  unfolding polynomial
  polynomial-none = refl

  pub polynomial-cons : (a : F) (w : List F) → polynomial 𝓕 (a ∷ w) ≡ monomial 𝓕 (length w) a ⊞ polynomial 𝓕 w
  unfolding polynomial
  polynomial-cons a w = refl

  pub below-polynomial : (w : List F) → Below 𝓕 (length w) (polynomial 𝓕 w)
  below-polynomial [] k l = rw polynomial-none (none-at 𝓕 k)
  below-polynomial (a ∷ w) k l =
      rw polynomial-cons
      (below-⊞ 𝓕 (suc (length w)) _ _ (monomial_above 𝓕 (length w) a) (below_more 𝓕 _ _ _ (omega arith) (below-polynomial w)) k l)

  pub polynomial-at : (w : List F) (k : ℕ) → k < length w → polynomial 𝓕 w k ≡ get_or w (length w - suc k) 𝟘
  polynomial-at [] k l = absurd (omega arith)
  polynomial-at (a ∷ w) k l = ap (λ (f : Series 𝓕). f k) (polynomial-cons a w) ∙ ⊞-at 𝓕 _ _ k ∙ go (dec_le (length w) k) (polynomial-at w k)
    where
      go : Dec (length w ≤ k) → (k < length w → polynomial 𝓕 w k ≡ get_or w (length w - suc k) 𝟘)
          → monomial 𝓕 (length w) a k ⊕ polynomial 𝓕 w k ≡ get_or (a ∷ w) (suc (length w) - suc k) 𝟘
      go (yes p) ih =
          let e : k ≡ length w = omega arith in
          let z : suc (length w) - suc k ≡ 0 = omega arith in
          rw (z, below-polynomial w k p, e, monomial-top) (⊕-𝟘 𝓕 a)
      go (no p) ih =
          let z : suc (length w) - suc k ≡ suc (length w - suc k) = omega arith in
          rw (z, monomial_below 𝓕 (length w) a k (omega arith), ih (omega arith)) (𝟘-⊕ 𝓕 _)

  -- ---- raising

  pub raised-suc : (n : ℕ) (f : Series 𝓕) → raised 𝓕 (suc n) f ≡ sh (raised 𝓕 n f)
  unfolding raised
  raised-suc n f = refl

  pub raised-zero : (f : Series 𝓕) → raised 𝓕 0 f ≡ f
  unfolding raised
  raised-zero f = refl

  pub raised-⊞ : (n : ℕ) (f g : Series 𝓕) → raised 𝓕 n (f ⊞ g) ≡ raised 𝓕 n f ⊞ raised 𝓕 n g
  raised-⊞ zero f g = rw (raised-zero (f ⊞ g), raised-zero f, raised-zero g)
  raised-⊞ (suc n) f g = rw (raised-suc n (f ⊞ g), raised-suc n f, raised-suc n g, raised-⊞ n f g, sh-⊞)

  pub raised-sh : (n : ℕ) (f : Series 𝓕) → raised 𝓕 n (sh f) ≡ sh (raised 𝓕 n f)
  raised-sh zero f = rw (raised-zero (sh f), raised-zero f)
  raised-sh (suc n) f = rw (raised-suc n (sh f), raised-suc n f, raised-sh n f)

  pub raised-monomial : (n k : ℕ) (a : F) → raised 𝓕 n (monomial 𝓕 k a) ≡ monomial 𝓕 (k + n) a
  raised-monomial zero k a = rw (raised-zero, add-zero)
  raised-monomial (suc n) k a = rw (raised-suc, raised-monomial n k a, add-suc, monomial-suc)

  pub raised-none : (n : ℕ) → raised 𝓕 n none ≡ none
  raised-none zero = raised-zero none
  raised-none (suc n) = rw (raised-suc, raised-none n) (sh-none 𝓕)

  pub raised-low : (n : ℕ) (f : Series 𝓕) (k : ℕ) → k < n → raised 𝓕 n f k ≡ 𝟘
  raised-low zero f k l = absurd (omega arith)
  raised-low (suc n) f zero l = rw raised-suc (sh-zero 𝓕 _)
  raised-low (suc n) f (suc k) l = rw (raised-suc, sh-suc) (raised-low n f k (omega arith))

  pub raised_high : (n : ℕ) (f : Series 𝓕) (k : ℕ) → n ≤ k → raised 𝓕 n f k ≡ f (k - n)
  raised_high zero f k l = rw raised-zero (ap f (omega arith))
  raised_high (suc n) f zero l = absurd (omega arith)
  raised_high (suc n) f (suc k) l = rw (raised-suc, sh-suc) (raised_high n f k (omega arith) ∙ ap f (omega arith))

  pub raised-⊛ : (n : ℕ) (f g : Series 𝓕) → raised 𝓕 n f ⊛ g ≡ raised 𝓕 n (f ⊛ g)
  raised-⊛ zero f g = rw (raised-zero f, raised-zero (f ⊛ g))
  raised-⊛ (suc n) f g = rw (raised-suc n f, raised-suc n (f ⊛ g), sh-⊛, raised-⊛ n f g)

  pub raised_local : (n m : ℕ) (f g : Series 𝓕) → ((k : ℕ) → k < m → f k ≡ g k) → (k : ℕ) → k < m → raised 𝓕 n f k ≡ raised 𝓕 n g k
  raised_local n m f g h k l = elim (dec_le n k) [
    | yes p ↦ raised_high n f k p ∙ h (k - n) (omega arith) ∙ sym (raised_high n g k p)
    | no p ↦ raised-low n f k (omega arith) ∙ sym (raised-low n g k (omega arith))
  ]

  pub below_raised : (n d : ℕ) (f : Series 𝓕) → Below 𝓕 d f → Below 𝓕 (d + n) (raised 𝓕 n f)
  below_raised zero d f h = rw (raised-zero, add-zero) h
  below_raised (suc n) d f h = rw (raised-suc, add-suc) (below-sh 𝓕 (d + n) (raised 𝓕 n f) (below_raised n d f h))

  -- ---- lists put together

  pub polynomial-append : (u p : List F) → polynomial 𝓕 (u ++ p) ≡ raised 𝓕 (length p) (polynomial 𝓕 u) ⊞ polynomial 𝓕 p
  polynomial-append [] p = rw (polynomial-none, raised-none) (fun_ext (λ k. sym (⊞-at 𝓕 none _ k ∙ (rw none-at (𝟘-⊕ 𝓕 _)))))
  polynomial-append (a ∷ u) p =
      rw (polynomial-cons a (u ++ p), polynomial-cons a u, raised-⊞, raised-monomial, polynomial-append u p, length-append)
      (fun_ext (λ k. simp (⊞-at, ring)))

  pub polynomial-same : (u w : List F) → length u ≡ length w → polynomial 𝓕 u ≡ polynomial 𝓕 w → u ≡ w
  polynomial-same u w e p = ext_get_or 𝟘 u w e at
    where
      at : (i : ℕ) → i < length u → get_or u i 𝟘 ≡ get_or w i 𝟘
      at i l =
          let j : ℕ = length u - suc i in
          let a : length u - suc j ≡ i = omega arith in
          let b : length w - suc j ≡ i = omega arith in
          ap (λ (m : ℕ). get_or u m 𝟘) (sym a) ∙ sym (polynomial-at u j (omega arith)) ∙ ap (λ (f : Series 𝓕). f j) p
          ∙ polynomial-at w j (omega arith) ∙ ap (λ (m : ℕ). get_or w m 𝟘) b
