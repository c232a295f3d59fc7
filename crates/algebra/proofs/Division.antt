-- Long division gives the remainder.
--
--   sum-length, remainder-length          how many coefficients each has
--   polynomial-sum, polynomial-zeros      their polynomials
--   polynomial-raised                     of u and n zeros: x^n times that of u
--   raised-add, ⊞-none, ⊞_self            laws of raising, and of sums with 0 and with itself
--   divides_nothing                       any g divides 0
--   divides-lowered                       .. and with f + v also f + v + c x^n g: a step of a long division
--   monic, monic-top                      x^w + g has degree w, and its highest coefficient is 1
--   remainder_is                          `remainder g p` is the remainder of p by x^w + g
--   remainder-same                        .. and the only list of w coefficients that is
--   remainder_block                       from the remainder of f to that of x^n f + x^d u: n turns of the shift register at once
--
-- Assumes nothing.
use mathlib.Core.Path.{◌≡◌, refl, sym, ◌∙◌, ap, fun_ext}
use mathlib.Core.List.{List, [], ◌∷◌, ◌++◌}
use Prim.Native.Nat.{ℕ, zero, suc, ◌+◌, ◌-◌, ◌≤◌}
use native.Mathlib.Nat.{add-zero, add-suc, sub-zero}
use native.Mathlib.Omega.{arith}
use lib.ListN.{length, replicate, length-map, length-replicate}
use Rattle.algebra.specs.Field.{Field}
use Rattle.algebra.specs.Series.{Series, Below, operations}
use Rattle.algebra.specs.Polynomial.{Divides, Remainder, monomial, polynomial, raised}
use Rattle.algebra.specs.Division.{sum, scaled, lowered, divided, remainder}
use Rattle.algebra.specs.Register.{divisor}
use Rattle.algebra.proofs.Ring.{ring, ⊕-𝟘, ⊕_self, ⊙-𝟙}
use Rattle.algebra.proofs.Product.{⊞-at, ⊡-at, sh-⊞, sh-⊡, none-at, none-⊛, below-⊞}
use Rattle.algebra.proofs.Remainder.{divides-⊞, divides-sh, divides_self, remainder_unique}
use Rattle.algebra.proofs.Polynomial.{polynomial-none, polynomial-cons, below-polynomial, polynomial-at, raised-zero, raised-suc}
use Rattle.algebra.proofs.Polynomial.{raised-⊞, raised-monomial, raised-none, below_raised, polynomial-append, polynomial-same}

module _ (𝓕 : Field) where
  infixl 60 ◌⊕◌ ◌⊞◌
  infixl 70 ◌⊙◌
  infixr 80 ◌⊡◌
  open 𝓕 use {Carrier as F, add as ◌⊕◌, mul as ◌⊙◌, nil as 𝟘, one as 𝟙}
  open operations 𝓕 use {◌⊞◌, ◌⊡◌, none, sh}

  -- ---- monomials

  monomial-⊞ : (n : ℕ) (a b : F) → monomial 𝓕 n (a ⊕ b) ≡ monomial 𝓕 n a ⊞ monomial 𝓕 n b
  unfolding monomial
  monomial-⊞ zero a b = fun_ext (λ k. simp (⊞-at, ⊡-at, ring))
  monomial-⊞ (suc n) a b = ap sh (monomial-⊞ n a b) ∙ sh-⊞ 𝓕 (monomial 𝓕 n a) (monomial 𝓕 n b)

  monomial-⊡ : (n : ℕ) (a b : F) → monomial 𝓕 n (a ⊙ b) ≡ a ⊡ monomial 𝓕 n b
  unfolding monomial
  monomial-⊡ zero a b = fun_ext (λ k. simp (⊡-at, ring))
  monomial-⊡ (suc n) a b = ap sh (monomial-⊡ n a b) ∙ sh-⊡ 𝓕 a (monomial 𝓕 n b)

  monomial-𝟘 : (n : ℕ) → monomial 𝓕 n 𝟘 ≡ none
  monomial-𝟘 n = fun_ext (λ k. ap (λ (a : F). monomial 𝓕 n a k) (sym (⊕_self 𝓕 𝟘)) ∙ (rw (monomial-⊞, ⊞-at, none-at) (simp ring)))

  -- ---- lengths

  pub sum-length : (p q : List F) → length (sum 𝓕 p q) ≡ length p
  unfolding sum
  sum-length [] q = refl
  sum-length (a ∷ p) [] = refl
  sum-length (a ∷ p) (b ∷ q) = ap suc (sum-length p q)

  lowered-length : (g : List F) (a : F) (p : List F) → length (lowered 𝓕 g (a ∷ p)) ≡ length p
  unfolding lowered
  lowered-length g a p = sum-length p (scaled 𝓕 a g)

  divided-length : (k : ℕ) (g p : List F) → length (divided 𝓕 k g p) ≡ length p - k
  unfolding lowered divided
  divided-length zero g p = sym (sub-zero (length p))
  divided-length (suc k) g [] = divided-length k g [] ∙ (omega arith)
  divided-length (suc k) g (a ∷ p) = divided-length k g (lowered 𝓕 g (a ∷ p)) ∙ (rw (lowered-length g a p) (omega arith))

  pub remainder-length : (g p : List F) → length g ≤ length p → length (remainder 𝓕 g p) ≡ length g
  unfolding remainder
  remainder-length g p l = divided-length (length p - length g) g p ∙ (omega arith)

  -- ---- polynomials

  pub ⊞-none : (f : Series 𝓕) → f ⊞ none ≡ f
  ⊞-none f = fun_ext (λ k. ⊞-at 𝓕 f none k ∙ (rw none-at (⊕-𝟘 𝓕 (f k))))

  pub ⊞_self : (f : Series 𝓕) → f ⊞ f ≡ none
  ⊞_self f = fun_ext (λ k. ⊞-at 𝓕 f f k ∙ (rw none-at (⊕_self 𝓕 (f k))))

  ⊞_through : (f g h : Series 𝓕) → f ⊞ g ⊞ (g ⊞ h) ≡ f ⊞ h
  ⊞_through f g h = fun_ext (λ k. simp (⊞-at, ring))

  pub polynomial-sum : (p q : List F) → length q ≤ length p
      → polynomial 𝓕 (sum 𝓕 p q) ≡ polynomial 𝓕 p ⊞ raised 𝓕 (length p - length q) (polynomial 𝓕 q)
  unfolding sum
  polynomial-sum [] [] l = rw (polynomial-none, raised-none) (sym (⊞-none none))
  polynomial-sum [] (b ∷ q) l = absurd (omega arith)
  polynomial-sum (a ∷ p) [] l = rw (polynomial-none, raised-none) (sym (⊞-none _))
  polynomial-sum (a ∷ p) (b ∷ q) l =
      let e : suc (length p) - suc (length q) ≡ length p - length q = omega arith in
      let n : length q + (length p - length q) ≡ length p = omega arith in
      polynomial-cons 𝓕 (a ⊕ b) (sum 𝓕 p q)
      ∙ (rw (sum-length p q, polynomial-sum p q (omega arith), monomial-⊞, polynomial-cons 𝓕 a p, polynomial-cons 𝓕 b q, e, raised-⊞, raised-monomial, n)
      (fun_ext (λ k. simp (⊞-at, ring))))

  polynomial-scaled : (c : F) (p : List F) → polynomial 𝓕 (scaled 𝓕 c p) ≡ c ⊡ polynomial 𝓕 p
  polynomial-scaled c [] = rw polynomial-none (fun_ext (λ k. none-at 𝓕 k ∙ sym (⊡-at 𝓕 c none k ∙ (rw none-at (simp ring)))))
  polynomial-scaled c (a ∷ p) =
      polynomial-cons 𝓕 (c ⊙ a) (scaled 𝓕 c p)
      ∙ (rw (length-map, polynomial-scaled c p, monomial-⊡, polynomial-cons 𝓕 a p) (fun_ext (λ k. simp (⊞-at, ⊡-at, ring))))

  pub polynomial-zeros : (n : ℕ) → polynomial 𝓕 (replicate n 𝟘) ≡ none
  polynomial-zeros zero = polynomial-none 𝓕
  polynomial-zeros (suc n) =
      polynomial-cons 𝓕 𝟘 (replicate n 𝟘) ∙ (rw (polynomial-zeros n, monomial-𝟘) (⊞-none none))

  pub polynomial-raised : (u : List F) (n : ℕ) → polynomial 𝓕 (u ++ replicate n 𝟘) ≡ raised 𝓕 n (polynomial 𝓕 u)
  polynomial-raised u n = polynomial-append 𝓕 u (replicate n 𝟘) ∙ (rw (polynomial-zeros, length-replicate) (⊞-none _))

  -- ---- the remainder

  pub monic : (g : List F) → Below 𝓕 (suc (length g)) (divisor 𝓕 g)
  monic g = below-polynomial 𝓕 (𝟙 ∷ g)

  pub monic-top : (g : List F) → divisor 𝓕 g (length g) ≡ 𝟙
  monic-top g =
      let z : suc (length g) - suc (length g) ≡ 0 = omega arith in
      polynomial-at 𝓕 (𝟙 ∷ g) (length g) (omega arith) ∙ (rw z)

  pub divides_nothing : (g : Series 𝓕) → Divides 𝓕 g none
  divides_nothing g = record { quotient = none; degree = 0; finite = λ k l. none-at 𝓕 k; is = sym (none-⊛ 𝓕 g) }

  divides-raised : (g f : Series 𝓕) (n : ℕ) → Divides 𝓕 g f → Divides 𝓕 g (raised 𝓕 n f)
  divides-raised g f zero d = rw raised-zero d
  divides-raised g f (suc n) d = rw raised-suc (divides-sh 𝓕 g _ (divides-raised g f n d))

  pub divides-lowered : (g f v : Series 𝓕) (c : F) (n : ℕ) → Divides 𝓕 g (f ⊞ v) → Divides 𝓕 g (f ⊞ (v ⊞ raised 𝓕 n (c ⊡ g)))
  divides-lowered g f v c n d =
      let same : f ⊞ v ⊞ raised 𝓕 n (c ⊡ g) ≡ f ⊞ (v ⊞ raised 𝓕 n (c ⊡ g)) = fun_ext (λ k. simp (⊞-at, ring)) in
      rw same at (divides-⊞ 𝓕 g (f ⊞ v) (raised 𝓕 n (c ⊡ g)) d (divides-raised g (c ⊡ g) n (divides_self 𝓕 g c)))

  divisor-scaled : (w : ℕ) (a : F) (f : Series 𝓕) → a ⊡ (monomial 𝓕 w 𝟙 ⊞ f) ≡ monomial 𝓕 w a ⊞ a ⊡ f
  divisor-scaled w a f =
      fun_ext (λ k. simp (⊡-at, ⊞-at, ring)) ∙ ap (λ (x : Series 𝓕). x ⊞ a ⊡ f) (sym (monomial-⊡ w a 𝟙) ∙ ap (monomial 𝓕 w) (⊙-𝟙 𝓕 a))

  -- a step takes a multiple of the divisor off
  lowered-sum : (g : List F) (a : F) (p : List F) → length g ≤ length p
      → polynomial 𝓕 (a ∷ p) ⊞ polynomial 𝓕 (lowered 𝓕 g (a ∷ p)) ≡ raised 𝓕 (length p - length g) (a ⊡ divisor 𝓕 g)
  unfolding lowered
  lowered-sum g a p l =
      let n : length g + (length p - length g) ≡ length p = omega arith in
      let m : length (scaled 𝓕 a g) ≤ length p = rw length-map l in
      rw (polynomial-cons 𝓕 a p, polynomial-sum p (scaled 𝓕 a g) m, polynomial-scaled, length-map)
      (rw (polynomial-cons 𝓕 𝟙 g, divisor-scaled, raised-⊞, raised-monomial, n) (fun_ext (λ k. simp (⊞-at, ring))))

  divided_divides : (k : ℕ) (g p : List F) → k + length g ≤ length p → Divides 𝓕 (divisor 𝓕 g) (polynomial 𝓕 p ⊞ polynomial 𝓕 (divided 𝓕 k g p))
  unfolding divided
  divided_divides zero g p l = rw (⊞_self (polynomial 𝓕 p)) (divides_nothing (divisor 𝓕 g))
  divided_divides (suc k) g [] l = absurd (omega arith)
  divided_divides (suc k) g (a ∷ p) l =
      let q : List F = lowered 𝓕 g (a ∷ p) in
      rw (← ⊞_through (polynomial 𝓕 (a ∷ p)) (polynomial 𝓕 q) (polynomial 𝓕 (divided 𝓕 k g q)))
      (divides-⊞ 𝓕 (divisor 𝓕 g) _ _
      (rw (lowered-sum g a p (omega arith)) (divides-raised (divisor 𝓕 g) _ (length p - length g) (divides_self 𝓕 (divisor 𝓕 g) a)))
      (divided_divides k g q (rw lowered-length (omega arith))))

  remainder_small : (g p : List F) → length g ≤ length p → Below 𝓕 (length g) (polynomial 𝓕 (remainder 𝓕 g p))
  remainder_small g p l k m = below-polynomial 𝓕 (remainder 𝓕 g p) k (rw (remainder-length g p l) m)

  pub remainder_is : (g p : List F) → length g ≤ length p → Remainder 𝓕 (divisor 𝓕 g) (length g) (polynomial 𝓕 p) (polynomial 𝓕 (remainder 𝓕 g p))
  unfolding remainder
  remainder_is g p l = record {
    small = remainder_small g p l;
    divides = divided_divides (length p - length g) g p (omega arith);
  }

  pub remainder-same : (g : List F) (f : Series 𝓕) (r s : List F) → length r ≡ length g → length s ≡ length g
      → Remainder 𝓕 (divisor 𝓕 g) (length g) f (polynomial 𝓕 r) → Remainder 𝓕 (divisor 𝓕 g) (length g) f (polynomial 𝓕 s) → r ≡ s
  remainder-same g f r s lr ls hr hs =
      polynomial-same 𝓕 r s (lr ∙ sym ls) (remainder_unique 𝓕 (length g) (divisor 𝓕 g) f _ _ (monic g) (monic-top g) hr hs)

  -- ---- n turns of the shift register at once

  pub raised-add : (m n : ℕ) (f : Series 𝓕) → raised 𝓕 n (raised 𝓕 m f) ≡ raised 𝓕 (m + n) f
  raised-add m zero f = rw (raised-zero, add-zero)
  raised-add m (suc n) f = rw (raised-suc 𝓕 n (raised 𝓕 m f), raised-add m n f, add-suc, raised-suc)

  module _ (d m n : ℕ) (e : m + n ≡ d) (g f a b u t : Series 𝓕) (r : Remainder 𝓕 g d f (raised 𝓕 m a ⊞ b)) (small : Below 𝓕 m b)
      (s : Remainder 𝓕 g d (raised 𝓕 d (a ⊞ u)) t) where
    block-sum : raised 𝓕 n (f ⊞ (raised 𝓕 m a ⊞ b)) ⊞ (raised 𝓕 d (a ⊞ u) ⊞ t) ≡ raised 𝓕 n f ⊞ raised 𝓕 d u ⊞ (raised 𝓕 n b ⊞ t)
    block-sum =
        rw (raised-⊞ 𝓕 n f (raised 𝓕 m a ⊞ b), raised-⊞ 𝓕 n (raised 𝓕 m a) b, raised-add, e, raised-⊞ 𝓕 d a u) (fun_ext (λ k. simp (⊞-at, ring)))

    pub remainder_block : Remainder 𝓕 g d (raised 𝓕 n f ⊞ raised 𝓕 d u) (raised 𝓕 n b ⊞ t)
    remainder_block = record {
      small = below-⊞ 𝓕 d _ _ (rw e at (below_raised 𝓕 n m b small)) s.small;
      divides = rw (← block-sum) (divides-⊞ 𝓕 g _ _ (divides-raised g _ n r.divides) s.divides);
    }
