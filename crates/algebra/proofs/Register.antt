-- The register that divides by x^w + g.
--
--   remainder-raised   the remainder of x^n c, by long division of c and n zeros
--   register-length    it holds w coefficients
--   register-is        the register is the remainder of what it took, and so the one list of w coefficients that is
--   remainder-sum      the remainder of a sum, the shorter list under the highest coefficients of the longer
--   register-zeros     started with zeros, it is the remainder of x^w c
--   register-none      with no content it is what it started with
--   register_more      n coefficients more, at once: the n highest that it held go through the division with the new ones,
--                      and the others move up
--
-- Assumes nothing.
use mathlib.Core.Path.{◌≡◌, sym, ◌∙◌, ap, fun_ext}
use mathlib.Core.List.{List, [], ◌++◌}
use Prim.Native.Nat.{ℕ, ◌+◌, ◌-◌, ◌≤◌}
use native.Mathlib.Nat.{add_comm}
use native.Mathlib.Omega.{arith}
use lib.ListN.{length, replicate, length-append, length-replicate}
use Rattle.algebra.specs.Field.{Field}
use Rattle.algebra.specs.Series.{Series, Below, operations}
use Rattle.algebra.specs.Polynomial.{Remainder, polynomial, raised}
use Rattle.algebra.specs.Division.{sum, remainder}
use Rattle.algebra.specs.Register.{divisor, taken, register}
use Rattle.algebra.proofs.Ring.{ring, 𝟘-⊕}
use Rattle.algebra.proofs.Product.{⊞-at, none-at, below-⊞}
use Rattle.algebra.proofs.Remainder.{divides-⊞}
use Rattle.algebra.proofs.Polynomial.{polynomial-none, below-polynomial, raised-zero, raised-⊞, raised-none, polynomial-append}
use Rattle.algebra.proofs.Division.{⊞-none, ⊞_self, divides_nothing, sum-length, remainder-length, polynomial-sum, polynomial-zeros}
use Rattle.algebra.proofs.Division.{polynomial-raised, remainder_is, remainder-same, raised-add, remainder_block}

module _ (𝓕 : Field) where
  infixl 60 ◌⊞◌
  open 𝓕 use {Carrier as F, nil as 𝟘}
  open operations 𝓕 use {◌⊞◌, none}

  abbrev zeros : ℕ → List F
  zeros n = replicate n 𝟘

  padded-length : (c : List F) (n : ℕ) → length (c ++ zeros n) ≡ length c + n
  padded-length c n = length-append c (zeros n) ∙ ap (λ (m : ℕ). length c + m) (length-replicate n 𝟘)

  -- two of the same length
  polynomial_plus : (p q : List F) → length p ≡ length q → polynomial 𝓕 (sum 𝓕 p q) ≡ polynomial 𝓕 p ⊞ polynomial 𝓕 q
  polynomial_plus p q e =
      let l : length p - length q ≡ 0 = omega arith in
      polynomial-sum 𝓕 p q (omega arith) ∙ (rw (l, raised-zero))

  remainder-⊞ : (g f h p q : Series 𝓕) (d : ℕ) → Remainder 𝓕 g d f p → Remainder 𝓕 g d h q → Remainder 𝓕 g d (f ⊞ h) (p ⊞ q)
  remainder-⊞ g f h p q d r s = record {
    small = below-⊞ 𝓕 d p q r.small s.small;
    divides = rw (← paired) (divides-⊞ 𝓕 g (f ⊞ p) (h ⊞ q) r.divides s.divides);
  }
    where
      paired : f ⊞ p ⊞ (h ⊞ q) ≡ f ⊞ h ⊞ (p ⊞ q)
      paired = fun_ext (λ k. simp (⊞-at, ring))

  remainder_itself : (g p : Series 𝓕) (d : ℕ) → Below 𝓕 d p → Remainder 𝓕 g d p p
  remainder_itself g p d l = record { small = l; divides = rw (⊞_self 𝓕 p) (divides_nothing 𝓕 g) }

  none-⊞ : (f : Series 𝓕) → none ⊞ f ≡ f
  none-⊞ f = fun_ext (λ k. ⊞-at 𝓕 none f k ∙ (rw none-at (𝟘-⊕ 𝓕 (f k))))

  module _ (g : List F) where
    abbrev w : ℕ
    w = length g

    abbrev IsRemainder : Series 𝓕 → List F → Type 0
    IsRemainder f p = Remainder 𝓕 (divisor 𝓕 g) w f (polynomial 𝓕 p)

    pub remainder-raised : (c : List F) (n : ℕ) → w ≤ length c + n → IsRemainder (raised 𝓕 n (polynomial 𝓕 c)) (remainder 𝓕 g (c ++ zeros n))
    remainder-raised c n l = rw (← polynomial-raised 𝓕 c n) (remainder_is 𝓕 g (c ++ zeros n) (rw padded-length l))

    padded-remainder : (c : List F) (n : ℕ) → w ≤ length c + n → length (remainder 𝓕 g (c ++ zeros n)) ≡ w
    padded-remainder c n l = remainder-length 𝓕 g (c ++ zeros n) (rw padded-length l)

    pub remainder-sum : (c d : List F) (n k : ℕ) → length d ≤ length c → length d + k ≡ length c + n → w ≤ length c + n
        → remainder 𝓕 g (sum 𝓕 c d ++ zeros n) ≡ sum 𝓕 (remainder 𝓕 g (c ++ zeros n)) (remainder 𝓕 g (d ++ zeros k))
    remainder-sum c d n k short e l =
        let m : length c - length d + n ≡ k = omega arith in
        let summed : raised 𝓕 n (polynomial 𝓕 (sum 𝓕 c d)) ≡ raised 𝓕 n (polynomial 𝓕 c) ⊞ raised 𝓕 k (polynomial 𝓕 d) =
        ap (raised 𝓕 n) (polynomial-sum 𝓕 c d short)
        ∙ raised-⊞ 𝓕 n (polynomial 𝓕 c) (raised 𝓕 (length c - length d) (polynomial 𝓕 d))
        ∙ ap (λ (h : Series 𝓕). raised 𝓕 n (polynomial 𝓕 c) ⊞ h)
        (raised-add 𝓕 (length c - length d) n (polynomial 𝓕 d) ∙ ap (λ (j : ℕ). raised 𝓕 j (polynomial 𝓕 d)) m) in
        let lc : length (remainder 𝓕 g (c ++ zeros n)) ≡ w = padded-remainder c n l in
        let ld : length (remainder 𝓕 g (d ++ zeros k)) ≡ w = padded-remainder d k (omega arith) in
        let ls : length (sum 𝓕 c d) ≡ length c = sum-length 𝓕 c d in
        remainder-same 𝓕 g (raised 𝓕 n (polynomial 𝓕 (sum 𝓕 c d))) _ _ (padded-remainder (sum 𝓕 c d) n (omega arith))
        (sum-length 𝓕 (remainder 𝓕 g (c ++ zeros n)) (remainder 𝓕 g (d ++ zeros k)) ∙ lc)
        (remainder-raised (sum 𝓕 c d) n (omega arith))
        (rw (summed, polynomial_plus (remainder 𝓕 g (c ++ zeros n)) (remainder 𝓕 g (d ++ zeros k)) (lc ∙ sym ld))
        (remainder-⊞ (divisor 𝓕 g) _ _ _ _ w (remainder-raised c n l) (remainder-raised d k (omega arith))))

    module _ (s : List F) (full : length s ≡ w) where
      pub register-length : (c : List F) → length (register 𝓕 g s c) ≡ w
      unfolding register
      register-length c = sum-length 𝓕 _ _ ∙ padded-remainder s (length c) (omega arith)

      pub register-is : (c : List F) → IsRemainder (taken 𝓕 w s c) (register 𝓕 g s c)
      unfolding register
      register-is c =
          rw (polynomial_plus (remainder 𝓕 g (s ++ zeros (length c))) (remainder 𝓕 g (c ++ zeros w))
          (padded-remainder s (length c) (omega arith) ∙ sym (padded-remainder c w (omega arith))))
          (remainder-⊞ (divisor 𝓕 g) _ _ _ _ w (remainder-raised s (length c) (omega arith)) (remainder-raised c w (omega arith)))

      -- what holds of the remainder of what it took is said of the register
      register-same : (c r : List F) → length r ≡ w → IsRemainder (taken 𝓕 w s c) r → register 𝓕 g s c ≡ r
      register-same c r l h = remainder-same 𝓕 g (taken 𝓕 w s c) (register 𝓕 g s c) r (register-length c) l (register-is c) h

      pub register-none : register 𝓕 g s [] ≡ s
      register-none =
          register-same [] s full
          (rw (raised-zero, polynomial-none, raised-none, ⊞-none)
          (remainder_itself (divisor 𝓕 g) (polynomial 𝓕 s) w (λ k l. below-polynomial 𝓕 s k (omega arith))))

      module _ (c a b d : List F) (held : register 𝓕 g s c ≡ a ++ b) (n : length a ≡ length d) where
        parts : length b + length d ≡ w
        parts = omega (arith, length-append a b, sym (ap length held) ∙ register-length c)

        moved : length (b ++ zeros (length d)) ≡ w
        moved = padded-length b (length d) ∙ parts

        more-taken : taken 𝓕 w s (c ++ d) ≡ raised 𝓕 (length d) (taken 𝓕 w s c) ⊞ raised 𝓕 w (polynomial 𝓕 d)
        more-taken =
            rw (length-append, polynomial-append 𝓕 c d, raised-⊞ 𝓕 w (raised 𝓕 (length d) (polynomial 𝓕 c)), raised-⊞ 𝓕 (length d))
            (rw (raised-add 𝓕 (length d) w, raised-add 𝓕 (length c), raised-add 𝓕 w (length d), add_comm w (length d)) (fun_ext (λ k. simp (⊞-at, ring))))

        before : IsRemainder (taken 𝓕 w s c) (a ++ b)
        before = rw (← held) (register-is c)

        pub register_more : register 𝓕 g s (c ++ d) ≡ sum 𝓕 (b ++ zeros (length d)) (remainder 𝓕 g (sum 𝓕 a d ++ zeros w))
        register_more =
            register-same (c ++ d) _ (sum-length 𝓕 (b ++ zeros (length d)) _ ∙ moved)
            (rw (more-taken, polynomial_plus (b ++ zeros (length d)) _ (moved ∙ sym (padded-remainder (sum 𝓕 a d) w (omega arith))), polynomial-raised)
            (remainder_block 𝓕 w (length b) (length d) parts (divisor 𝓕 g) (taken 𝓕 w s c) (polynomial 𝓕 a) (polynomial 𝓕 b) (polynomial 𝓕 d) _
            (rw (← polynomial-append 𝓕 a b) before)
            (below-polynomial 𝓕 b)
            (rw (← polynomial_plus a d n) (remainder-raised (sum 𝓕 a d) w (omega arith)))))

    pub register-zeros : (c : List F) → register 𝓕 g (zeros w) c ≡ remainder 𝓕 g (c ++ zeros w)
    register-zeros c =
        register-same (zeros w) (length-replicate w 𝟘) c _ (padded-remainder c w (omega arith))
        (rw (polynomial-zeros, raised-none, none-⊞) (remainder-raised c w (omega arith)))
