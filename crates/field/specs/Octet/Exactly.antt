-- The product in the words of 003, D.4.1.7.3: of polynomials in x over the field of two elements, where x^8 is
-- x^4 + x^3 + x^2 + 1.
--
--   IsProduct f      f distributes over the sum in each factor and is associative, at all numbers; 1 changes no octet; x times a power of x
--                    below x^7 is the next, one bit higher; and x times x^7 is x^4 + x^3 + x^2 + 1
--   next_at i        whether the product of x and x^i is the next, one bit higher
--   next_test        .. it is, for each i below 7
--   eighth_is        and that of x and x^7 is x^4 + x^3 + x^2 + 1
--
-- The product is such, and nothing else is: `proofs/Octet/Exactly.antt`. Assumes nothing.
use Rattle.std.specs.Prelude.{◌≡◌, refl, Bool, ℕ, ◌+◌, ◌^◌, ◌<◌, T, eqb}
use Rattle.octets.specs.Every.{every}
use Rattle.field.specs.Octet.{sum, modulus, double, times, product, α, size}

pub record IsProduct (f : ℕ → ℕ → ℕ) : Type 0 where
  pub left : (a b c : ℕ) → f (sum a b) c ≡ sum (f a c) (f b c)
  pub right : (a b c : ℕ) → f a (sum b c) ≡ sum (f a b) (f a c)
  pub assoc : (a b c : ℕ) → f (f a b) c ≡ f a (f b c)
  pub one : (a : ℕ) → a < size → f 1 a ≡ a
  pub next : (i : ℕ) → i < 7 → f α (2 ^ i) ≡ 2 ^ (i + 1)
  pub eighth : f α (2 ^ 7) ≡ sum (2 ^ 4) (sum (2 ^ 3) (sum (2 ^ 2) 1))

unfoldable pub next_at : ℕ → Bool
next_at i = eqb (product α (2 ^ i)) (2 ^ (i + 1))

pub next_test : T (every next_at 7)
unfolding sum modulus double times product next_at
next_test = tt

pub eighth_is : product α (2 ^ 7) ≡ sum (2 ^ 4) (sum (2 ^ 3) (sum (2 ^ 2) 1))
unfolding sum modulus double times product
eighth_is = refl
