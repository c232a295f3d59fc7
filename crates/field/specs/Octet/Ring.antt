-- The product is commutative and associative, with 1 and 0. Both sides of each law are additive in each factor, so a computed
-- test at 1, 2, 4, .., 128 shows it: 64 pairs for the one, 512 triples for the other.
--
--   product-comm        commutative, associative
--   product-assoc
--   product-zero        0 and 1
--   zero-product
--   product_one
--   one_product
--   alpha_at a          whether the product of α and a is a, doubled
--   alpha_test          .. it is, for each octet a
--
-- Assumes nothing.
use Rattle.std.specs.Prelude.{◌≡◌, Bool, ℕ, ◌%◌, ◌^◌, ◌<◌, T, eqb}
use Rattle.std.proofs.Common.{sym, ap, ◌∙◌, eqb→eq}
use Rattle.std.proofs.Math.Nat.{mod-mod}
use Rattle.octets.specs.Every.{every, every_at, every_pair}
use Rattle.field.specs.Octet.{sum, modulus, double, times, product, α, size}
use Rattle.field.specs.Octet.Product.{sum-product, product-sum, product_low, low_octet}
use Rattle.field.specs.Octet.Basis.{additive-zero, agree_two, agree_three}

-- ---- commutative

comm_at : ℕ → ℕ → Bool
comm_at i j = eqb (product (2 ^ i) (2 ^ j)) (product (2 ^ j) (2 ^ i))

comm_test : T (every (λ i. every (comm_at i) 8) 8)
unfolding sum modulus double times product comm_at
comm_test = tt

comm_basis : (i j : ℕ) → i < 8 → j < 8 → product (2 ^ i) (2 ^ j) ≡ product (2 ^ j) (2 ^ i)
unfolding comm_at
comm_basis i j hi hj = eqb→eq _ _ (every_pair comm_at 8 8 comm_test i j hi hj)

pub product-comm : (a b : ℕ) → product a b ≡ product b a
product-comm a b =
    sym (product_low a b)
    ∙ agree_two product (λ a b. product b a) (λ b x y. sum-product x y b) product-sum product-sum (λ a x y. sum-product x y a) comm_basis
    (a % size) (b % size) (low_octet a) (low_octet b)
    ∙ product_low b a

-- ---- associative

assoc_at : ℕ → ℕ → ℕ → Bool
assoc_at i j k = eqb (product (product (2 ^ i) (2 ^ j)) (2 ^ k)) (product (2 ^ i) (product (2 ^ j) (2 ^ k)))

assoc_test : T (every (λ i. every (λ j. every (assoc_at i j) 8) 8) 8)
unfolding sum modulus double times product assoc_at
assoc_test = tt

assoc_basis : (i j k : ℕ) → i < 8 → j < 8 → k < 8 → product (product (2 ^ i) (2 ^ j)) (2 ^ k) ≡ product (2 ^ i) (product (2 ^ j) (2 ^ k))
unfolding assoc_at
assoc_basis i j k hi hj hk =
    eqb→eq _ _ (every_at (assoc_at i j) 8 (every_pair (λ i j. every (assoc_at i j) 8) 8 8 assoc_test i j hi hj) k hk)

assoc_octets : (a b c : ℕ) → a < size → b < size → c < size → product (product a b) c ≡ product a (product b c)
assoc_octets =
    agree_three (λ a b c. product (product a b) c) (λ a b c. product a (product b c))
    (λ b c x y. ap (λ (z : ℕ). product z c) (sum-product x y b) ∙ sum-product (product x b) (product y b) c)
    (λ a c x y. ap (λ (z : ℕ). product z c) (product-sum a x y) ∙ sum-product (product a x) (product a y) c)
    (λ a b x y. product-sum (product a b) x y)
    (λ b c x y. sum-product x y (product b c))
    (λ a c x y. ap (product a) (sum-product x y c) ∙ product-sum a (product x c) (product y c))
    (λ a b x y. ap (product a) (product-sum b x y) ∙ product-sum a (product b x) (product b y))
    assoc_basis

low_product : (a b : ℕ) → product (a % size) b ≡ product a b
low_product a b = sym (product_low (a % size) b) ∙ ap (λ (x : ℕ). product x (b % size)) (mod-mod a size) ∙ product_low a b

pub product-assoc : (a b c : ℕ) → product (product a b) c ≡ product a (product b c)
product-assoc a b c =
    ap (λ (x : ℕ). product x c) (sym (product_low a b)) ∙ product-comm _ c ∙ sym (low_product c _) ∙ product-comm (c % size) _
    ∙ assoc_octets (a % size) (b % size) (c % size) (low_octet a) (low_octet b) (low_octet c)
    ∙ ap (product (a % size)) (product_low b c) ∙ low_product a (product b c)

-- ---- zero, one and α

pub product-zero : (a : ℕ) → product a 0 ≡ 0
product-zero a = additive-zero (product a) (product-sum a)

pub zero-product : (a : ℕ) → product 0 a ≡ 0
zero-product a = product-comm 0 a ∙ product-zero a

one_at : ℕ → Bool
one_at a = eqb (product 1 a) a

one_test : T (every one_at size)
unfolding sum modulus double times product one_at
one_test = tt

pub one_product : (a : ℕ) → a < size → product 1 a ≡ a
unfolding one_at
one_product a h = eqb→eq (product 1 a) a (every_at one_at size one_test a h)

pub product_one : (a : ℕ) → a < size → product a 1 ≡ a
product_one a h = product-comm a 1 ∙ one_product a h

unfoldable pub alpha_at : ℕ → Bool
alpha_at a = eqb (product α a) (double a)

pub alpha_test : T (every alpha_at size)
unfolding sum modulus double times product alpha_at
alpha_test = tt
