-- The polynomial gives the matrix: the quotients of the twelve words with one bit of data are computed, and the rest are their sums.
--
--   times_xor     the product with a sum of polynomials is the sum of the products
--   quotients     what the polynomial is multiplied by for each bit of data alone
--   word-times    the first 23 bits of a word are a multiple of the polynomial
--
-- Assumes nothing.
use mathlib.Core.Path.{◌≡◌, refl, ap, ap₂, ◌∙◌}
use mathlib.Core.List.{List, [], ◌∷◌}
use Prim.Native.Nat.{ℕ, zero, suc, ◌*◌, ◌/◌, ◌%◌, ◌^◌, ◌<◌}
use lib.Bits.{bit_xor, xor_mod}
use lib.Dec.{T, eqb, eqb→eq}
use Rattle.octets.specs.Every.{every, every_at}
use Rattle.octets.specs.Xor.{xor_swap, xor_half, xor-bit, xor_twice}
use Rattle.golay.specs.Matrix.{matrix, polynomial}
use Rattle.golay.specs.Code.{product, parity, code_word}
use Rattle.golay.specs.Claims.{times, Generated}
use Rattle.golay.proofs.Linear.{product_xor, product_lt, word_xor, Sums, sums_same}

pub times_xor : (k a b g : ℕ) → times k (bit_xor a b) g ≡ bit_xor (times k a g) (times k b g)
times_xor zero a b g = refl
times_xor (suc k) a b g =
    ap₂ (λ (x y : ℕ). bit_xor x (2 * y)) (xor-bit a b g) (ap (λ (q : ℕ). times k q g) (xor_half a b) ∙ times_xor k (a / 2) (b / 2) g)
    ∙ ap (bit_xor (bit_xor (a % 2 * g) (b % 2 * g))) (xor_twice (times k (a / 2) g) (times k (b / 2) g))
    ∙ xor_swap (a % 2 * g) (b % 2 * g) (2 * times k (a / 2) g) (2 * times k (b / 2) g)

unfoldable pub quotients : List ℕ
quotients = 3877 ∷ 3658 ∷ 3220 ∷ 2344 ∷ 592 ∷ 1184 ∷ 2368 ∷ 640 ∷ 1280 ∷ 2560 ∷ 1024 ∷ 2048 ∷ []

abbrev front : ℕ → ℕ
front d = code_word d % 2 ^ 23

abbrev multiple : ℕ → ℕ
multiple d = times 12 (product quotients d) polynomial

front_sums : Sums 12 front
front_sums a b h l = ap (λ (x : ℕ). x % 2 ^ 23) (word_xor a b h l) ∙ xor_mod (code_word a) (code_word b) 23

multiple_sums : Sums 12 multiple
multiple_sums a b h l =
    ap (λ (q : ℕ). times 12 q polynomial) (product_xor quotients a b) ∙ times_xor 12 (product quotients a) (product quotients b) polynomial

nothing-same : front 0 ≡ multiple 0
unfolding parity product matrix quotients
nothing-same = refl

each_test : T (every (λ i. eqb (front (2 ^ i)) (multiple (2 ^ i))) 12)
unfolding parity product matrix quotients
each_test = tt

each_same : (i : ℕ) → i < 12 → front (2 ^ i) ≡ multiple (2 ^ i)
each_same i h = eqb→eq (front (2 ^ i)) (multiple (2 ^ i)) (every_at (λ i. eqb (front (2 ^ i)) (multiple (2 ^ i))) 12 each_test i h)

quotients-fit : (d : ℕ) → product quotients d < 2 ^ 12
unfolding quotients
quotients-fit d = product_lt 12 quotients tt d

pub word-times : Generated
word-times d h =
    (product quotients d, quotients-fit d, sums_same 12 front multiple front_sums multiple_sums nothing-same each_same d h)
