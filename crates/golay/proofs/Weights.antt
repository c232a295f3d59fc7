-- The ones of every word, computed over all messages: the sums of all the words.
--
--   word_least   every word but that of 0 has at least 8 ones
--   word_even    the number of ones is even
--
-- Assumes nothing.
use mathlib.Core.Path.{ap, ◌∙◌}
use mathlib.Core.Bool.{Bool, ◌&&◌}
use Prim.Native.Nat.{ℕ, zero, suc, ◌+◌, ◌*◌, ◌%◌, ◌^◌, ◌<◌}
use native.Mathlib.Nat.{not-suc-le-zero, le_of_suc-le-suc}
use lib.Count.{ones}
use lib.Dec.{T, leb, eqb, leb→le, eqb→eq}
use Rattle.octets.specs.Every.{every, every_at, both_left, both_right}
use Rattle.golay.specs.Matrix.{matrix}
use Rattle.golay.specs.Code.{product, parity, code_word}
use Rattle.golay.specs.Claims.{total, bit_at, LeastOnes, EvenOnes}
use Rattle.golay.proofs.Ones.{ones-zero, ones-total}
use Rattle.golay.proofs.Linear.{parity-zero, word_lt}

-- an even number, from 8 on
is_weight : ℕ → Bool
is_weight n = leb 8 n && eqb (n % 2) 0

is_weighed : ℕ → Bool
is_weighed d = is_weight (total 24 (bit_at (code_word (suc d))))

weighed_test : T (every is_weighed 4095)
unfolding is_weighed is_weight parity product matrix
weighed_test = tt

weighed : (d : ℕ) → suc d < 2 ^ 12 → T (is_weight (ones (code_word (suc d))))
unfolding is_weighed
weighed d h = rw (ones-total 24 (code_word (suc d)) (word_lt (suc d) h)) (every_at is_weighed 4095 weighed_test d (le_of_suc-le-suc h))

pub word_least : LeastOnes
unfolding is_weight
word_least zero p h = absurd (not-suc-le-zero p)
word_least (suc d) p h = let n = ones (code_word (suc d)) in leb→le 8 n (both_left (leb 8 n) (eqb (n % 2) 0) (weighed d h))

pub word_even : EvenOnes
unfolding is_weight
word_even zero h = ap (λ (x : ℕ). ones (x * 2 ^ 12 + 0) % 2) parity-zero ∙ ap (λ (x : ℕ). x % 2) ones-zero
word_even (suc d) h = let n = ones (code_word (suc d)) in eqb→eq (n % 2) 0 (both_right (leb 8 n) (eqb (n % 2) 0) (weighed d h))
