-- What the library lacks of exclusive or.
--
--   bit-lt         a number's lowest bit is a bit
--   xor_assoc      associative, and as two rules for three and four terms
--   xor_left-comm
--   xor_swap
--   xor_again      twice the same changes nothing
--   xor_none       it is 0 of a number and itself alone
--   xor_half       half of it, and its lowest bit, come from the halves and the lowest bits
--   xor_odd
--   xor-bit        .. so does its lowest bit, times a number
--   xor_twice      twice it
--   differ_scale   a difference of bits, times a number
--   xor_bits       of two bits it is the difference
--
-- Assumes nothing.
use Rattle.std.specs.Prelude.{◌≡◌, refl, ℕ, zero, suc, ◌+◌, ◌*◌, ◌/◌, ◌%◌, ◌<◌}
use Rattle.std.proofs.Common.{sym, ap, ap₂, ◌∙◌, mod-lt, add-zero, mul_comm, zero-mul, arith, pow_pos, lit<}
use Rattle.std.proofs.Math.Arith.{digits_mod, bin_ind}
use Rattle.std.specs.Int.Bits.{bit_xor, differ, xor_step, xor_zero_r, xor_self}
use Rattle.std.proofs.lemmas.Nat.{xor_shr, xor_block, xor_comm}

pub bit-lt : (a : ℕ) → a % 2 < 2
bit-lt a = mod-lt a (lit< tt)

pub xor_bits : (x y : ℕ) → x < 2 → y < 2 → bit_xor x y ≡ differ x y
xor_bits zero y hx hy = refl
xor_bits (suc zero) zero hx hy = refl
xor_bits (suc zero) (suc zero) hx hy = refl
xor_bits (suc zero) (suc (suc y)) hx hy = absurd (omega arith)
xor_bits (suc (suc x)) y hx hy = absurd (omega arith)

differ-lt : (x y : ℕ) → x < 2 → y < 2 → differ x y < 2
differ-lt zero y hx hy = hy
differ-lt (suc zero) zero hx hy = hx
differ-lt (suc zero) (suc zero) hx hy = lit< tt
differ-lt (suc zero) (suc (suc y)) hx hy = absurd (omega arith)
differ-lt (suc (suc x)) y hx hy = absurd (omega arith)

differ-assoc : (x y z : ℕ) → x < 2 → y < 2 → z < 2 → differ (differ x y) z ≡ differ x (differ y z)
differ-assoc zero y z hx hy hz = refl
differ-assoc (suc zero) zero z hx hy hz = refl
differ-assoc (suc zero) (suc zero) zero hx hy hz = refl
differ-assoc (suc zero) (suc zero) (suc zero) hx hy hz = refl
differ-assoc (suc zero) (suc zero) (suc (suc z)) hx hy hz = absurd (omega arith)
differ-assoc (suc zero) (suc (suc y)) z hx hy hz = absurd (omega arith)
differ-assoc (suc (suc x)) y z hx hy hz = absurd (omega arith)

pub xor_half : (a b : ℕ) → bit_xor a b / 2 ≡ bit_xor (a / 2) (b / 2)
xor_half a b = xor_shr a b 1

pub xor_odd : (a b : ℕ) → bit_xor a b % 2 ≡ differ (a % 2) (b % 2)
xor_odd a b =
    ap (λ (x : ℕ). x % 2) (xor_step a b)
    ∙ digits_mod (bit_xor (a / 2) (b / 2)) (differ-lt (a % 2) (b % 2) (bit-lt a) (bit-lt b))

-- by induction on a's bits: the halves by the hypothesis, the lowest bits by cases
pub xor_assoc : (a b c : ℕ) → bit_xor (bit_xor a b) c ≡ bit_xor a (bit_xor b c)
xor_assoc a =
    bin_ind (λ (n : ℕ). (b c : ℕ) → bit_xor (bit_xor n b) c ≡ bit_xor n (bit_xor b c)) (λ b c. refl)
    (λ n ih b c.
    xor_step (bit_xor n b) c
    ∙ ap₂ (λ (x y : ℕ). bit_xor x (c / 2) * 2 + differ y (c % 2)) (xor_half n b) (xor_odd n b)
    ∙ ap₂ (λ (x y : ℕ). x * 2 + y) (ih (b / 2) (c / 2)) (differ-assoc (n % 2) (b % 2) (c % 2) (bit-lt n) (bit-lt b) (bit-lt c))
    ∙ ap₂ (λ (x y : ℕ). bit_xor (n / 2) x * 2 + differ (n % 2) y) (sym (xor_half b c)) (sym (xor_odd b c))
    ∙ sym (xor_step n (bit_xor b c))) a

pub xor_left-comm : (a b c : ℕ) → bit_xor a (bit_xor b c) ≡ bit_xor b (bit_xor a c)
xor_left-comm a b c = sym (xor_assoc a b c) ∙ ap (λ (x : ℕ). bit_xor x c) (xor_comm a b) ∙ xor_assoc b a c

pub xor_swap : (a b c d : ℕ) → bit_xor (bit_xor a b) (bit_xor c d) ≡ bit_xor (bit_xor a c) (bit_xor b d)
xor_swap a b c d = xor_assoc a b (bit_xor c d) ∙ ap (bit_xor a) (xor_left-comm b c d) ∙ sym (xor_assoc a c (bit_xor b d))

pub xor_again : (a b : ℕ) → bit_xor a (bit_xor a b) ≡ b
xor_again a b = sym (xor_assoc a a b) ∙ ap (λ (x : ℕ). bit_xor x b) (xor_self a)

pub xor_none : (a b : ℕ) → bit_xor a b ≡ 0 → a ≡ b
xor_none a b e = sym (xor_zero_r a) ∙ ap (bit_xor a) (sym e) ∙ xor_again a b

pub xor_twice : (a b : ℕ) → 2 * bit_xor a b ≡ bit_xor (2 * a) (2 * b)
xor_twice a b =
    mul_comm 2 (bit_xor a b) ∙ sym (add-zero (bit_xor a b * 2)) ∙ sym (xor_block 1 a b 0 0 (pow_pos 1) (pow_pos 1))
    ∙ ap₂ bit_xor (add-zero (a * 2) ∙ mul_comm a 2) (add-zero (b * 2) ∙ mul_comm b 2)

pub differ_scale : (x y c : ℕ) → x < 2 → y < 2 → differ x y * c ≡ bit_xor (x * c) (y * c)
differ_scale zero y c hx hy = sym (ap (λ (z : ℕ). bit_xor z (y * c)) (zero-mul c))
differ_scale (suc zero) zero c hx hy = sym (ap (bit_xor (1 * c)) (zero-mul c) ∙ xor_zero_r (1 * c))
differ_scale (suc zero) (suc zero) c hx hy = zero-mul c ∙ sym (xor_self (1 * c))
differ_scale (suc zero) (suc (suc y)) c hx hy = absurd (omega arith)
differ_scale (suc (suc x)) y c hx hy = absurd (omega arith)

pub xor-bit : (a b c : ℕ) → bit_xor a b % 2 * c ≡ bit_xor (a % 2 * c) (b % 2 * c)
xor-bit a b c = ap (λ (x : ℕ). x * c) (xor_odd a b) ∙ differ_scale (a % 2) (b % 2) c (bit-lt a) (bit-lt b)
