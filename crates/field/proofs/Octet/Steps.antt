-- The steps by which the code works out a row of powers, for the functions of this crate and no other (`tests/heads`).
--
--   power-double       x αᵏ is αᵏ⁺¹
--   doublings_images   in a row of powers, αᵏ and the seven entries behind it are the images of the product with αᵏ
--   laid_twice         the powers, written once and once more behind, are a row of powers
--
-- Assumes nothing.
use Rattle.std.specs.Prelude.{◌≡◌, Bool, List, ℕ, zero, suc, ◌+◌, ◌-◌, ◌%◌, ◌^◌, ◌≤◌, ◌<◌, T, eqb, length, get_or, take, drop}
use Rattle.std.proofs.Common.{sym, ap, ◌∙◌, inl, arith, zero-add, eqb→eq, get_or-take, get_or-drop}
use Rattle.std.proofs.Math.Decide.{dec_lt}
use Rattle.octets.specs.Every.{every, every_at}
use Rattle.octets.specs.Written.{written, written-length, written_inside, written_outside}
use Rattle.field.specs.Octet.{double, product, power, α, order}
use Rattle.field.specs.Octet.Laws.{power_zero, power-suc, power_octet, power-add}
use Rattle.field.specs.Octet.Steps.{Images}
use Rattle.field.specs.Octet.Table.{worked, worked-is, is_doubled, powers_at, laid, Laid, Doublings}
use Rattle.field.proofs.Octet.Ring.{alpha-product}
use Rattle.field.proofs.Octet.Inverse.{power_wrap}

pub power-double : (k : ℕ) → double (power α k) ≡ power α (suc k)
power-double k = sym (power-suc α k ∙ alpha-product (power α k) (power_octet α k))

-- x, .., x^7 are shifted, and nothing is pushed out
abbrev is_shifted : ℕ → Bool
is_shifted i = eqb (2 ^ suc i) (worked α (2 ^ i))

shifted_test : T (every is_shifted 7)
unfolding worked
shifted_test = tt

power_image : (i : ℕ) → i < 8 → 2 ^ i ≡ power α i
power_image zero h = sym (power_zero α)
power_image (suc i) h =
    eqb→eq (2 ^ suc i) (worked α (2 ^ i)) (every_at is_shifted 7 shifted_test i (omega arith))
    ∙ worked-is α (2 ^ i) ∙ ap (product α) (power_image i (omega arith)) ∙ sym (power-suc α i)

pub doublings_images : (p : List ℕ) (k : ℕ) → Laid p → Doublings k → Images (product (power α k)) (take 8 (drop k p))
doublings_images p k laid room i h =
    get_or-take 8 (drop k p) i 0 h ∙ get_or-drop k p i 0 ∙ laid (k + i) (omega arith) ∙ power-add α k i
    ∙ ap (product (power α k)) (sym (power_image i h))

pub laid_twice : (d p : List ℕ) → length d ≡ laid → length p ≡ order → T (is_doubled p) → Laid (written (written d 0 p) order p)
laid_twice d p long short h k l = go (dec_lt k order)
  where
    once : List ℕ
    once = written d 0 p

    room : order + length p ≤ length once
    room = omega (arith, written-length d 0 p (omega arith))

    go : Dec (k < order) → get_or (written once order p) k 0 ≡ power α k
    go (yes m) =
        written_outside once order p room k 0 (inl m)
        ∙ ap (λ (n : ℕ). get_or once n 0) (sym (zero-add k)) ∙ written_inside d 0 p (omega arith) k 0 (omega arith) ∙ powers_at p h k m
    go (no m) =
        let j = k - order in
        let e : k ≡ order + j = omega arith in
        let r : k % order ≡ j = omega arith in
        ap (λ (n : ℕ). get_or (written once order p) n 0) e ∙ written_inside once order p room j 0 (omega arith)
        ∙ powers_at p h j (omega arith) ∙ ap (power α) (sym r) ∙ power_wrap k
