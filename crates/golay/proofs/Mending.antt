-- What the search tries: data with a one at place i and others only behind it.
--
--   row i              row i of the matrix
--   unit_is            the code's 1 << i
--   unit_fits          .. which added to 12 bits is no number too large
--   mod_lower          whole multiples of a power of two are so of a lower one
--   mends_nothing      no bit is changed where the syndrome has few ones
--   mends_added        data that mend what row i leaves do so with a one at place i
--   mends-behind       where none mend what row i leaves, no data that mend have their first one at place i
--   mends_no_more      data without ones mend nothing but a syndrome with few ones
--   mends_none_left    nor do any where no bit may be wrong
--
-- Assumes nothing.
use mathlib.Core.Path.{◌≡◌, refl, sym, ap, ap₂, ◌∙◌}
use Prim.Native.Nat.{ℕ, zero, suc, ◌+◌, ◌-◌, ◌*◌, ◌/◌, ◌%◌, ◌^◌, ◌≤◌, ◌<◌}
use native.Mathlib.Nat.{add-zero, zero-add, one-mul, zero-mul, mod-lt, mod_self, zero-mod, mul-mod_left, mod-eq_of_lt, lt_of_lt_of_le}
use native.Mathlib.Omega.{arith}
use lib.Bits.{bit_xor, xor_lt, xor_mod, xor_comm, xor_shifted, xor_zero_r}
use lib.Count.{ones, ones_cat}
use lib.ListN.{get_or}
use lib.Dec.{lit<}
use lib.Pow.{pow_pos, pow_mono, pow-lt, shl_exact, split, mod-pow-add, mod-mod-pow}
use Rattle.octets.specs.Xor.{xor_assoc}
use Rattle.golay.specs.Matrix.{matrix}
use Rattle.golay.specs.Code.{parity}
use Rattle.golay.specs.Claims.{bit_at}
use Rattle.golay.specs.Search.{Mends, Searched}
use Rattle.std.specs.Prelude.{None}
use Rattle.golay.proofs.Ones.{ones-zero, ones_none, ones_power}
use Rattle.golay.proofs.Linear.{parity_xor, parity-zero, parity-row}

abbrev pub row : ℕ → ℕ
row i = get_or matrix i 0

pub unit_is : (i : ℕ) → i < 12 → 1 * 2 ^ i % 2 ^ 32 ≡ 2 ^ i
unit_is i h = shl_exact 1 i 32 (lit< tt) (omega arith) ∙ one-mul (2 ^ i)

pub unit_fits : (v i : ℕ) → v < 2 ^ 12 → i < 12 → v + 1 * 2 ^ i % 2 ^ 32 < 2 ^ 32
unit_fits v i l h = rw (unit_is i h) (omega (arith, l, pow-lt h))

-- ---- a number with nothing below place k

whole : (k v : ℕ) → v % 2 ^ k ≡ 0 → v ≡ v / 2 ^ k * 2 ^ k
whole k v e = sym (split v k) ∙ ap (λ (x : ℕ). v / 2 ^ k * 2 ^ k + x) e ∙ add-zero (v / 2 ^ k * 2 ^ k)

pub mod_lower : (j k v : ℕ) → j ≤ k → v % 2 ^ k ≡ 0 → v % 2 ^ j ≡ 0
mod_lower j k v h e =
    let s : k ≡ k - j + j = omega arith in
    sym (mod-mod-pow v (k - j) j) ∙ ap (λ (x : ℕ). x % 2 ^ j) (ap (λ (x : ℕ). v % 2 ^ x) (sym s) ∙ e) ∙ zero-mod (2 ^ j)

-- ---- a one added below it

module _ (i v : ℕ) (e : v % 2 ^ (i + 1) ≡ 0) where
  below : 2 ^ i < 2 ^ (i + 1)
  below = pow-lt (omega arith)

  added_xor : v + 2 ^ i ≡ bit_xor v (2 ^ i)
  added_xor =
      ap (λ (x : ℕ). x + 2 ^ i) (whole (i + 1) v e) ∙ sym (xor_shifted (v / 2 ^ (i + 1)) (i + 1) (2 ^ i) below)
      ∙ ap (λ (x : ℕ). bit_xor x (2 ^ i)) (sym (whole (i + 1) v e))

  added_ones : ones (v + 2 ^ i) ≡ ones v + 1
  added_ones =
      let q = v / 2 ^ (i + 1) in
      let high : ones v ≡ ones q + 0 =
      ap ones (whole (i + 1) v e ∙ sym (add-zero (q * 2 ^ (i + 1)))) ∙ ones_cat (i + 1) q 0 (pow_pos (i + 1)) ∙ ap (λ (x : ℕ). ones q + x) ones-zero in
      ap (λ (x : ℕ). ones (x + 2 ^ i)) (whole (i + 1) v e) ∙ ones_cat (i + 1) q (2 ^ i) below
      ∙ ap₂ (λ (x y : ℕ). x + y) (sym (add-zero (ones q)) ∙ sym high) (ones_power i)

  -- one bit of the data more is wrong, and row i is added to the syndrome
  added_wrong : (s : ℕ) → i < 12
      → ones (v + 2 ^ i) + ones (bit_xor s (parity (v + 2 ^ i))) ≡ suc (ones v + ones (bit_xor (bit_xor s (row i)) (parity v)))
  added_wrong s h =
      let p : bit_xor s (parity (v + 2 ^ i)) ≡ bit_xor (bit_xor s (row i)) (parity v) =
      ap (bit_xor s)
      (ap parity added_xor ∙ parity_xor v (2 ^ i) ∙ xor_comm (parity v) (parity (2 ^ i)) ∙ ap (λ (x : ℕ). bit_xor x (parity v)) (parity-row i h))
      ∙ sym (xor_assoc s (row i) (parity v)) in
      ap₂ (λ (x y : ℕ). x + ones y) added_ones p ∙ omega arith

pub mends_added : (s from left i v : ℕ) → from ≤ i → i < 12 → 0 < left
    → Mends (bit_xor s (row i)) (i + 1) (left - 1) v → Mends s from left (v + 2 ^ i)
mends_added s from left i v f h p m = record {
  small = rw (added_xor i v m.behind) (xor_lt 12 v (2 ^ i) m.small (pow-lt h));
  behind = rw (added_xor i v m.behind) (
      xor_mod v (2 ^ i) from
      ∙ ap₂ bit_xor (mod_lower from (i + 1) v (omega arith) m.behind) (mod_lower from i (2 ^ i) f (mod_self (2 ^ i)))
      );
  few = omega (arith, added_wrong i v m.behind s h, m.few, p);
}

pub mends-behind : (s from left i : ℕ) → i < 12 → Searched (bit_xor s (row i)) (i + 1) (left - 1) None
    → (u : ℕ) → Mends s from left u → u % 2 ^ i ≡ 0 → u % 2 ^ (i + 1) ≡ 0
mends-behind s from left i h none u m e = by (bit_at u i) refl
  where
    v : ℕ
    v = u / 2 ^ (i + 1) * 2 ^ (i + 1)

    clear : v % 2 ^ (i + 1) ≡ 0
    clear = mul-mod_left (u / 2 ^ (i + 1)) (2 ^ (i + 1))

    low : (b : ℕ) → bit_at u i ≡ b → u % 2 ^ (i + 1) ≡ b * 2 ^ i
    low b q =
        ap (λ (x : ℕ). u % 2 ^ x) (omega arith) ∙ mod-pow-add u 1 i ∙ ap₂ (λ (x y : ℕ). x * 2 ^ i + y) q e ∙ add-zero (b * 2 ^ i)

    by : (b : ℕ) → bit_at u i ≡ b → u % 2 ^ (i + 1) ≡ 0
    by zero q = low 0 q ∙ zero-mul (2 ^ i)
    by (suc zero) q =
        let sum : u ≡ v + 2 ^ i = sym (split u (i + 1)) ∙ ap (λ (x : ℕ). v + x) (low 1 q ∙ one-mul (2 ^ i)) in
        absurd (none v (record {
          small = omega (arith, m.small, sum);
          behind = clear;
          few = omega (arith, added_wrong i v clear s h, rw sum at m.few);
        }))
    by (suc (suc b)) q = absurd (omega (arith, mod-lt (u / 2 ^ i) (pow_pos 1)))

-- ---- no one at all

nothing_wrong : (s : ℕ) → ones 0 + ones (bit_xor s (parity 0)) ≡ ones s
nothing_wrong s =
    ap₂ (λ (x y : ℕ). x + ones (bit_xor s y)) ones-zero parity-zero ∙ zero-add (ones (bit_xor s 0)) ∙ ap ones (xor_zero_r s)

pub mends_nothing : (s from left : ℕ) → ones s ≤ left → Mends s from left 0
mends_nothing s from left h = record { small = pow_pos 12; behind = zero-mod (2 ^ from); few = rw (nothing_wrong s) h }

empty : (s from left u : ℕ) → left < ones s → Mends s from left u → u ≡ 0 → ⊥
empty s from left u h m e = omega (arith, nothing_wrong s, h, rw e at m.few)

pub mends_no_more : (s from left i : ℕ) → left < ones s → 12 ≤ i → (u : ℕ) → Mends s from left u → u % 2 ^ i ≡ 0 → ⊥
mends_no_more s from left i h l u m e =
    empty s from left u h m (sym (mod-eq_of_lt (lt_of_lt_of_le m.small (pow_mono l))) ∙ e)

pub mends_none_left : (s from left : ℕ) → left < ones s → left ≡ 0 → (u : ℕ) → Mends s from left u → ⊥
mends_none_left s from left h z u m = empty s from left u h m (ones_none u (omega (arith, m.few, z)))
