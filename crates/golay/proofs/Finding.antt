-- From the search for wrong bits to the data.
--
--   syndrome w          a word's parity plus the parity of its data
--   found-nearest       data that the search gives, added to the word's, are the nearest
--   nothing-nearest     .. and where it gives none, none are near
--   nearest_by          both
--   data_bits           the word's data, as the code takes them from it
--
-- Assumes nothing.
use mathlib.Core.Path.{◌≡◌, sym, ap, ap₂, ◌∙◌}
use Prim.Native.Nat.{ℕ, ◌+◌, ◌*◌, ◌/◌, ◌%◌, ◌^◌, ◌<◌}
use native.Mathlib.Nat.{mod-lt, mod-one, add_comm}
use lib.Bits.{bit_and, bit_xor, and_mask, xor_lt, xor_comm, xor_block}
use lib.Count.{ones, ones_cat}
use lib.Pow.{pow_pos, split}
use Rattle.octets.specs.Xor.{xor_assoc, xor_again}
use Rattle.golay.specs.Code.{parity, code_word, distance, most_wrong, Within, nearest}
use Rattle.golay.specs.Search.{Mends, Searched}
use Rattle.std.specs.Prelude.{Some, None}
use Rattle.golay.proofs.Linear.{parity_xor}
use Rattle.golay.proofs.Near.{nearest_found, nearest_none}

abbrev pub syndrome : ℕ → ℕ
syndrome w = bit_xor (parity (w % 2 ^ 12)) (w / 2 ^ 12)

module _ (w : ℕ) where
  data-lt : w % 2 ^ 12 < 2 ^ 12
  data-lt = mod-lt w (pow_pos 12)

  -- the word differs at the ones of u, and at those of the syndrome plus the parity of u
  wrong-bits : (u : ℕ) → u < 2 ^ 12 → distance w (code_word (bit_xor (w % 2 ^ 12) u)) ≡ ones u + ones (bit_xor (syndrome w) (parity u))
  wrong-bits u h =
      let d = w % 2 ^ 12 in
      let hi = w / 2 ^ 12 in
      let c = bit_xor d u in
      let parts : bit_xor w (code_word c) ≡ bit_xor hi (parity c) * 2 ^ 12 + bit_xor d c =
      ap (λ (x : ℕ). bit_xor x (code_word c)) (sym (split w 12)) ∙ xor_block 12 hi (parity c) d c data-lt (xor_lt 12 d u data-lt h) in
      let above : bit_xor hi (parity c) ≡ bit_xor (syndrome w) (parity u) =
      ap (bit_xor hi) (parity_xor d u) ∙ sym (xor_assoc hi (parity d) (parity u)) ∙ ap (λ (x : ℕ). bit_xor x (parity u)) (xor_comm hi (parity d)) in
      ap ones (parts ∙ ap₂ (λ (x y : ℕ). x * 2 ^ 12 + y) above (xor_again d u))
      ∙ ones_cat 12 (bit_xor (syndrome w) (parity u)) u h ∙ add_comm (ones (bit_xor (syndrome w) (parity u))) (ones u)

  pub found-nearest : (u : ℕ) → Mends (syndrome w) 0 most_wrong u → nearest w ≡ Some (bit_xor (w % 2 ^ 12) u)
  found-nearest u m =
      (nearest_found w (bit_xor (w % 2 ^ 12) u)).1
      (xor_lt 12 (w % 2 ^ 12) u data-lt m.small, rw (wrong-bits u m.small) m.few)

  pub nothing-nearest : Searched (syndrome w) 0 most_wrong None → nearest w ≡ None
  nothing-nearest none = (nearest_none w).1 (λ d p. none (bit_xor (w % 2 ^ 12) d) (mends d p))
    where
      mends : (d : ℕ) → Within w d → Mends (syndrome w) 0 most_wrong (bit_xor (w % 2 ^ 12) d)
      mends d p =
          let u = bit_xor (w % 2 ^ 12) d in
          let small = xor_lt 12 (w % 2 ^ 12) d data-lt p.0 in
          record {
            small = small;
            behind = mod-one u;
            few = rw (← (wrong-bits u small), xor_again (w % 2 ^ 12) d) p.1;
          }

pub data_bits : (w : ℕ) → bit_and w 4095 ≡ w % 2 ^ 12
data_bits w = and_mask w 12

pub ruleset nearest_by = (found-nearest, nothing-nearest)
