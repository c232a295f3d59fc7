-- How the decoding of a text ends, and of a word.
--
--   compared         the library's comparison of two texts is the test for sameness
--   decoded_dash     `-` stands for no octets
--   decoded-short    another text of less than a pair is bad, and leaves what was lent as it was
--   decoded_past     .. as does one for more octets than are lent
--   decoded_broken   .. and one that is not pairs of digits
--   decoded_good     any other is not bad
--
-- Assumes nothing.
use Rattle.std.proofs.Common.{◌≡◌, refl, sym, ap, Bool, true, false, ◌&&◌, Some, None, List, [], ◌∷◌, ℕ, ◌*◌, ◌≤◌, ◌<◌, arith, lt-ltb, le-leb, eqb, leb, ltb, length}
use Rattle.std.proofs.lemmas.Bool.{lt-leb}
use lib.Pointwise.{pointwise}
use Rattle.octets.specs.Same.{same, same-equal}
use Rattle.octets.specs.Tests.{second_false, third_false}
use Rattle.octets.specs.Written.{written, written_nothing}
use Rattle.text.specs.Hex.{is_hex, octets_of, is_octets, IsDecoded}

pub compared : (s t : List ℕ) → pointwise eqb s t ≡ same s t
compared [] [] = refl
compared [] (b ∷ t) = refl
compared (a ∷ s) [] = refl
compared (a ∷ s) (b ∷ t) = ap (λ (x : Bool). eqb a b && x) (compared s t)

short : (s : List ℕ) (b : Bool) → length s < 2 → ltb 0 (length s) && is_hex s && b ≡ false
unfolding is_hex
short [] b k = refl
short (x ∷ []) b k = refl
short (x ∷ y ∷ s) b k = absurd (omega arith)

module _ (s out : List ℕ) where
  pub decoded_dash : same s (45 ∷ []) ≡ true → IsDecoded s out (Some 0) out
  unfolding octets_of
  decoded_dash e =
      let dash : s ≡ 45 ∷ [] = same-equal s (45 ∷ []) (rw e tt) in
      record {
        answer = rw (e, dash);
        stands = rw (e, dash) (sym (written_nothing out 0));
      }

  module _ (h : same s (45 ∷ []) ≡ false) where
    bad : ltb 0 (length s) && is_hex s && leb (length s) (2 * length out) ≡ false → IsDecoded s out None out
    bad e = record { answer = rw (h, e); stands = rw (h, e) }

    pub decoded-short : length s < 2 → IsDecoded s out None out
    decoded-short k = bad (short s _ k)

    pub decoded_past : 2 * length out < length s → IsDecoded s out None out
    decoded_past k = bad (third_false (ltb 0 (length s)) (is_hex s) _ (lt-leb (length s) (2 * length out) k))

    pub decoded_broken : is_hex s ≡ false → IsDecoded s out None out
    decoded_broken e = bad (second_false (ltb 0 (length s)) (is_hex s) _ e)

    pub decoded_good : 0 < length s → is_hex s ≡ true → length s ≤ 2 * length out
        → (n : ℕ) (out' : List ℕ) → n ≡ length (octets_of s) → out' ≡ written out 0 (octets_of s) → IsDecoded s out (Some n) out'
    decoded_good p q r n out' k w =
        let fits : is_octets s (length out) ≡ true = rw (h, lt-ltb 0 (length s) p, q, le-leb (length s) (2 * length out) r) in
        record { answer = rw (fits, k); stands = rw (fits, w) }
