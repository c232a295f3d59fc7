-- Words within three bits of another: at most one is of the code.
--
--   word_far        the words of two data differ in at least 8 bits
--   within_one      no word has two of the code within three bits
--   nearest_found   the data that `nearest` gives, and those alone, have their word within three bits
--   nearest_none    .. and it gives none exactly if there are none
--
-- Assumes nothing.
use mathlib.Core.Path.{◌≡◌, refl, ap, ◌∙◌}
use mathlib.Core.Logic.{⊎_elim}
use mathlib.Core.Bool.{Bool, true, false, cond}
use Prim.Native.Nat.{ℕ, zero, suc, ◌+◌, ◌≤◌, ◌<◌}
use native.Mathlib.Nat.{not-suc-le-zero, le_of_suc-le-suc, eq-or-lt_of_le, pos_of_ne-zero}
use native.Mathlib.Decide.{ℕ_discrete}
use native.Mathlib.Omega.{arith}
use borrow.Author.Tests.{leb-true, leb-false}
use lib.Bits.{bit_xor, xor_lt, xor_self}
use Rattle.octets.specs.Tests.{never}
use Rattle.octets.specs.Xor.{xor_none, xor_swap}
use Rattle.golay.specs.Code.{code_word, distance, most_wrong, Within, is_near, first_near, nearest}
use Rattle.golay.specs.Claims.{FarApart, OnlyOne, FoundExactly, NothingExactly}
use Rattle.std.specs.Prelude.{Option}
use Rattle.std.specs.Prelude.{Some, None}
use Rattle.golay.proofs.Ones.{ones_triangle}
use Rattle.golay.proofs.Linear.{word_xor}
use Rattle.golay.proofs.Weights.{word_least}

pub word_far : FarApart
word_far d c h l ne =
    rw (← (word_xor d c h l)) (word_least (bit_xor d c) (pos_of_ne-zero (λ e. ne (xor_none d c e))) (xor_lt 12 d c h l))

-- by way of w, which cancels
distance-by : (w a b : ℕ) → distance a b ≤ distance w a + distance w b
distance-by w a b = rw (← cancel) (ones_triangle (bit_xor w a) (bit_xor w b))
  where
    cancel : bit_xor (bit_xor w a) (bit_xor w b) ≡ bit_xor a b
    cancel = xor_swap w a w b ∙ ap (λ (x : ℕ). bit_xor x (bit_xor a b)) (xor_self w)

pub within_one : OnlyOne
within_one w d c p q = by (ℕ_discrete d c)
  where
    by : Dec (d ≡ c) → d ≡ c
    by (yes e) = e
    by (no ne) = absurd (omega (arith, distance-by w (code_word d) (code_word c), word_far d c p.0 q.0 ne, p.1, q.1))

-- ---- the first that is found

first_found : (n w d : ℕ) → first_near n w ≡ Some d → (d < n) × (distance w (code_word d) ≤ most_wrong)
unfolding first_near
first_found zero w d e = never (cc)
first_found (suc n) w d e = by (first_found n w d) (is_near w n) refl e
  where
    by : (first_near n w ≡ Some d → (d < n) × (distance w (code_word d) ≤ most_wrong)) → (t : Bool) → is_near w n ≡ t
        → cond t (Some n) (first_near n w) ≡ Some d → (d < suc n) × (distance w (code_word d) ≤ most_wrong)
    by before true t f =
        let same : n ≡ d = cc in
        (omega arith, rw (← same) (leb-true (distance w (code_word n)) most_wrong t))
    by before false t f = let r = before f in (omega (arith, r.0), r.1)

first_none : (n w : ℕ) → first_near n w ≡ None → (d : ℕ) → d < n → distance w (code_word d) ≤ most_wrong → ⊥
unfolding first_near
first_none zero w e d h l = not-suc-le-zero h
first_none (suc n) w e d h l = by (λ f m. first_none n w f d m l) (is_near w n) refl e
  where
    here : is_near w n ≡ false → d ≡ n → ⊥
    here t q = let far = leb-false (distance w (code_word n)) most_wrong t in omega (arith, far, rw q at l)

    by : (first_near n w ≡ None → d < n → ⊥) → (t : Bool) → is_near w n ≡ t → cond t (Some n) (first_near n w) ≡ None → ⊥
    by before true t f = never (cc)
    by before false t f = ⊎_elim (here t) (before f) (eq-or-lt_of_le (le_of_suc-le-suc h))

found_within : (w d : ℕ) → nearest w ≡ Some d → Within w d
unfolding nearest
found_within w d = first_found 4096 w d

none_within : (w : ℕ) → nearest w ≡ None → (d : ℕ) → Within w d → ⊥
unfolding nearest
none_within w e d p = first_none 4096 w e d p.0 p.1

pub nearest_found : FoundExactly
nearest_found w d = (found_within w d, λ p. by p (nearest w) refl)
  where
    by : Within w d → (r : Option ℕ) → nearest w ≡ r → nearest w ≡ Some d
    by p (Some c) e = e ∙ ap Some (within_one w c d (found_within w c e) p)
    by p None e = absurd (none_within w e d p)

pub nearest_none : NothingExactly
nearest_none w = (none_within w, λ f. by f (nearest w) refl)
  where
    by : ((d : ℕ) → Within w d → ⊥) → (r : Option ℕ) → nearest w ≡ r → nearest w ≡ None
    by f (Some c) e = absurd (f c (found_within w c e))
    by f None e = e
