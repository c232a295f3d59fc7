-- Octets added to others, place by place.
--
--   xors-more     one octet more added
--   take-xors     a front that has all the places to which octets are added
--   moved         octets and a zero behind them, with as many added: these, with the octets added
--   unstarted     a start of two zeros, added to the first two, changes nothing
--
-- Assumes nothing.
use mathlib.Core.Path.{◌≡◌, refl, sym, ap, ap₂, ◌∙◌}
use mathlib.Core.List.{List, [], ◌∷◌, ◌++◌}
use Prim.Native.Nat.{ℕ, zero, suc, ◌≤◌, ◌<◌}
use native.Mathlib.Omega.{arith}
use lib.Bits.{bit_xor, xor_zero_r}
use Rattle.std.proofs.lemmas.Nat.{xor_comm}
use lib.ListN.{length, get_or, set, take}
use Rattle.checks.specs.Steps.{xors}
use Rattle.checks.proofs.Fold.{xors-nothing}

pub xors-more : (u v : List ℕ) (k : ℕ) → k < length v → length v ≤ length u
    → set (xors u (take k v)) k (bit_xor (get_or (xors u (take k v)) k 0) (get_or v k 0)) ≡ xors u (take (suc k) v)
xors-more u [] k h l = absurd (omega arith)
xors-more [] (b ∷ v) k h l = absurd (omega arith)
xors-more (a ∷ u) (b ∷ v) zero h l = ap (λ (x : List ℕ). bit_xor a b ∷ x) (sym (xors-nothing u))
xors-more (a ∷ u) (b ∷ v) (suc k) h l = ap (λ (x : List ℕ). bit_xor a b ∷ x) (xors-more u v k (omega arith) (omega arith))

pub take-xors : (u v : List ℕ) (n : ℕ) → length v ≤ n → take n (xors u v) ≡ xors (take n u) v
take-xors [] v zero l = refl
take-xors [] v (suc n) l = refl
take-xors (a ∷ u) [] n l = sym (xors-nothing (take n (a ∷ u)))
take-xors (a ∷ u) (b ∷ v) zero l = absurd (omega arith)
take-xors (a ∷ u) (b ∷ v) (suc n) l = ap (λ (x : List ℕ). bit_xor a b ∷ x) (take-xors u v n (omega arith))

-- what a register holds, and a zero behind it, with a remainder added
pub moved : (r m : List ℕ) → length m ≡ suc (length r) → xors (r ++ 0 ∷ []) m ≡ xors m r
moved [] [] e = absurd (omega arith)
moved [] (b ∷ []) e = ap (λ (x : ℕ). x ∷ []) (xor_comm 0 b ∙ xor_zero_r b)
moved [] (b ∷ c ∷ m) e = absurd (omega arith)
moved (a ∷ r) [] e = absurd (omega arith)
moved (a ∷ r) (b ∷ m) e = ap₂ (λ (x : ℕ) (v : List ℕ). x ∷ v) (xor_comm a b) (moved r m (omega arith))

-- ---- a start of zeros

pub unstarted : (u : List ℕ) → xors u (0 ∷ 0 ∷ []) ≡ u
unstarted [] = refl
unstarted (x ∷ []) = ap (λ (a : ℕ). a ∷ []) (xor_zero_r x)
unstarted (x ∷ y ∷ u) = ap₂ (λ (a : ℕ) (v : List ℕ). a ∷ v) (xor_zero_r x) (ap₂ (λ (b : ℕ) (v : List ℕ). b ∷ v) (xor_zero_r y) (xors-nothing u))
