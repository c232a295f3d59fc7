-- Slots and pieces that stand in two lists, one of channels or places and one of lengths.
--
--   paired_at      what two lists give from place j on: what stands there, and what stands behind it
--   paired-end     .. and nothing, past the end
--   paired-next    one more in each
--   slotted-back   the channels and lengths of slots give these slots
--   total-append   the octets of pieces, one behind another
--
-- Assumes nothing.
use mathlib.Core.Path.{◌≡◌, refl, ap}
use mathlib.Core.List.{List, [], ◌∷◌, ◌++◌, map}
use Prim.Native.Nat.{ℕ, zero, suc, ◌+◌, ◌≤◌, ◌<◌}
use native.Mathlib.Nat.{le_of_suc-le-suc, not-suc-le-zero}
use native.Mathlib.Numerals.{add-one}
use native.Mathlib.Omega.{arith}
use lib.ListN.{length, drop, get_or}
use Rattle.table.specs.Slots.{Slot}
use Rattle.multiplex.specs.Pieces.{paired, Piece, total}
use Rattle.multiplex.specs.Walks.{slotted}

module _ {A : Type 0} (f : ℕ → ℕ → A) where
  at_suc : (xs ys : List ℕ) (j : ℕ) → j < length xs → j < length ys
      → drop j (paired f xs ys) ≡ f (get_or xs j 0) (get_or ys j 0) ∷ drop (suc j) (paired f xs ys)
  unfolding paired
  at_suc [] ys j h k = absurd (not-suc-le-zero h)
  at_suc (a ∷ xs) [] j h k = absurd (not-suc-le-zero k)
  at_suc (a ∷ xs) (b ∷ ys) zero h k = refl
  at_suc (a ∷ xs) (b ∷ ys) (suc j) h k = at_suc xs ys j (le_of_suc-le-suc h) (le_of_suc-le-suc k)

  pub paired_at : (xs ys : List ℕ) (j : ℕ) → j < length xs → j < length ys
      → drop j (paired f xs ys) ≡ f (get_or xs j 0) (get_or ys j 0) ∷ drop (j + 1) (paired f xs ys)
  paired_at xs ys j h k = rw (add-one j) (at_suc xs ys j h k)

  pub paired-end : (xs ys : List ℕ) (j : ℕ) → length xs ≤ j → drop j (paired f xs ys) ≡ []
  unfolding paired
  paired-end [] ys zero h = refl
  paired-end [] ys (suc j) h = refl
  paired-end (a ∷ xs) ys zero h = absurd (not-suc-le-zero h)
  paired-end (a ∷ xs) [] (suc j) h = refl
  paired-end (a ∷ xs) (b ∷ ys) (suc j) h = paired-end xs ys j (le_of_suc-le-suc h)

  pub paired-next : (xs ys : List ℕ) (a b : ℕ) → length xs ≡ length ys → paired f (xs ++ a ∷ []) (ys ++ b ∷ []) ≡ paired f xs ys ++ f a b ∷ []
  unfolding paired
  paired-next [] [] a b e = refl
  paired-next [] (n ∷ ys) a b e = absurd (omega arith)
  paired-next (m ∷ xs) [] a b e = absurd (omega arith)
  paired-next (m ∷ xs) (n ∷ ys) a b e = ap (λ (l : List A). f m n ∷ l) (paired-next xs ys a b (omega arith))

-- ---- pieces

pub total-append : (k l : List Piece) → total (k ++ l) ≡ total k + total l
unfolding total
total-append [] l = omega arith
total-append (q ∷ k) l = omega (arith, total-append k l)

-- ---- slots

pub slotted-back : (l : List Slot) → slotted (map (λ x. x.channel) l) (map (λ x. x.octets) l) ≡ l
unfolding paired
slotted-back [] = refl
slotted-back (x ∷ l) = ap (λ (r : List Slot). x ∷ r) (slotted-back l)
