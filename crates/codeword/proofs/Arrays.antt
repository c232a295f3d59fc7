-- The arrays in which the steps keep octets, and stores into lists of octets.
--
--   zeros         the array with which each step starts
--   replicate-is  every place of an array of one number has it
--   replicate-at  every place of an array of zeros has 0
--   zeros-at      .. of this one
--   zeros_octets  .. which is an octet
--   padded_is     what is written over zeros has zeros behind
--   padded-used, padded-unused   .. and of a list of which m are taken, these, and zeros behind
--   octets-set    a store of an octet keeps a list one of octets
--   set_below     what holds of every place below i, and of what is stored at i, holds of every place below i + 1
--
-- Assumes nothing.
use mathlib.Core.Path.{◌≡◌, refl, sym, ap, ◌∙◌}
use mathlib.Core.Logic.{inr}
use mathlib.Core.List.{List}
use Prim.Native.Nat.{ℕ, zero, suc, ◌+◌, ◌≤◌, ◌<◌}
use native.Mathlib.Nat.{zero-add}
use native.Mathlib.Omega.{arith}
use native.Mathlib.Decide.{ℕ_discrete, dec_lt}
use borrow.Author.Count.{below_more}
use lib.Dec.{lit<}
use lib.ListN.{length, get_or, set, take, replicate, length-replicate}
use lib.Seq.{get_or-set_same, get_or-set_other, set_out, get_or-take}
use Rattle.std.proofs.lemmas.List.{get_or_past, length-take}
use Rattle.octets.specs.Written.{written, written-length, written_inside, written_outside}
use Rattle.field.specs.Octet.{size}
use Rattle.codeword.specs.CodeWord.{longest_word, Octets}
use Rattle.codeword.specs.Register.{Padded}

abbrev pub zeros : List ℕ
zeros = replicate longest_word 0

pub replicate-is : (n x i : ℕ) → i < n → get_or (replicate n x) i 0 ≡ x
replicate-is zero x i l = absurd (omega arith)
replicate-is (suc n) x zero l = refl
replicate-is (suc n) x (suc i) l = replicate-is n x i (omega arith)

pub replicate-at : (n i : ℕ) → ◌≡◌ {A = ℕ} (get_or (replicate n 0) i 0) 0
replicate-at zero i = refl
replicate-at (suc n) zero = refl
replicate-at (suc n) (suc i) = replicate-at n i

pub zeros-at : (i : ℕ) → get_or zeros i 0 ≡ 0
zeros-at i = replicate-at longest_word i

pub zeros_octets : Octets zeros
zeros_octets i = rw (zeros-at i) (lit< tt)

pub padded_is : (z : ℕ) (u : List ℕ) → length u ≤ z → Padded z u (written (replicate z 0) 0 u)
padded_is z u l = record {
  long = written-length (replicate z 0) 0 u fits ∙ length-replicate {A = ℕ} z 0;
  entry = λ i. elim (dec_lt i (length u)) [
    | yes p ↦ ap (λ (j : ℕ). get_or (written (replicate z 0) 0 u) j 0) (sym (zero-add i)) ∙ written_inside (replicate z 0) 0 u fits i 0 p
    | no p ↦ written_outside (replicate z 0) 0 u fits i 0 (inr (omega arith)) ∙ replicate-at z i ∙ sym (get_or_past u i 0 (omega arith))
  ];
}
  where
    fits : 0 + length u ≤ length {A = ℕ} (replicate z 0)
    fits = rw (length-replicate {A = ℕ} z 0) (omega arith)

pub padded-used : {z m : ℕ} (u : List ℕ) {w : List ℕ} → Padded z (take m u) w → (j : ℕ) → j < m → get_or w j 0 ≡ get_or u j 0
padded-used {z} {m} u h j l = h.entry j ∙ get_or-take m u j 0 l

pub padded-unused : {z m : ℕ} (u : List ℕ) {w : List ℕ} → Padded z (take m u) w → (j : ℕ) → m ≤ j → get_or w j 0 ≡ 0
padded-unused {z} {m} u h j l = h.entry j ∙ get_or_past (take m u) j 0 (omega (arith, length-take m u))

pub octets-set : (l : List ℕ) (j v : ℕ) → v < size → Octets l → Octets (set l j v)
octets-set l j v h o i = go (ℕ_discrete i j) (dec_lt j (length l))
  where
    go : Dec (i ≡ j) → Dec (j < length l) → get_or (set l j v) i 0 < size
    go (no n) d = rw (get_or-set_other l j i v 0 n) (o i)
    go (yes e) (yes m) = rw (e, get_or-set_same l j v 0 m) h
    go (yes e) (no m) = rw (set_out l j v (omega arith)) (o i)

pub set_below : (P : ℕ → ℕ → Type 0) (x : List ℕ) (i v : ℕ) → i < length x → ((j : ℕ) → j < i → P j (get_or x j 0)) → P i v
    → (j : ℕ) → j < i + 1 → P j (get_or (set x i v) j 0)
set_below P x i v room old new =
    below_more (λ j. P j (get_or (set x i v) j 0)) i (λ j l. rw (get_or-set_other x i j v 0 (omega arith)) (old j l))
    (rw (get_or-set_same x i v 0 room) new)
