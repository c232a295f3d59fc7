-- What is claimed of the code; proofs/Theorems.antt proves each claim.
--
--   times k q g         the product of the polynomials q, of k coefficients, and g, modulo 2
--   count k f           how many of f 0, .., f (k - 1) hold
--   total k f           f 0 + .. + f (k - 1)
--   bit_at n j          bit j + 1 of n
--   ParityIs            the equation of B.3.2.1.3: P(j) is the sum of M(i, j) times the data's bit i, modulo 2, the matrix being transposed
--   RowsAre             the data's bit i alone has row i for its parity
--   Systematic          the data and the parity stand in the word, each in its 12 bits
--   Generated           the first 23 bits of a word are a multiple of the clause's polynomial: so the matrix is the one that it gives
--   EvenOnes            .. and the 24th makes the number of ones even
--   LeastOnes           every word but that of 0 has at least 8 ones, over all 4,096 messages
--   FarApart            so two words differ in at least 8 bits
--   DistanceCounts      the distance of two words of 24 bits is the number of places at which they differ
--   FoundExactly        data are found exactly if their word lies within three bits
--   NothingExactly      none are found exactly if no word does
--   OnlyOne             never two within three
--   Golay               all of these
--
-- Assumes nothing.
use Rattle.std.specs.Prelude.{◌≡◌, ◌↔◌, ◌≢◌, Bool, cond, not, ℕ, zero, suc, ◌+◌, ◌*◌, ◌/◌, ◌%◌, ◌^◌, ◌≤◌, ◌<◌, eqb, length, get_or, Some, None}
use Rattle.std.specs.Int.Bits.{bit_xor}
use Rattle.std.specs.Int.Count.{ones}
use Rattle.golay.specs.Matrix.{matrix, polynomial}
use Rattle.golay.specs.Code.{parity, code_word, distance, Within, nearest}

abbrev pub times : ℕ → ℕ → ℕ → ℕ
times zero q g = 0
times (suc k) q g = bit_xor (q % 2 * g) (2 * times k (q / 2) g)

abbrev pub count : ℕ → (ℕ → Bool) → ℕ
count zero f = 0
count (suc k) f = cond (f k) 1 0 + count k f

abbrev pub total : ℕ → (ℕ → ℕ) → ℕ
total zero f = 0
total (suc k) f = f k + total k f

abbrev pub bit_at : ℕ → ℕ → ℕ
bit_at n j = n / 2 ^ j % 2

abbrev pub ParityIs : Type 0
ParityIs = (d j : ℕ) → j < 12 → bit_at (parity d) j ≡ total 12 (λ i. bit_at (get_or matrix i 0) j * bit_at d i) % 2

abbrev pub RowsAre : Type 0
RowsAre = (length matrix ≡ 12) × ((i : ℕ) → i < 12 → parity (2 ^ i) ≡ get_or matrix i 0)

abbrev pub Systematic : Type 0
Systematic = (d : ℕ) → d < 2 ^ 12 → (code_word d % 2 ^ 12 ≡ d) × (code_word d / 2 ^ 12 ≡ parity d) × (parity d < 2 ^ 12)

abbrev pub Generated : Type 0
Generated = (d : ℕ) → d < 2 ^ 12 → (q : ℕ) × (q < 2 ^ 12) × (code_word d % 2 ^ 23 ≡ times 12 q polynomial)

abbrev pub EvenOnes : Type 0
EvenOnes = (d : ℕ) → d < 2 ^ 12 → ones (code_word d) % 2 ≡ 0

abbrev pub LeastOnes : Type 0
LeastOnes = (d : ℕ) → 0 < d → d < 2 ^ 12 → 8 ≤ ones (code_word d)

abbrev pub FarApart : Type 0
FarApart = (d c : ℕ) → d < 2 ^ 12 → c < 2 ^ 12 → d ≢ c → 8 ≤ distance (code_word d) (code_word c)

abbrev pub DistanceCounts : Type 0
DistanceCounts = (a b : ℕ) → a < 2 ^ 24 → b < 2 ^ 24 → distance a b ≡ count 24 (λ j. not (eqb (bit_at a j) (bit_at b j)))

abbrev pub FoundExactly : Type 0
FoundExactly = (w d : ℕ) → nearest w ≡ Some d ↔ ((d < 2 ^ 12) × (distance w (code_word d) ≤ 3))

abbrev pub NothingExactly : Type 0
NothingExactly = (w : ℕ) → nearest w ≡ None ↔ ((d : ℕ) → Within w d → ⊥)

abbrev pub OnlyOne : Type 0
OnlyOne = (w d c : ℕ) → Within w d → Within w c → d ≡ c

pub record Golay : Type 0 where
  pub parity_is : ParityIs
  pub rows_are : RowsAre
  pub systematic : Systematic
  pub generated : Generated
  pub even_ones : EvenOnes
  pub least_ones : LeastOnes
  pub far_apart : FarApart
  pub distance_counts : DistanceCounts
  pub found_exactly : FoundExactly
  pub nothing_exactly : NothingExactly
  pub only_one : OnlyOne
