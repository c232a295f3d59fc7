-- What is claimed of the reading of octets; proofs/Once.antt proves each claim.
--
--   DecodedUnique    any two answers that the promise of decoding a text allows are equal, and so is what they leave in what was lent
--   GivenUnique      .. of decoding a word, and the place from which on the next is read
--
-- Assumes nothing.
use Rattle.std.specs.Prelude.{◌≡◌, List, ℕ, Option}
use Rattle.text.specs.Hex.{IsDecoded, IsGiven}

abbrev pub DecodedUnique : Type 0
DecodedUnique =
    (s out after left : List ℕ) (r q : Option ℕ) → IsDecoded s out r after → IsDecoded s out q left → (r ≡ q) × (after ≡ left)

abbrev pub GivenUnique : Type 0
GivenUnique =
    (s : List ℕ) (to : ℕ) (out after left : List ℕ) (r q : Option ℕ) (at place : ℕ) → IsGiven s to out r at after → IsGiven s to out q place left
    → (r ≡ q) × (at ≡ place) × (after ≡ left)
