-- What the steps on the way to the syndromes answer. The word, with zeros in front to 255 octets, stands in 17 rows of 15; a row is 16 octets
-- side by side, of which the last is of no use.
--
--   RowAdded n o a f g        g is f, with n octets of a added to those from o on
--   spaced f s k              the series of f's entries k, s + k, 2 s + k, ..
--   Evaluated n x f s o a     lane i of a is the value at xᵢ of the polynomial of n coefficients f₍ₒ₊ᵢ₎, f₍ₛ₊ₒ₊ᵢ₎, ..
--   column w q                column q of the word w: the coefficients of x^q, x^(15 + q), .. of its polynomial
--   RowsAre w f               row d of f has the coefficients of x^(15 d + 14), .., x^(15 d) of the word w
--   residues, others          the taps of y⁸ = y⁷ + y⁶ + y⁴ + y² + y + 1, and of y⁸ = y⁵ + y⁴ + y³ + 1
--   Folding taps y            y⁸ is the sum of the powers of y that the taps name
--   Folded n taps f g         n rows of g are worth at each such y what 17 rows of f are
--   Spread n r a v u          u is v with the first n lanes of a as entry r of the rows 14, 13, ..
--   Known w r v               entries r, 48 + r, .. of v are the values of the columns of w at α^15r
--   Worth w n r f             n rows of f are worth at α^15r what the columns of w are
--   Filling n f c roots m v u
--                             of every word w whose columns the n rows of f are worth at the c roots: what v has of their values u has too, and it
--                             has those at α^15r for each root r up to m
--   Repeated n v u            u is v up to entry 17 of each row, and n of its rows have entries 1 to 16 again from entry 18 on
--   ColumnsAre m w v          entries 1 to 32 of the rows of v, as far as m, are the values of the columns of w
--
-- Assumes nothing.
use Rattle.std.specs.Prelude.{◌≡◌, ◌≢◌, ◌⊎◌, List, [], ◌∷◌, ℕ, ◌+◌, ◌-◌, ◌*◌, ◌≤◌, ◌<◌, length, get_or}
use Rattle.algebra.specs.Series.{Series}
use Rattle.algebra.specs.Power.{pow}
use Rattle.algebra.specs.Polynomial.{polynomial}
use Rattle.algebra.specs.Value.{ev, terms}
use Rattle.field.specs.Octet as Octet
use Rattle.codeword.specs.Element.{elements, element, α}
use Rattle.codeword.specs.Lanes.{lanes}
use Rattle.codeword.specs.CodeWord.{word}

pub record RowAdded (n o : ℕ) (a f g : List ℕ) : Type 0 where
  pub long : length g ≡ length f
  pub done : (i : ℕ) → i < n → get_or g (o + i) 0 ≡ Octet.sum (get_or f (o + i) 0) (get_or a i 0)
  pub left : (k : ℕ) → (k < o) ⊎ (o + n ≤ k) → get_or g k 0 ≡ get_or f k 0

unfoldable pub spaced : List ℕ → ℕ → ℕ → Series elements
spaced f s k d = element (get_or f (s * d + k) 0)

pub record Evaluated (n : ℕ) (x : ℕ → ℕ) (f : List ℕ) (s o : ℕ) (a : List ℕ) : Type 0 where
  pub long : length a ≡ lanes
  pub used : (i : ℕ) → i < lanes → element (get_or a i 0) ≡ ev elements n (spaced f s (o + i)) (element (x i))

unfoldable pub column : List ℕ → ℕ → Series elements
column w q d = polynomial elements (word w) (15 * d + q)

pub record RowsAre (w f : List ℕ) : Type 0 where
  pub used : (d p : ℕ) → d < 17 → p < 15 → element (get_or f (16 * d + p) 0) ≡ column w (14 - p) d

abbrev pub residues : List ℕ
residues = 0 ∷ 1 ∷ 2 ∷ 4 ∷ 6 ∷ 7 ∷ []

abbrev pub others : List ℕ
others = 0 ∷ 3 ∷ 4 ∷ 5 ∷ []

abbrev pub Folding : List ℕ → elements.Carrier → Type 0
Folding taps y = pow elements y 8 ≡ terms elements (length taps) (λ j. get_or taps j 0) y

pub record Folded (n : ℕ) (taps f g : List ℕ) : Type 0 where
  pub worth : (p : ℕ) (y : elements.Carrier) → p < lanes → Folding taps y
      → ev elements n (spaced g 16 p) y ≡ ev elements 17 (spaced f 16 p) y

pub record Spread (n r : ℕ) (a v u : List ℕ) : Type 0 where
  pub long : length u ≡ length v
  pub done : (i : ℕ) → i < n → get_or u (48 * (14 - i) + r) 0 ≡ get_or a i 0
  pub left : (k : ℕ) → ((i : ℕ) → i < n → k ≢ 48 * (14 - i) + r) → get_or u k 0 ≡ get_or v k 0

pub record Known (w : List ℕ) (r : ℕ) (v : List ℕ) : Type 0 where
  pub used : (q : ℕ) → q < 15 → element (get_or v (48 * q + r) 0) ≡ ev elements 17 (column w q) (pow elements α (15 * r))

pub record Worth (w : List ℕ) (n r : ℕ) (f : List ℕ) : Type 0 where
  pub worth : (p : ℕ) → p < 15 → ev elements n (spaced f 16 p) (pow elements α (15 * r)) ≡ ev elements 17 (column w (14 - p)) (pow elements α (15 * r))

pub record Filling (n : ℕ) (f : List ℕ) (c : ℕ) (roots : ℕ → ℕ) (m : ℕ) (v u : List ℕ) : Type 0 where
  pub stays : (w : List ℕ) → ((j : ℕ) → j < c → Worth w n (roots j) f) → (r : ℕ) → r < 48 → Known w r v → Known w r u
  pub filled : (w : List ℕ) → ((j : ℕ) → j < c → Worth w n (roots j) f) → (j : ℕ) → j < c → roots j ≤ m → Known w (roots j) u

pub record Repeated (n : ℕ) (v u : List ℕ) : Type 0 where
  pub long : length u ≡ length v
  pub behind : (q i : ℕ) → q < n → i < lanes → get_or u (48 * q + 18 + i) 0 ≡ get_or v (48 * q + 1 + i) 0
  pub left : (q i : ℕ) → i < 18 → get_or u (48 * q + i) 0 ≡ get_or v (48 * q + i) 0

abbrev pub ColumnsAre : ℕ → List ℕ → List ℕ → Type 0
ColumnsAre m w v = (r : ℕ) → 0 < r → r < 33 → r ≤ m → Known w r v
