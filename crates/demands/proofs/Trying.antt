-- Words found by trying: what can be decided of each word of n octets can be decided of all of them.
--
--   Below m P       some number below m has P
--   tried-below     .. or none does
--   Word n P        some word of n octets has P
--   tried_words     .. or none does
--   tried-within    some code word lies within e octets of w, or none does
--
-- Assumes nothing.
use mathlib.Core.Path.{◌≡◌, refl, sym, ap, subst}
use mathlib.Core.Logic.{⊎_elim}
use mathlib.Core.Bool.{Bool, true, false}
use mathlib.Core.List.{List, [], ◌∷◌}
use Prim.Native.Nat.{ℕ, zero, suc, ◌*◌, ◌≤◌, ◌<◌}
use native.Mathlib.Nat.{le_of_suc-le-suc, not-suc-le-zero, eq-or-lt_of_le}
use native.Mathlib.Decide.{map_dec, dec_le}
use native.Mathlib.Omega.{arith}
use lib.Dec.{T, lit<}
use lib.ListN.{length}
use Rattle.field.specs.Octet.{size}
use Rattle.codeword.specs.CodeWord.{Octets, distance, Within, longest_word}
use Rattle.demands.proofs.Testing.{is_code, is_code_true, is_code_false}

-- ---- numbers

abbrev pub Below : ℕ → (ℕ → Type 0) → Type 0
Below m P = (a : ℕ) × (a < m) × P a

pub tried-below : (m : ℕ) (P : ℕ → Type 0) → ((a : ℕ) → a < m → Dec (P a)) → Dec (Below m P)
tried-below zero P d = no (λ s. not-suc-le-zero s.1)
tried-below (suc m) P d = by (d m (omega arith)) (tried-below m P (λ a h. d a (omega arith)))
  where
    by : Dec (P m) → Dec (Below m P) → Dec (Below (suc m) P)
    by (yes p) r = yes (m, omega arith, p)
    by (no n) (yes s) = yes (s.0, omega (arith, s.1), s.2)
    by (no n) (no r) =
        no (λ s. ⊎_elim (λ e. n (subst P e s.2)) (λ l. r (s.0, l, s.2)) (eq-or-lt_of_le (le_of_suc-le-suc s.1)))

-- ---- words

abbrev pub Word : ℕ → (List ℕ → Type 0) → Type 0
Word n P = (c : List ℕ) × (length c ≡ n) × Octets c × P c

octets-none : Octets []
octets-none i = lit< tt

octets-more : (a : ℕ) (c : List ℕ) → a < size → Octets c → Octets (a ∷ c)
octets-more a c h o zero = h
octets-more a c h o (suc i) = o i

empty : (P : List ℕ → Type 0) → Word 0 P → P []
empty P ([], l, o, p) = p
empty P (a ∷ c, l, o, p) = absurd (omega arith)

-- a word of n + 1 octets is an octet before one of n
split : (n : ℕ) (P : List ℕ → Type 0) → Word (suc n) P → Below size (λ a. Word n (λ c. P (a ∷ c)))
split n P ([], l, o, p) = absurd (omega arith)
split n P (a ∷ c, l, o, p) = (a, o 0, (c, (omega arith), (λ i. o (suc i)), p))

joined : (n : ℕ) (P : List ℕ → Type 0) → Below size (λ a. Word n (λ c. P (a ∷ c))) → Word (suc n) P
joined n P (a, h, (c, l, o, p)) = (a ∷ c, ap suc l, octets-more a c h o, p)

pub tried_words : (n : ℕ) (P : List ℕ → Type 0) → ((c : List ℕ) → length c ≡ n → Octets c → Dec (P c)) → Dec (Word n P)
tried_words zero P d = map_dec (λ p. ([], refl, octets-none, p)) (empty P) (d [] refl octets-none)
tried_words (suc n) P d =
    map_dec (joined n P) (split n P)
    (tried-below size (λ a. Word n (λ c. P (a ∷ c))) (λ a h. tried_words n (λ c. P (a ∷ c)) (λ c l o. d (a ∷ c) (ap suc l) (octets-more a c h o))))

-- ---- code words

module _ (e : ℕ) (w : List ℕ) (small : 2 * e < longest_word) where
  one-within : (c : List ℕ) → length c ≡ length w → Octets c → Dec (Within e w c)
  one-within c l o = by (is_code e c) refl (dec_le (distance w c) e)
    where
      by : (b : Bool) → is_code e c ≡ b → Dec (distance w c ≤ e) → Dec (Within e w c)
      by true p (yes h) = yes (record { long = l; code = is_code_true e c small o (subst T (sym p) tt); near = h })
      by true p (no h) = no (λ x. h x.near)
      by false p h = no (λ x. is_code_false e c small p x.code)

  pub tried-within : Dec ((c : List ℕ) × Within e w c)
  tried-within =
      map_dec (λ s. (s.0, s.3)) (λ s. (s.0, s.1.long, s.1.code.octets, s.1)) (tried_words (length w) (Within e w) one-within)
