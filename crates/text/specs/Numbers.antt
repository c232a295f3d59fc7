-- Decimal numbers.
--
--   between a b c      c is a or more, and b or less
--   is_digit c          the octet is a decimal digit
--   decimal_on v s      the number of v's digits and those of s behind them
--   decimal s          the number whose digits s has
--   capped n           n, or 4,294,967,296 for a number past 4,294,967,295
--   digits_there s at   the number of the digits s, which stand at a place, and the place behind them; none where s is empty
--   decimal_at          .. of the digits that stand at a place
--   is_number s         s is digits, one or more, of a number to 4,294,967,295
--   number_of s         the number of the word s, or none
--
-- Assumes nothing.
use Rattle.std.specs.Prelude.{Bool, cond, ◌&&◌, List, [], ◌∷◌, ℕ, ◌+◌, ◌-◌, ◌*◌, Option, Some, None, eqb, leb, ltb, length, drop}
use Rattle.std.specs.List.{prefix_len, take_while}

unfoldable pub between : ℕ → ℕ → ℕ → Bool
between a b c = leb a c && leb c b

abbrev pub is_digit : ℕ → Bool
is_digit c = between 48 57 c

unfoldable pub decimal_on : ℕ → List ℕ → ℕ
decimal_on v [] = v
decimal_on v (c ∷ s) = decimal_on (v * 10 + (c - 48)) s

abbrev pub decimal : List ℕ → ℕ
decimal s = decimal_on 0 s

abbrev pub capped : ℕ → ℕ
capped n = cond (ltb 4294967295 n) 4294967296 n

abbrev pub digits_there : List ℕ → ℕ → Option (ℕ × ℕ)
digits_there [] at = None
digits_there (c ∷ s) at = Some (capped (decimal (c ∷ s)), at + length (c ∷ s))

abbrev pub decimal_at : List ℕ → ℕ → Option (ℕ × ℕ)
decimal_at text at = digits_there (take_while is_digit (drop at text)) at

abbrev pub is_number : List ℕ → Bool
is_number s = eqb (prefix_len is_digit s) (length s) && ltb 0 (length s) && ltb (decimal s) 4294967296

abbrev pub number_of : List ℕ → Option ℕ
number_of s = cond (is_number s) (Some (decimal s)) None
