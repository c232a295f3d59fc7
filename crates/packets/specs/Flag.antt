-- The flag of 16 bits (A.2.1.1, figure A.1), which opens and closes a packet, and its ones' complement, which as a closing flag is the closing mark
-- (B.3.3).
--
--   octet b8 .. b1    an octet in the figure's print, bit 8 first
--   complement a      the ones' complement of an octet
--   flag              the flag: E1 4D
--   flag_of m          the flag, and where m holds its complement, 1E B2
--   is_flag m u        u begins with it
--   is_complement f    f is the complement
--   flag_in u          which of the two u begins with, if it does with one
--   is_neither f       it does with neither
--
-- Assumes nothing.
use Rattle.std.specs.Prelude.{Bool, true, false, cond, List, [], ◌∷◌, map, ℕ, ◌+◌, ◌-◌, ◌*◌, take, Option, Some, None}
use Rattle.octets.specs.Same.{same}
use Rattle.packets.specs.declared.flags.Flag.{Flag}
use Rattle.packets.specs.declared.flags.Flag.TheVariants.{Plain, Complemented}

abbrev pub octet : (b8 b7 b6 b5 b4 b3 b2 b1 : ℕ) → ℕ
octet b8 b7 b6 b5 b4 b3 b2 b1 = b1 + 2 * (b2 + 2 * (b3 + 2 * (b4 + 2 * (b5 + 2 * (b6 + 2 * (b7 + 2 * b8))))))

abbrev pub complement : ℕ → ℕ
complement a = 255 - a

abbrev pub flag : List ℕ
flag = octet 1 1 1 0 0 0 0 1 ∷ octet 0 1 0 0 1 1 0 1 ∷ []

abbrev pub flag_of : Bool → List ℕ
flag_of false = flag
flag_of true = map complement flag

abbrev pub is_flag : Bool → List ℕ → Bool
is_flag m u = same (take 2 u) (flag_of m)

abbrev pub is_complement : Flag → Bool
is_complement Plain = false
is_complement Complemented = true

unfoldable pub flag_in : List ℕ → Option Flag
flag_in u = cond (is_flag false u) (Some Plain) (cond (is_flag true u) (Some Complemented) None)

abbrev pub is_neither : Option Flag → Bool
is_neither (Some f) = false
is_neither None = true
