-- A word by its places: what the steps of the repair speak of.
--
--   places w       the series whose coefficient at p is the element at place p of w, counted from 0 at the first octet
--   locators n     the series of the locators of the n places of a word: that of place p is α to the n - 1 - p
--   inverses n     the series of their inverses
--   value w x      the value at x of the polynomial of w
--
-- Assumes nothing.
use Rattle.std.specs.Prelude.{List, ℕ, suc, ◌-◌, length, get_or}
use Rattle.algebra.specs.Series.{Series}
use Rattle.algebra.specs.Power.{pow}
use Rattle.algebra.specs.Polynomial.{polynomial}
use Rattle.algebra.specs.Value.{ev}
use Rattle.field.specs.Octet.{order}
use Rattle.codeword.specs.Element.{elements, α}
use Rattle.codeword.specs.CodeWord.{word}

unfoldable pub places : List ℕ → Series elements
places w p = get_or (word w) p elements.nil

unfoldable pub locators : ℕ → Series elements
locators n p = pow elements α (n - suc p)

unfoldable pub inverses : ℕ → Series elements
inverses n p = pow elements α (order - (n - suc p))

unfoldable pub value : List ℕ → elements.Carrier → elements.Carrier
value w x = ev elements (length w) (polynomial elements (word w)) x
