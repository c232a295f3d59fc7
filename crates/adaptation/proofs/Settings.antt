-- The words that may be received.
--
--   word_true     a word that may be received
--   word-all      .. and only then
--
-- Assumes nothing.
use mathlib.Core.Path.{◌≡◌}
use mathlib.Core.Bool.{true}
use Prim.Native.Nat.{ℕ, ◌+◌, ◌*◌, ◌≤◌}
use borrow.Author.Tests.{le-leb, leb-true}
use lib.Dec.{leb}
use Rattle.codeword.specs.CodeWord.{longest_word}
use Rattle.octets.specs.Tests.{both_true}
use Rattle.checks.specs.Width.{kind_at}
use Rattle.adaptation.specs.Receiving.{is_word}

module _ (m n e : ℕ) where
  abbrev least : ℕ
  least = 1 + (kind_at n).octets + 2 * e

  pub word_true : m ≤ longest_word → least ≤ m → is_word m n e ≡ true
  unfolding is_word
  word_true a b = rw (le-leb m longest_word a, le-leb least m b)

  pub word-all : is_word m n e ≡ true → (m ≤ longest_word) × (least ≤ m)
  unfolding is_word
  word-all h =
      let t = both_true (leb m longest_word) (leb least m) h in
      (leb-true m longest_word t.0, leb-true least m t.1)
