-- What stands in the buffer of 4,096 octets once text was put: each full buffer went out before the next octet.
--
--   Rests   of what stood there before and the text behind it so many full buffers went out, and the rest stands there
use Rattle.std.specs.Prelude.{ℕ, ◌≡◌, ◌*◌, ◌≤◌, List, ◌++◌, length, drop}

pub record Rests (before text after : List ℕ) : Type 0 where
  pub times : ℕ
  pub within : 4096 * times ≤ length (before ++ text)
  pub rest : after ≡ drop (4096 * times) (before ++ text)
