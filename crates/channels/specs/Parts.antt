-- A part of a list that starts where it lies (document 01, "Demultiplexer").
--
--   part_at xs start n   n of xs from start on; nothing, where that is not within xs
--
-- Assumes nothing.
use Rattle.std.specs.Prelude.{cond, List, [], ℕ, ◌+◌, leb, length, take, drop}

unfoldable pub part_at : List ℕ → (start n : ℕ) → List ℕ
part_at xs start n = cond (leb (start + n) (length xs)) (take n (drop start xs)) []
