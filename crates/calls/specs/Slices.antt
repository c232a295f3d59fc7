-- A slice that a function is given, as its promise speaks of it.
--
--   Slice         a lent slice that may be written: its contents as they come, and as the call leaves them
--   SharedSlice   .. that is only read
--
-- Assumes nothing.
use Rattle.std.specs.Prelude.{List, ℕ}
use Rattle.std.specs.Borrow.{Bor, MutBor}
use denote.Triple.Both.{Both}

abbrev pub Slice : Type 0
Slice = Both (MutBor (List ℕ)) (MutBor (List ℕ))

abbrev pub SharedSlice : Type 0
SharedSlice = Both (Bor (List ℕ)) (Bor (List ℕ))
