-- How a reading ends, case by case.
--
--   read_no-flag      no flag in front
--   read_short        fewer than five octets
--   read_no_word      no word of the code within three bits of the header
--   read_unused       a length of 255
--   read-closed       by the closing flag
--
-- Assumes nothing.
use mathlib.Core.Path.{◌≡◌}
use mathlib.Core.Bool.{true, false}
use mathlib.Core.List.{List}
use Prim.Native.Nat.{ℕ, ◌+◌, ◌/◌, ◌%◌, ◌≤◌, ◌<◌}
use borrow.Author.Tests.{lt-ltb, le-ltb}
use lib.ListN.{length, drop}
use Rattle.calls.specs.Refusal.{refused}
use Rattle.std.specs.Prelude.{Some, None}
use Rattle.packets.specs.Flag.{flag_in, is_neither}
use Rattle.packets.specs.Packet.{longest, header_in, closed, read}

module _ (u : List ℕ) where
  pub read_no-flag : is_neither (flag_in u) ≡ true → read u ≡ refused 15
  unfolding read
  read_no-flag h = rw h

  module _ (flag : is_neither (flag_in u) ≡ false) where
    pub read_short : length u < 5 → read u ≡ refused 15
    unfolding read
    read_short l = rw (flag, lt-ltb (length u) 5 l)

    module _ (long : 5 ≤ length u) where
      pub read_no_word : header_in u ≡ None → read u ≡ refused 17
      unfolding read
      read_no_word e = rw (flag, le-ltb (length u) 5 long, e)

      module _ (d : ℕ) (found : header_in u ≡ Some d) where
        pub read_unused : longest < d / 16 → read u ≡ refused 2
        unfolding read
        read_unused l = rw (flag, le-ltb (length u) 5 long, found, lt-ltb longest (d / 16) l)

        pub read-closed : d / 16 ≤ longest → read u ≡ closed (d % 16) (d / 16) (flag_in (drop (5 + d / 16) u))
        unfolding read
        read-closed l = rw (flag, le-ltb (length u) 5 long, found, le-ltb longest (d / 16) l)
