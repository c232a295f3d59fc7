-- What a writing lays down where nothing refuses it.
--
--   write_laid      the packet
--   laid_is         .. which is its parts, laid one behind another
--   flag-length     a flag has two octets
--
-- Assumes nothing.
use mathlib.Core.Path.{◌≡◌, refl, ◌∙◌}
use mathlib.Core.Bool.{Bool, true, false}
use mathlib.Core.List.{List, ◌++◌}
use Prim.Native.Nat.{ℕ, ◌+◌, ◌≤◌}
use native.Mathlib.Omega.{arith}
use borrow.Author.Tests.{le-ltb}
use lib.ListN.{length, length-append}
use Rattle.octets.specs.Written.{written, written_next}
use Rattle.calls.specs.Refusal.{leaving}
use Rattle.packets.specs.Flag.{flag_of}
use Rattle.packets.specs.Header.{header_of}
use Rattle.packets.specs.Packet.{longest, packet_of, wrote}

module _ (o : Bool) (c : ℕ) (m : Bool) (xs before : List ℕ) where
  pub write_laid : c ≤ 15 → length xs ≤ longest → length xs + 7 ≤ length before
      → wrote o c m xs before ≡ leaving (length xs + 7) (written before 0 (packet_of o c m xs))
  unfolding wrote
  write_laid code short room = rw (le-ltb 15 c code, le-ltb longest (length xs) short, le-ltb (length before) (length xs + 7) room)

-- ---- part by part

pub flag-length : (m : Bool) → length (flag_of m) ≡ 2
flag-length false = refl
flag-length true = refl

laid_next : (d s t : List ℕ) (k : ℕ) → length s ≡ k → k ≤ length d → written (written d 0 s) k t ≡ written d 0 (s ++ t)
laid_next d s t k e h = rw (← e) (written_next d s t (omega arith))

module _ (o : Bool) (c : ℕ) (m : Bool) (xs d a b e z f h g : List ℕ) (room : length xs + 7 ≤ length d) where
  pub laid_is : f ≡ flag_of o → a ≡ written d 0 f → h ≡ header_of c (length xs) → b ≡ written a 2 h → e ≡ written b 5 xs → g ≡ flag_of m
      → z ≡ written e (5 + length xs) g → z ≡ written d 0 (packet_of o c m xs)
  laid_is hf ha hh hb he hg hz =
      let two = flag-length o in
      let five : length (flag_of o ++ header_of c (length xs)) ≡ 5 = rw (length-append, two) in
      let all : length (flag_of o ++ header_of c (length xs) ++ xs) ≡ 5 + length xs = rw (length-append, five) in
      hz ∙ rw (
        hg,
        he,
        hb,
        hh,
        ha,
        hf,
        laid_next d (flag_of o) (header_of c (length xs)) 2 two (omega arith),
        laid_next d (flag_of o ++ header_of c (length xs)) xs 5 five (omega arith),
      )
      (laid_next d (flag_of o ++ header_of c (length xs) ++ xs) (flag_of m) (5 + length xs) all (omega arith))
