-- When no further channel is opened, in document 01's words: 16 channels are open (refusal 12).
--
--   open_count l     how many of the channels l are open
--   FullExactly     a channel is refused with 12 exactly where it is not open, and 16 are; proofs/Full.antt proves it
--
-- Assumes nothing.
use Rattle.std.specs.Prelude.{◌≡◌, ◌↔◌, Bool, false, cond, List, [], ◌∷◌, ℕ, ◌+◌, length}
use Rattle.calls.specs.Refusal.{refused}
use Rattle.channels.specs.declared.Channel.{Channel}
use Rattle.channels.specs.declared.Channels.{Channels}
use Rattle.channels.specs.Channels.{is_in, opened}

abbrev pub open_count : List Channel → ℕ
open_count [] = 0
open_count (c ∷ l) = cond c.«open» 1 0 + open_count l

-- every state has 16 places
abbrev pub FullExactly : Type 0
FullExactly =
    (s : Channels) (n : ℕ) (g : Bool) → length s.at ≡ 16 → (opened s n g).answer ≡ refused 12 ↔ ((is_in s n ≡ false) × (open_count s.at ≡ 16))
