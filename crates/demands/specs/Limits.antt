-- Document 01's numbers, each where it decides: what a definition changed together with its code would get past, were it not said in the
-- paper's words. Each crate has its own; here they are one statement. (The longest payload, and the longest unit that waits, are where they
-- refuse: specs/Exactly.antt.)
--
--   Limits     the numbers; proofs/Limited.antt proves it
--
-- Assumes nothing.
use Rattle.std.specs.Prelude.{◌≡◌, ◌↔◌, true, ℕ, ◌+◌, ◌≤◌, length}
use Rattle.adaptation.specs.Limits.{AdaptationLimits}
use Rattle.table.specs.Limits.{TableLimits}
use Rattle.channels.specs.declared.Channel.{Channel}
use Rattle.channels.specs.Channels.{start}
use Rattle.multiplex.specs.Demultiplexer.{room_in}
use Rattle.multiplex.specs.Exactly.{Enough}

pub record Limits : Type 0 where
  -- "Checks", "AL1M units", "AL1 and AL2"
  pub adaptation : AdaptationLimits
  -- "Multiplex table"
  pub table : TableLimits
  -- "Demultiplexer": up to 16 channels, and no held unit passes 1,024 octets
  pub places : length start.at ≡ 16
  pub held : (c : Channel) (n : ℕ) → c.segmentable ≡ true → room_in c n ≡ true ↔ (c.held + n ≤ 1024)
  -- .. so that a room of so much is always enough
  pub enough : Enough
