-- Document 01's table of refusals, "given exactly when": every number of every operation, each where the tests before it do not hold. Each
-- crate claims it of its own operations, in a file of this name; here they are one statement. A test that a definition and its code had
-- beyond these, or without one of them, is refused there.
--
--   Exactly     when each refusal is given; proofs/Exact.antt proves it
--
-- Assumes nothing.
use Rattle.std.specs.Prelude.{Bool, List, ℕ}
use Rattle.adaptation.specs.Exactly.{AdaptationExactly}
use Rattle.table.specs.Exactly.{TreeExactly, OfTable}
use Rattle.table.specs.Claims.{DefinedExactly}
use Rattle.packets.specs.Claims.{OfReading, OfWriting}
use Rattle.channels.specs.declared.Channels.{Channels}
use Rattle.channels.specs.Layers.{SendLent}
use Rattle.channels.specs.Exactly.{OpenExactly, AllOpenExactly, OfChannels, OfLayers}
use Rattle.channels.specs.Full.{FullExactly}
use Rattle.multiplex.specs.Demultiplexer.{DemuxLent}
use Rattle.multiplex.specs.Multiplexer.{MuxLent}
use Rattle.multiplex.specs.Claims.{SixExactly}
use Rattle.multiplex.specs.Rules.{FitsExactly, ThreeExactly}
use Rattle.multiplex.specs.Exactly.{OfDemultiplexer, OfMultiplexer, LastOctet}

pub record Exactly : Type 0 where
  -- 1, 2, 3 of AL1M, and 2, 3 of AL1 and AL2; when a check agrees, and when a unit is unchecked
  pub adaptation : AdaptationExactly
  -- 5, 2, 3 of AL2 on a channel
  pub layers : (x : SendLent) (n : ℕ) (numbered : Bool) (u : List ℕ) → OfLayers x n numbered u
  -- 4, 14, 10 of replacing; what 4 and 10 are not given for
  pub table : (c : ℕ) (s : List ℕ) → OfTable c s
  pub defined : DefinedExactly
  pub trees : TreeExactly
  -- 15, 17, 2 of reading a packet, 4, 2, 3 of writing one (document 02, ticket 4)
  pub unpacking : (u : List ℕ) → OfReading u
  pub packing : (o : Bool) (c : ℕ) (mark : Bool) (xs before : List ℕ) → OfWriting o c mark xs before
  -- 13 and 12 of opening, 5 and 14 of closing, 5 of a reset, 2, 5, 11 of posting; and what 5 is not given for
  pub channels : (s : Channels) (n : ℕ) (u : List ℕ) → OfChannels s n u
  pub full : FullExactly
  pub opened : OpenExactly
  pub all_opened : AllOpenExactly
  -- 2, 4, 6, 5, 7, 8, 3 of the demultiplexer; 6, 8, 3 and 7's last octet in the paper's words
  pub demultiplexer : (x : DemuxLent) (t : List ℕ) (c : ℕ) (mark : Bool) (xs : List ℕ) → OfDemultiplexer x t c mark xs
  pub six : SixExactly
  pub fits : FitsExactly
  pub three : ThreeExactly
  pub last : (s : Channels) → LastOctet s
  -- 2, 4, 3, 5, 9 of the multiplexer
  pub multiplexer : (x : MuxLent) (t : List ℕ) (c room : ℕ) → OfMultiplexer x t c room
