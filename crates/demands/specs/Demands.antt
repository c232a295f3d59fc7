-- The three demands that stand over everything, each as one statement about the definitions that the functions' promises cite.
--
--   Demands     all three; proofs/Demands.antt proves them
--
--   1  specs/Answers.antt, `Demand1`: any octets, settings, tables and order of calls are answered; what is refused, is refused under the
--      first of the operation's tests that holds, and a refusal leaves the state and every lent buffer as it came. Which numbers the tests
--      have: specs/Orders.antt, `Orders`; exactly when each is given: specs/Exactly.antt, `Exactly`; at which limits: specs/Limits.antt, `Limits`; the same
--      of any call as a run makes it: the multiplexer's `CallsRefuse`. (Any order of calls: the definitions are total, and the multiplexer's `AlwaysSound` says that no call leads to a state that would not be one of document 01's.)
--   2  `Demand2` in the specs/Demand.antt of `runs`: both ends fresh, the same table changes and openings at the same points, both sending and
--      receiving, each payload given once, in order, with enough room: no payload is refused, and each end delivers on each channel
--      exactly the units wholly sent at the other, in order. `UnitToUnit` in its specs/Carried.antt: from the unit handed in to the unit handed up
--   3  specs/Repairs.antt, `Demand3`: a repaired word is found exactly when a code word lies within e octets, never a second one, and the places of
--      what was repaired are told (document 02, ticket 2)
--   1 and 3 of what the C host calls: specs/Host.antt, `Host`
--   2 and 3 from packets to units (document 02, ticket 4): `OverPackets` in the specs/OverPackets.antt of `runs`; of packets by themselves `Packets` in the
--   specs/Claims.antt of `packets`, and of the code of their headers `Golay` in that of `golay`
--   and what AL2 tells as missing over a run (document 02, ticket 5): `MissingOverRuns` in the specs/Missing.antt of `runs`
-- and of the call record (document 02, ticket 1): `Recording` in the specs/Claims.antt of `record`, with its form in specs/Form.antt there.
--
-- Assumes nothing.
use Rattle.record.specs.Claims.{Recording}
use Rattle.golay.specs.Claims.{Golay}
use Rattle.packets.specs.Claims.{Packets}
use Rattle.runs.specs.OverPackets.{OverPackets}
use Rattle.runs.specs.Missing.{MissingOverRuns}
use Rattle.runs.specs.Claims.{DemandMet}
use Rattle.runs.specs.Carried.{UnitToUnit}
use Rattle.multiplex.specs.Calls.{AlwaysSound}
use Rattle.multiplex.specs.Claims.{CallsRefuse}
use Rattle.demands.specs.Answers.{Demand1}
use Rattle.demands.specs.Orders.{Orders}
use Rattle.demands.specs.Exactly.{Exactly}
use Rattle.demands.specs.Limits.{Limits}
use Rattle.demands.specs.Repairs.{Demand3}
use Rattle.demands.specs.Host.{Host}

pub record Demands : Type 1 where
  pub first : Demand1
  pub orders : Orders
  pub exactly : Exactly
  pub limits : Limits
  pub calls : CallsRefuse
  pub sound : AlwaysSound
  pub second : DemandMet
  pub units : UnitToUnit
  pub third : Demand3
  pub over_packets : OverPackets
  pub missing : MissingOverRuns
  pub packets : Packets
  pub headers : Golay
  pub host : Host
  pub records : Recording
