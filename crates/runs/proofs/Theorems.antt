-- The claims of specs/Claims.antt, specs/Carried.antt and specs/OverPackets.antt, proved.
--
--   demand_met, wrong_fail   the claims on runs
--   unit_to-unit             .. from unit to unit
--   over-packets             .. and from packets to units
--
-- Assumes nothing.
use Rattle.multiplex.proofs.Laws.{lies-there}
use Rattle.runs.specs.Claims.{DemandMet, WrongFail}
use Rattle.runs.specs.Carried.{UnitToUnit}
use Rattle.runs.specs.OverPackets.{OverPackets}
use Rattle.runs.proofs.Delivering as delivering
use Rattle.runs.proofs.Failing.{idle-fails, refuser-fails, mute-fails, silent-fails}
use Rattle.runs.proofs.Handing.{as-sent, numbers-follow, carried-by-AL2}
use Rattle.runs.proofs.Passed.{carried-by-AL1, carried-by-plain-AL2, carried-by-AL1M}
use Rattle.runs.proofs.Bringing.{brings_exactly, written-brings}
use Rattle.runs.proofs.Streaming.{stream-is, stream-brings, stream-made, stream-written, stream-read, stream-read-back}
use Rattle.runs.proofs.Filling.{fill-leaves}
use Rattle.runs.proofs.Hearing.{packet_demand}
use Rattle.runs.proofs.Crossing.{parcel-run, goes_on, on-way_packable, packets_as-sent, packet-numbers}
use Rattle.runs.proofs.Crossing.{packets-by-AL1, packets-by-AL2, packets-by-plain-AL2, packets-by-AL1M}
use Rattle.runs.proofs.Mishearing.{deaf-fails, by-opening_fails, exacting-fails, dozing-fails, deaf_to-fill_fails, marks-fill_fails}

pub demand_met : DemandMet
demand_met = delivering.demand_met

pub wrong_fail : WrongFail
wrong_fail = record { idle_fails = idle-fails; refuser_fails = refuser-fails; mute_fails = mute-fails; silent_fails = silent-fails }

pub unit_to-unit : UnitToUnit
unit_to-unit = record {
  as_sent = as-sent;
  numbers_follow = numbers-follow;
  by_al1 = carried-by-AL1;
  by_al2 = carried-by-AL2;
  by_plain_al2 = carried-by-plain-AL2;
  by_al1_m = carried-by-AL1M;
  lies = lies-there;
}

pub over-packets : OverPackets
over-packets = record {
  simulated = parcel-run;
  packable = on-way_packable;
  demand = packet_demand;
  as_sent = packets_as-sent;
  numbers = packet-numbers;
  by_al1 = packets-by-AL1;
  by_al2 = packets-by-AL2;
  by_plain_al2 = packets-by-plain-AL2;
  by_al1_m = packets-by-AL1M;
  fill = fill-leaves;
  brings = brings_exactly;
  written = written-brings;
  goes_on = goes_on;
  stream_is = stream-is;
  stream_brings = stream-brings;
  stream_made = stream-made;
  stream_written = stream-written;
  stream_read = stream-read;
  stream_read_back = stream-read-back;
  wrong_readers = record { deaf_fails = deaf-fails; by_opening_fails = by-opening_fails; exacting_fails = exacting-fails; dozing_fails = dozing-fails; deaf_to_fill_fails = deaf_to-fill_fails; marks_fill_fails = marks-fill_fails };
}
