-- The three demands.
--
--   demands     each of them is met
--
-- Assumes nothing.
use Rattle.multiplex.proofs.Laws.{calls_refuse, always-sound}
use Rattle.record.proofs.Laws.{recording}
use Rattle.golay.proofs.Laws.{golay}
use Rattle.packets.proofs.Laws.{packets}
use Rattle.runs.proofs.Laws.{demand_met, unit_to-unit, over-packets, missing_over_runs}
use Rattle.demands.specs.Demands.{Demands}
use Rattle.demands.proofs.First.{demand1}
use Rattle.demands.proofs.Ordered.{orders}
use Rattle.demands.proofs.Exact.{exactly}
use Rattle.demands.proofs.Limited.{limits}
use Rattle.demands.proofs.Reached.{demand3}
use Rattle.demands.proofs.Hosted.{host}

pub demands : Demands
demands = record {
  first = demand1;
  orders = orders;
  exactly = exactly;
  limits = limits;
  calls = calls_refuse;
  sound = always-sound;
  second = demand_met;
  units = unit_to-unit;
  third = demand3;
  over_packets = over-packets;
  missing = missing_over_runs;
  packets = packets;
  headers = golay;
  host = host;
  records = recording;
}
