-- What is claimed of runs; proofs/Theorems.antt proves each claim.
--
--   DemandMet          our library meets demand 2
--   idle               a library whose demultiplexer serves the first payload, and afterwards accepts and moves no octet
--   refuser k          one whose demultiplexer refuses everything, with number k
--   mute k             one whose multiplexer refuses everything, with number k
--   silent             one whose multiplexer accepts and never sends: its payloads are empty
--   WrongFail          none of these meets it
--
-- Assumes nothing.
use Rattle.std.specs.Prelude.{false, ℕ, zero, suc}
use Rattle.calls.specs.Refusal.{leaving, refusing}
use Rattle.multiplex.specs.Demultiplexer.{demultiplexed}
use Rattle.multiplex.specs.Multiplexer.{multiplexed}
use Rattle.multiplex.specs.Calls.{ours}
use Rattle.runs.specs.Runs.{Libraries}
use Rattle.runs.specs.Demand.{Demand2}

abbrev pub DemandMet : Type 1
DemandMet = Demand2 (λ before. ours)

abbrev pub idle : Libraries
idle zero = ours
idle (suc before) = record { demultiplexer = λ x t c mark xs. leaving 0 x; multiplexer = multiplexed }

abbrev pub refuser : ℕ → Libraries
refuser k before = record { demultiplexer = λ x t c mark xs. refusing x k; multiplexer = multiplexed }

abbrev pub mute : ℕ → Libraries
mute k before = record { demultiplexer = demultiplexed; multiplexer = λ x w t c room. refusing x k }

abbrev pub silent : Libraries
silent before = record { demultiplexer = demultiplexed; multiplexer = λ x w t c room. leaving (record { octets = 0; mark = false }) x }

pub record WrongFail : Type 1 where
  pub idle_fails : Demand2 idle → ⊥
  pub refuser_fails : (k : ℕ) → Demand2 (refuser k) → ⊥
  pub mute_fails : (k : ℕ) → Demand2 (mute k) → ⊥
  pub silent_fails : Demand2 silent → ⊥
