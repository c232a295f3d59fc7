-- A fill packet is heard (specs/OverPackets.antt).
--
--   no-slots      a payload of no octets has no slots
--   never_less    no number is below 0
--   fill-leaves   a fill packet finishes nothing, and changes nothing,
--   fill_step     so that both ends are as they were once it was heard
--
-- Assumes nothing.
use mathlib.Core.Path.{◌≡◌, ap, ◌∙◌}
use mathlib.Core.Bool.{false}
use mathlib.Core.List.{List, [], append-nil}
use Prim.Native.Nat.{ℕ}
use native.Mathlib.Omega.{arith}
use native.Mathlib.Nat.{add-zero}
use borrow.Author.Tests.{le-ltb}
use lib.Dec.{ltb}
use lib.ListN.{length}
use Rattle.octets.specs.Written.{written_nothing}
use Rattle.table.specs.Entry.{none}
use Rattle.table.specs.Form.{tree_of}
use Rattle.table.specs.Table.{entry_of, is_defined, fixed_entry}
use Rattle.table.specs.Slots.{payload_slots, octets_of, slots}
use Rattle.table.proofs.Laws.{slots_are, cut-none}
use Rattle.packets.specs.Packet.{read}
use Rattle.channels.specs.Channels.{all_open}
use Rattle.multiplex.specs.Pieces.{placed}
use Rattle.multiplex.specs.Demultiplexer.{demultiplexed, delivery, took_all, fits}
use Rattle.multiplex.specs.Units.{units_in}
use Rattle.multiplex.specs.Calls.{called_by}
use Rattle.runs.specs.Runs.{Side, near, far, End, World, end_at, after}
use Rattle.runs.specs.Packets.{Brings, fill}
use Rattle.runs.specs.Hearing.{fills, filling, packet_step}
use Rattle.runs.specs.OverPackets.{FillLeaves}
use Rattle.runs.proofs.Packing.{fill_packable}
use Rattle.runs.proofs.Bringing.{brought-read}

pub no-slots : payload_slots fixed_entry 0 ≡ []
no-slots = (slots_are none fixed_entry 0).1 ∙ cut-none (slots 0 (tree_of fixed_entry))

never_less : (n : ℕ) → ltb n 0 ≡ false
never_less n = le-ltb n 0 (omega arith)

pub fill-leaves : FillLeaves
unfolding called_by demultiplexed delivery took_all fits entry_of is_defined octets_of placed all_open
fill-leaves R u output units x b =
    (brought-read b fill_packable, rw (no-slots, never_less (length output), never_less (length units), written_nothing))

-- both ends, where one of them has done nothing
after_none : (x : World) (i : Side) → after x i (end_at x i) [] ≡ x
after_none x near = rw append-nil
after_none x far = rw append-nil

pub fill_step : (R : ℕ → ℕ → Type 0) (x : World) (i : Side) (u output units : List ℕ) → Brings R fill u → packet_step read x (fills i u output units) ≡ x
unfolding packet_step units_in
fill_step R x i u output units b =
    let e = end_at x i in
    let l = fill-leaves R u output units e.link b in
    let same : filling (read u) e u output units ≡ e = rw (l.0, l.1, append-nil, add-zero e.refusals) in
    ap (λ (z : End). after x i z []) same ∙ after_none x i
