-- An entry's slots are those of its list, cut to the payload; for a payload that is no longer than the longest it is the same whether what
-- repeats until closing is passed once for each of its octets or for each of the longest one's.
use Rattle.std.proofs.Common.{arith, sym}
use Rattle.std.proofs.lemmas.Grind.{common_steps}
use Rattle.table.proofs.Expanding.{tree_often, slots_alike}
use Rattle.table.specs.Form.{tree_of}
use Rattle.table.specs.Lays.{list_slots}
use Rattle.table.specs.Slots.{payload_slots}
use Rattle.table.specs.Table.{longest_payload}
use Rattle.table.proofs.walk.lay.Goals as goal

pub returns : goal.returns
unfolding payload_slots tree_of list_slots
returns c =
    let a = c.args in
    let h = c.list.ensures.lays in
    let p = sym c.list.ensures.same_channels in
    let q = sym c.list.ensures.same_lengths in
    rw (
      slots_alike (tree_of a.s.now) a.n longest_payload a.n (tree_often a.s.now) (omega arith) (omega arith),
      ← c.number.ensures,
    ) (record { count = h.count; left = h.left; channels = grind (arith, common_steps); lengths = grind (arith, common_steps) })
