-- What was written: the octets of the parts so far, behind which the parts to come stand.
use Rattle.std.proofs.Common.{◌≡◌, List, ℕ, ◌++◌}
use Rattle.std.specs.Fmt.{HasWritten, IsPlainFormatter}
use Rattle.std.specs.List.{flat_map}
use Rattle.std.specs.Slice.Iter.{chunks_rest, chunks_size}
use Rattle.print.specs.Text.{hex}
use Rattle.print.proofs.values.HexDisplay.fmt.Given as goal

abbrev pub invariant-loop-part : goal.invariant-loop-part
invariant-loop-part g l = record {
  size : chunks_size l.part-iterator ≡ 64;
  text : (s : List ℕ) × (s ++ chunks_rest l.part-iterator ≡ l.fn.self.0.now)
      × (IsPlainFormatter l.initial.f → HasWritten g.W.Write.write_str_gives l.initial.f (flat_map hex s) l.f);
}
