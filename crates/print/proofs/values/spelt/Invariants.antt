-- The room begins with the digits of the octets so far.
use Rattle.std.proofs.Common.{◌≡◌, ◌*◌, take}
use Rattle.std.specs.List.{flat_map}
use Rattle.print.specs.Text.{hex}
use Rattle.print.proofs.values.spelt.Given as goal

abbrev pub invariant-loop-octet : goal.invariant-loop-octet
invariant-loop-octet l = record {
  places : l.n ≡ 2 * l.octet-index;
  digits : take l.n l.room ≡ flat_map hex (take l.octet-index l.octets);
}
