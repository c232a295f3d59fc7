-- The word's three octets.
use Rattle.std.proofs.Common.{refl, arith}
use Rattle.packets.proofs.Fields.{header_octets}
use Rattle.packets.proofs.header.of.Goals as goal

pub returns : goal.returns
returns c =
    let a = c.args in
    rw (c.to_le_bytes.ensures) (header_octets a.code a.length c.parity.result _ (omega arith) (omega arith) c.parity.ensures refl)
