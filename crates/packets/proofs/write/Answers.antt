-- The packet's parts, one behind another.
use Rattle.std.proofs.Common.{◌+◌, ap, ◌∙◌, length}
use Rattle.calls.specs.Refusal.{leaving}
use Rattle.packets.specs.Flag.{flag_of}
use Rattle.packets.proofs.Laying.{write_laid, laid_is}
use Rattle.packets.proofs.write.Goals as goal

pub returns : goal.returns
returns c =
    let a = c.args in
    let xs = a.payload.now in
    let d = a.packet.now in
    rw (write_laid a.opens a.code.0 a.mark xs d c.if-c-gt-HIGHEST_CODE.false c.if-n-gt-LONGEST.false c.if-packet-n.false)
    (ap (leaving (length xs + 7))
    (laid_is a.opens a.code.0 a.mark xs d _ _ _ _ _ _ _ c.if-packet-n.false (c.octets.ensures ∙ ap flag_of c.from.ensures) c.write.ensures
    c.of.ensures c.write-2.ensures c.write-3.ensures (c.octets-2.ensures ∙ ap flag_of c.from-2.ensures) c.write-4.ensures))
