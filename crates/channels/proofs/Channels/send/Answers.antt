-- The search decides; else AL2's own sending, and the number, which then rises.
use Rattle.std.proofs.Common.{◌≡◌, sym, ◌∙◌, arith, Some}
use Rattle.std.proofs.lemmas.Result.{err_from_is_err_and}
use Rattle.channels.proofs.Placing.{in_place}
use Rattle.channels.proofs.Layering.{sending-refused, sending-sent}
use Rattle.channels.proofs.Channels.send.Goals as goal

pub returns-in_err-octets : goal.returns-in_err-octets
returns-in_err-octets c =
    let e : c.place_of.result ≡ Some c.in_ok-p.p = grind arith in
    let w = in_place _ _ _ (sym c.place_of.ensures ∙ e) in
    let x = err_from_is_err_and c.from_residual-in_err-octets.result c.from_residual-in_err-octets.ensures.1 in
    rw (x.1, x.2) (sending-refused _ _ _ _ _ w.0 w.1 _ _ (rw (c.in_err-octets.was, c.number_as.ensures) at c.send.ensures))

pub returns : goal.returns
returns c =
    let e : c.place_of.result ≡ Some c.in_ok-p.p = grind arith in
    let w = in_place _ _ _ (sym c.place_of.ensures ∙ e) in
    rw c.rise.ensures (sending-sent _ _ _ _ _ w.0 w.1 _ _ (rw (c.in_ok-octets.was, c.number_as.ensures) at c.send.ensures))
