-- Each packet and each gap has octets, so that fewer are left.
use Rattle.std.proofs.Common.{length}
use Rattle.gateway.proofs.state.Gateway.link.Given as goal

abbrev pub decreases-loop-rest : goal.decreases-loop-rest
decreases-loop-rest g l = length l.rest
