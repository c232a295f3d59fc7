-- The message is built in a buffer and encoded from there.
use Rattle.std.proofs.Common.{ap, ℕ, ◌+◌, length, arith}
use Rattle.adaptation.proofs.Coding.{message_built, sent_is}
use Rattle.checks.specs.Width.{kind_of}
use Rattle.adaptation.proofs.al1m.put.Goals as goal

pub returns : goal.returns
returns c =
    let a = c.args in
    let κ = kind_of a.s.width in
    let pre = c.requires in
    let k = c.octets_of in
    let built =
    message_built κ a.unit.now _ _ _ (length a.unit.now + k.result) (omega (arith, pre))
    c.write.ensures
    c.seal.ensures (ap (λ (x : ℕ). length a.unit.now + x) k.ensures) in
    sent_is κ a.unit.now a.s.repairs _ a.sent.now _ _
    (λ i. grind arith) built
    pre.0 pre.1 pre.2 c.encode.ensures
