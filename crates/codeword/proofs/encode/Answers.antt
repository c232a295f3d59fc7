-- The message is written, and its parity behind it.
use Rattle.std.proofs.Common.{refl, ap, ◌∙◌, List, ℕ, ◌*◌, ◌≤◌, arith, length, take}
use Rattle.codeword.proofs.Systematic.{register_parity, encoded_done}
use Rattle.octets.specs.Written.{written, written_next}
use Rattle.codeword.proofs.encode.Goals as goal

pub returns : goal.returns
returns c =
    let a = c.args in
    let u = a.message.now in
    let p = c.parity-p in
    let l : 2 * a.e ≤ length p.result = omega (arith, p.ensures.long) in
    encoded_done a.e _ u a.sent.now (take (2 * a.e) p.result) _ (omega arith) (omega arith) (omega arith)
    (register_parity a.e u p.result l p.ensures) refl
    (c.write-2.ensures ∙ ap (λ (d : List ℕ). written d (length u) (take (2 * a.e) p.result))
    c.write.ensures
    ∙ written_next a.sent.now u (take (2 * a.e) p.result) (omega arith))
