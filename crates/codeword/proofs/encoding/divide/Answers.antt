use Rattle.std.proofs.Common.{◌*◌, ◌≡◌, refl, ◌+◌, ◌-◌, sym, subst, arith, length, rules}
use Rattle.codeword.proofs.Parity.{dividing_start, dividing-next, dividing-end}
use Rattle.codeword.proofs.Arrays.{padded_is}
use Rattle.codeword.specs.Register.{width, Padded}
use Rattle.codeword.proofs.encoding.divide.Goals as goal

pub loop-i-init : goal.loop-i-init
loop-i-init c = let u = c.args.message.now in dividing_start (2 * c.args.g.now.e) u _ c.requires (subst (Padded width u) (sym c.write.ensures) (padded_is width u (search rules)))

pub loop-i-preserved : goal.loop-i-preserved
loop-i-preserved c = dividing-next c.args.g.now.made (search rules) c.requires c.turn.ensures c.loop-i.invariant

pub returns : goal.returns
returns c =
    let k = length c.args.message.now in
    let n : k + 2 * c.args.g.now.e - k ≡ 2 * c.args.g.now.e = omega arith in
    let e : c.loop-i.i ≡ k = omega arith in
    dividing-end refl c.requires (rw e at c.loop-i.invariant) (rw n at c.padded.ensures)
