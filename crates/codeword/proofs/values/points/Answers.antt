use Rattle.std.proofs.Common.{rules, ◌≡◌, refl, sym, ◌∙◌, arith, length}
use Rattle.codeword.proofs.Laning.{filled_start, filled_next}
use Rattle.codeword.proofs.Searching.{inverse_of-place}
use Rattle.codeword.proofs.values.points.Goals as goal

pub loop-k-init : goal.loop-k-init
loop-k-init c = filled_start refl

pub loop-k-preserved : goal.loop-k-preserved
loop-k-preserved c =
    let l = c.loop-k in
    let few = c.requires.few in
    let inside = c.requires.inside l.k (search rules) in
    filled_next l.invariant (search rules) (c.at.ensures ∙ sym (inverse_of-place c.args.n _ inside few.1))

pub returns : goal.returns
returns c =
    let e : c.loop-k.k ≡ length c.args.at.now = omega arith in
    rw e at c.loop-k.invariant
