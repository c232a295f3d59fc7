use Rattle.std.proofs.Common.{rules, ◌≡◌, ◌+◌, ◌-◌, length, ◌∙◌, arith, get_or-take, get_or-drop, length-drop, length-take-le, drop}
use Rattle.codeword.proofs.Correcting.{corrected_start, corrected-next}
use Rattle.codeword.specs.CodeWord.{Octets}
use Rattle.codeword.specs.Values.{Corrected}
use Rattle.codeword.proofs.values.correct.Goals as goal
use Rattle.codeword.proofs.values.correct.Goals.{After-add}

pub loop-j-init : goal.loop-j-init
loop-j-init c = (search rules, corrected_start (λ i. (c.type_inv.w i).fits))

-- the places from j on, up to 16, are corrected

next : (c : After-add) → Octets c.add.new.w
    → Corrected c.args.n (length c.args.at.now) c.min.result c.args.at.now c.args.o.now c.args.d.now c.args.w.now c.add.new.w
next c octets =
    let at = c.args.at.now in
    let j = c.loop-j.j in
    let m = c.min.result - j in
    let behind = drop j at in
    let long = length-take-le m behind (omega (arith, c.min.ensures, length-drop j at)) in
    let whole : j + m ≡ c.min.result = omega (arith, c.min.ensures) in
    rw whole at (corrected-next (omega (arith, c.min.ensures)) octets (λ k h. get_or-take m behind k 0 h ∙ get_or-drop j at k 0)
    (λ h i o k. c.requires.rises h i o (omega (arith, c.min.ensures))) (rw long at c.points-x.ensures) c.errors.ensures (rw long at c.add.ensures) c.loop-j.invariant.1)

pub loop-j-preserved : goal.loop-j-preserved
loop-j-preserved c =
    let e : c.min.result ≡ c.loop-j.j + 16 = omega (arith, c.min.ensures) in
    (search rules, rw e at (next (goal.at.loop-j-preserved c).After-add (λ i. (c.type_inv.w i).fits)))

pub returns : goal.returns
returns c =
    let l = c.loop-j in
    let e : l.j ≡ length c.args.at.now = omega arith in
    rw e at l.invariant.1

pub returns-2 : goal.returns-2
returns-2 c =
    let e : c.min.result ≡ length c.args.at.now = omega (arith, c.min.ensures) in
    rw e at (next (goal.at.returns-2 c).After-add (λ i. (c.type_inv.w i).fits))
