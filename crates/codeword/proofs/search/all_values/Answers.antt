use Rattle.std.proofs.Common.{rules, ◌≡◌, refl, sym, ap, ◌∙◌, ◌+◌, arith}
use Rattle.codeword.proofs.Columns.{Blocks, blocks-next}
use Rattle.codeword.proofs.Searching.{inverse_of-place}
use Rattle.codeword.specs.Element.{octet}
use Rattle.codeword.specs.Places.{inverses}
use Rattle.codeword.specs.Search.{value_of}
use Rattle.field.specs.Octet as Octet
use Rattle.codeword.proofs.search.all_values.Goals as goal
use Rattle.codeword.proofs.search.all_values.Goals.{After-write}

pub loop-p-init : goal.loop-p-init
loop-p-init c = (search rules, refl, search rules, λ i l. absurd (omega arith))

next : (c : After-write) → Blocks (λ q y. y ≡ value_of c.args.c.now (c.args.l + 1) (octet (inverses c.args.n q))) (c.loop-p.p + 16) c.args.n c.write.new.dst
next c =
    let l = c.loop-p in
    let a = c.args in
    let f = a.c.now in
    rw c.write.ensures
    (blocks-next (λ q y. y ≡ value_of f (a.l + 1) (octet (inverses a.n q))) l.p a.n l.v _ (omega (arith, l.invariant.1, l.invariant.2)) (search rules) l.invariant.3
    (λ j k m. c.values-a.ensures.entry j k ∙ ap (value_of f (a.l + 1)) (sym (inverse_of-place a.n (l.p + j) m (search rules) ∙ ap (Octet.power Octet.α) (omega arith)))))

pub loop-p-preserved : goal.loop-p-preserved
loop-p-preserved c = (search rules, omega (arith, c.loop-p.invariant.1), search rules, next (goal.at.loop-p-preserved c).After-write)

pub returns : goal.returns
returns c = λ p m. c.loop-p.invariant.3 p (omega arith) m

pub returns-2 : goal.returns-2
returns-2 c = λ p m. next (goal.at.returns-2 c).After-write p (omega arith) m
