use Rattle.std.proofs.Common.{suc, ◌+◌, ap, ◌∙◌, add-one, rules}
use Rattle.codeword.proofs.Generating.{upper-next, upper-end}
use Rattle.codeword.specs.Generator.{Upper}
use Rattle.codeword.specs.Register.{ones}
use Rattle.field.specs.Octet as Octet
use Rattle.codeword.proofs.generator.ratios.Goals as goal
use Rattle.codeword.proofs.generator.ratios.Goals.{After-store}

pub loop-o-init : goal.loop-o-init
loop-o-init c = (search rules, c.requires.1, c.at-last.ensures ∙ ap (Octet.power Octet.α) (add-one _))

next : (c : After-store) → Upper c.args.e 1 (suc ones + (c.loop-o.o + 16)) c.store.new.s
next c =
    let l = c.loop-o in
    upper-next (search rules) (search rules) l.invariant.2 c.along-x.ensures c.plus.ensures c.plus-in-loop-o.ensures c.quotients.ensures
    c.store.ensures l.invariant.1

pub loop-o-preserved : goal.loop-o-preserved
loop-o-preserved c = (search rules, next (goal.at.loop-o-preserved c).After-store, search rules)

pub returns : goal.returns
returns c = upper-end (search rules) c.loop-o.invariant.1

pub returns-2 : goal.returns-2
returns-2 c = upper-end (search rules) (next (goal.at.returns-2 c).After-store)
