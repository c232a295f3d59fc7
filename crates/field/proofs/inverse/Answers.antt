-- Each octet on the way is a power of a: a product adds exponents, and what is mapped multiplies them.
use Rattle.std.proofs.Common.{ap, ap₂, sym, ◌∙◌, ℕ}
use Rattle.field.specs.Octet.{product, power}
use Rattle.field.specs.Octet.Laws.{power-suc, power-add, power-mul}
use Rattle.field.specs.Octet.Steps.{is_raised, mapped-power, inverse_is}
use Rattle.field.proofs.inverse.Goals as goal

pub returns : goal.returns
unfolding is_raised
returns c =
    let a = c.args.a in
    let a2 = mapped-power 1 c.mapped-a2.ensures tt in
    let a3 = c.product-a3.ensures ∙ ap (product a) a2 ∙ sym (power-suc a 2) in
    let a12 = mapped-power 2 c.mapped-a12.ensures tt ∙ ap (λ (x : ℕ). power x 4) a3 ∙ power-mul a 3 4 in
    let a14 = c.product-a14.ensures ∙ ap₂ product a2 a12 ∙ sym (power-add a 2 12) in
    let a15 = c.product.ensures ∙ ap₂ product a3 a12 ∙ sym (power-add a 3 12) in
    let a240 = mapped-power 4 c.mapped-a240.ensures tt ∙ ap (λ (x : ℕ). power x 16) a15 ∙ power-mul a 15 16 in
    c.product-2.ensures ∙ ap₂ product a14 a240 ∙ sym (power-add a 14 240) ∙ inverse_is a
