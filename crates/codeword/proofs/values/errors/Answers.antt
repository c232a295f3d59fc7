-- By what the values and their quotient are.
use Rattle.std.proofs.Common.{ap, ap₂, ◌∙◌, ◌+◌, ◌/◌}
use Rattle.codeword.specs.Search.{value_of}
use Rattle.codeword.specs.Values.{error_of}
use Rattle.field.specs.Octet as Octet
use Rattle.codeword.proofs.values.errors.Goals as goal

pub returns : goal.returns
unfolding error_of
returns c =
    let a = c.args in
    record {
      long = c.quotients.ensures.long;
      entry = λ k h. c.quotients.ensures.entry k h
          ∙ ap₂ Octet.product (c.horner-a.ensures.entry k h)
          (ap Octet.inverse (c.horner-b.ensures.entry k h ∙ ap (value_of a.d.now ((a.l + 1) / 2)) (c.products.ensures.entry k h)));
    }
