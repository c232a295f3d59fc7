-- What is shifted out comes back as the rest of the modulus.
use Rattle.std.proofs.Common.{◌∙◌}
use Rattle.field.specs.Octet.Steps.{double-shifted}
use Rattle.field.proofs.double.Goals as goal

pub returns : goal.returns
returns c = c.sum.ensures ∙ double-shifted c.args.a c.ranges.a.fits
