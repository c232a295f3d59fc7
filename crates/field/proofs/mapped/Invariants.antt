-- The total and what the bits left still have to give are what the function gives.
use Rattle.field.specs.Octet.Steps.{Mapping}
use Rattle.field.proofs.mapped.Given as goal

abbrev pub invariant-loop-image : goal.invariant-loop-image
invariant-loop-image l = Mapping l.images l.b l.image-index l.bits l.total
