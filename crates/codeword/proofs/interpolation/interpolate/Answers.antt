-- The parts are weighed, and added.
use Rattle.codeword.proofs.Interpolating.{interpolates-next}
use Rattle.codeword.proofs.interpolation.interpolate.Goals as goal

pub returns : goal.returns
returns c = interpolates-next c.args.g.now.e c.args.o c.along-x.ensures c.divisors-d.ensures c.load-v.ensures c.quotients-w.ensures c.add.ensures c.requires.1
