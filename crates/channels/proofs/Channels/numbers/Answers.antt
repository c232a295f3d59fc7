-- Place by place.
use Rattle.std.proofs.Common.{rules}
use Rattle.channels.specs.Channels.{vacant}
use Rattle.channels.specs.Places.{number_of}
use Rattle.channels.proofs.Placing.{each_mapped}
use Rattle.channels.proofs.Channels.numbers.Goals as goal

pub returns : goal.returns
returns c = each_mapped number_of vacant c.args.self.now.at c.from_fn.result (search rules) (search rules)
