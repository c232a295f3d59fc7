-- What the search answers is its first place.
use Rattle.std.proofs.Common.{rules, tests, arith, ◌∙◌}
use Rattle.std.proofs.lemmas.Iterator.{YieldsList-from_slice}
use Rattle.std.proofs.lemmas.Iterator.Search.{position_from_yields_List}
use Rattle.channels.specs.Channels.{is_channel}
use Rattle.channels.proofs.Placing.{sought_in}
use Rattle.channels.proofs.Channels.place_of.Goals as goal

pub returns : goal.returns
returns c =
    position_from_yields_List (is_channel c.args.number.0) _ _ _ c.position.ensures.ran (YieldsList-from_slice c.args.self.now.at cc) (λ x b q k. search (rules, tests))
    ∙ sought_in c.args.self.now c.args.number.0 (omega arith)
