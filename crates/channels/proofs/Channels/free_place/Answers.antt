-- What the search answers is its first place.
use Rattle.std.proofs.Common.{rules, tests, arith, ◌∙◌}
use Rattle.std.proofs.lemmas.Iterator.{YieldsList-from_slice}
use Rattle.std.proofs.lemmas.Iterator.Search.{position_from_yields_List}
use Rattle.channels.specs.Channels.{is_free}
use Rattle.channels.proofs.Placing.{freed_in}
use Rattle.channels.proofs.Channels.free_place.Goals as goal

pub returns : goal.returns
returns c =
    position_from_yields_List is_free _ _ _ c.position.ensures.ran (YieldsList-from_slice c.args.self.now.at cc) (λ x b q k. search (rules, tests))
    ∙ freed_in c.args.self.now (omega arith)
