use Rattle.std.proofs.Common.{rules, ◌+◌, ◌*◌, get_or, arith}
use Rattle.codeword.proofs.Laning.{filled_by}
use Rattle.codeword.specs.Lanes.{Filled}
use Rattle.codeword.proofs.values.odds.Goals as goal

pub returns : goal.returns
returns c =
    let d : Filled 64 64 (λ h. get_or c.args.c.now (2 * h + 1) 0) c.from_fn.result = filled_by _ _ _ 64 (λ k y q l h. search rules) c.from_fn.ensures.items in
    λ l small. record { used = λ k o. d.entry k (omega arith) }
