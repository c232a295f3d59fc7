-- The fold is over numbers that are capped digit by digit.
use Rattle.std.proofs.Common.{rules, ◌≡◌, refl, ◌∙◌}
use Rattle.std.specs.List.{fold}
use Rattle.text.proofs.Capping.{one_more, read-capped}
use Rattle.text.proofs.numbers.value.Goals as goal

pub returns : goal.returns
returns c =
    let e : c.fold.result ≡ fold one_more 0 c.args.digits.now = search rules in
    e ∙ read-capped 0 c.args.digits.now refl
