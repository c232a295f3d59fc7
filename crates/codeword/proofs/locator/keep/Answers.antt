-- By the store, where there is one.
use Rattle.std.proofs.Common.{refl, sym, ◌∙◌, true≢false}
use Rattle.codeword.proofs.locator.keep.Goals as goal

pub returns-then-grows : goal.returns-then-grows
returns-then-grows c =
    record { stored = λ g. c.store.ensures; same = λ g. absurd (true≢false (sym c.if-grows.true ∙ g)) }

pub returns-else-grows : goal.returns-else-grows
returns-else-grows c = record { stored = λ g. absurd (true≢false (sym g ∙ c.if-grows.false)); same = λ g. refl }
