-- One part more.
use Rattle.std.proofs.Common.{◌≡◌, [], ◌++◌, sym, ap, ◌∙◌, append_assoc, append-nil, arith, rules}
use Rattle.std.specs.List.{flat_map}
use Rattle.std.proofs.Output.{has_written_append, has_written_of_eq}
use Rattle.std.proofs.lemmas.Grind.{flat_map-append}
use Rattle.std.proofs.lemmas.List.{nil_from_length}
use Rattle.print.specs.Text.{hex}
use Rattle.print.proofs.values.HexDisplay.fmt.Goals as goal

pub loop-part-init : goal.loop-part-init
loop-part-init g c = record { size = search rules; text = ([], search rules, search rules) }

pub loop-part-preserved : goal.loop-part-preserved
loop-part-preserved g c =
    let so_far = c.loop-part.invariant.text in
    let part = c.in-Some.part.now in
    let steps = c.in-Some.ensures.steps in
    record {
      size = steps.0 ∙ c.loop-part.invariant.size;
      text = (
        so_far.0 ++ part,
        append_assoc so_far.0 part _ ∙ ap (λ t. so_far.0 ++ t) (sym steps.1.0) ∙ so_far.1,
        λ plain. has_written_of_eq _ _ _ _ _ (sym (flat_map-append hex so_far.0 part)) (has_written_append _ _ _ _ _ _ (so_far.2 plain) (search rules)),
      );
    }

pub returns-clause-writes : goal.returns-clause-writes
returns-clause-writes g c = λ plain _.
    let so_far = c.loop-part.invariant.text in
    let none = nil_from_length _ c.in-None.ensures.steps.1.0 in
    let all : so_far.0 ≡ c.args.self.now.0.now = rw (none, append-nil) at so_far.1 in
    has_written_of_eq _ _ _ _ _ (ap (flat_map hex) all ∙ grind arith) (so_far.2 plain)
