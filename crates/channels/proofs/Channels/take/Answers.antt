-- The search decides; else what AL2 says of the unit, and what is then due.
use Rattle.std.proofs.Common.{◌≡◌, refl, sym, ◌∙◌, arith, rules, List, ℕ, Some, None}
use Rattle.std.specs.Prelude.{Option}
use Rattle.std.specs.Option.{option_map_or}
use Rattle.std.proofs.lemmas.Result.{err_from_is_err_and}
use Rattle.adaptation.specs.AL2.{due_by, receipt_says, unit_of}
use Rattle.adaptation.specs.declared.al2.Delivery.{Delivery}
use Rattle.adaptation.specs.declared.al2.Due.{Due}
use Rattle.channels.specs.Channels.{channel_at}
use Rattle.channels.proofs.Placing.{in_place}
use Rattle.channels.proofs.Layering.{taking-by}
use Rattle.channels.proofs.Channels.take.Goals as goal

kept : (o : Option Delivery) (u : List ℕ) (e : Due) → option_map_or (λ d. d.due) o e ≡ due_by (receipt_says o u e)
kept (Some d) u e = refl
kept None u e = refl

pub returns-in_err-received : goal.returns-in_err-received
returns-in_err-received c =
    let e : c.place_of.result ≡ Some c.in_ok-p.p = grind arith in
    let w = in_place _ _ _ (sym c.place_of.ensures ∙ e) in
    let x = err_from_is_err_and c.from_residual-in_err-received.result c.from_residual-in_err-received.ensures.1 in
    rw (x.1, x.2) (taking-by _ _ _ _ _ w.0 w.1 _ (rw c.in_err-received.was at c.receive.ensures))

pub returns : goal.returns
returns c =
    let e : c.place_of.result ≡ Some c.in_ok-p.p = grind arith in
    let w = in_place _ _ _ (sym c.place_of.ensures ∙ e) in
    let due = (channel_at c.args.self.now c.in_ok-p.p).numbers.due in
    let next : c.map_or.result ≡ option_map_or (λ (d : Delivery). d.due) c.in_ok-received.received due = search rules in
    rw (next, kept c.in_ok-received.received (unit_of c.args.numbered c.args.whole.now) due, ← w.0) (taking-by _ _ _ _ _ w.0 w.1 _ (rw c.in_ok-received.was at c.receive.ensures))
