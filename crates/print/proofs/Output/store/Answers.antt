-- The buffer has room, or is emptied.
use Rattle.std.proofs.Common.{arith, ap, ◌∙◌}
use Rattle.print.proofs.Resting.{rests-behind, rests-first}
use Rattle.print.proofs.Output.store.Goals as goal
use Rattle.print.proofs.Output.store.Goals.{then-self-eq-BUFFER, else-self-eq-BUFFER}

pub returns : goal.returns
returns g c = elim c.if-self-eq-BUFFER.branch [
  | then-self-eq-BUFFER w ↦ rests-first c.args.self.now.octets c.if-self-eq-BUFFER.self.octets c.args.self.now.n c.if-self-eq-BUFFER.self.n c.args.octet
      (ap (λ s. s.n) w.self-is ∙ w.end.ensures) w.if-self-eq-BUFFER.true c.args.self.now.whole (omega (arith, c.if-self-eq-BUFFER.self.whole))
  | else-self-eq-BUFFER w ↦ rests-behind c.args.self.now.octets c.if-self-eq-BUFFER.self.octets c.args.self.now.n c.if-self-eq-BUFFER.self.n c.args.octet
      (ap (λ s. s.n) w.self-is) (ap (λ s. s.octets) w.self-is) (omega (arith, c.args.self.now.whole, c.args.self.now.within, w.if-self-eq-BUFFER.false))
]
