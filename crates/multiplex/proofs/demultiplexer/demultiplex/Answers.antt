-- `demultiplexer::demultiplex` meets its contract: refusals 2 and 4, and then those of `sort`.
use Rattle.std.proofs.Common.{rules, sym, ◌∙◌, List, ℕ}
use Rattle.multiplex.proofs.Sorting.{demultiplexed-long, demultiplexed-none, demultiplexed_some}
use Rattle.multiplex.specs.Demultiplexer.{DemuxLent}
use Rattle.table.proofs.Laws.{defined_most}
use Rattle.multiplex.proofs.demultiplexer.demultiplex.Goals as goal
use Rattle.multiplex.proofs.demultiplexer.demultiplex.Goals.{Start}

module _ (c : Start) where
  abbrev lent : DemuxLent
  lent = record { channels = c.args.s.now; held = c.args.held.now; output = c.args.output.now; units = c.args.units.now }

  abbrev xs : List ℕ
  xs = c.args.payload.now

pub returns-then-payload-gt-LONGEST_PAYLOAD : goal.returns-then-payload-gt-LONGEST_PAYLOAD
returns-then-payload-gt-LONGEST_PAYLOAD c =
    let d = (goal.at.returns-then-payload-gt-LONGEST_PAYLOAD c).Start in
    sym (demultiplexed-long (lent d) c.args.mark (xs d) c.args.table.now c.args.code.0 c.if-payload-gt-LONGEST_PAYLOAD.true)

pub returns-then-not-is_defined : goal.returns-then-not-is_defined
returns-then-not-is_defined c =
    let d = (goal.at.returns-then-not-is_defined c).Start in
    let none = sym c.is_defined.ensures ∙ c.if-not-is_defined.true in
    sym (demultiplexed-none (lent d) c.args.mark (xs d) c.args.table.now c.args.code.0 c.if-payload-gt-LONGEST_PAYLOAD.false none)

pub sort-requires : goal.sort-requires
sort-requires c =
    (search rules, defined_most c.args.table.now c.args.code.0 (sym c.is_defined.ensures ∙ c.if-not-is_defined.false), search rules)

pub returns : goal.returns
returns c =
    let d = (goal.at.returns c).Start in
    c.sort.ensures
    ∙ sym (demultiplexed_some (lent d) c.args.mark (xs d) c.args.table.now c.args.code.0 c.if-payload-gt-LONGEST_PAYLOAD.false (sym c.is_defined.ensures ∙ c.if-not-is_defined.false))
