-- The table lays the slots down, the walk puts the pieces in their stead, and what they send is gathered.
use Rattle.std.proofs.Common.{rules, ◌≡◌, refl, sym, ◌∙◌, arith, length, length-take-le}
use Rattle.std.specs.Prelude.{Some, None}
use Rattle.std.proofs.lemmas.Result.{err_from_is_err_and}
use Rattle.calls.specs.declared.Refusal.TheVariants.{NotOpen}
use Rattle.multiplex.proofs.Packing.{lays-numbers, lays-lengths, walk_over, walk-sendable, walk-fits, walk-sends, packed-closed, packed_empty, packed-sent}
use Rattle.multiplex.specs.Multiplexer.{walked}
use Rattle.multiplex.specs.Walks.{Walks, WalkIs}
use Rattle.table.specs.Slots.{payload_slots}
use Rattle.table.specs.Table.{entry_of, longest_payload}
use Rattle.multiplex.proofs.multiplexer.pack.Goals as goal
use Rattle.multiplex.proofs.multiplexer.pack.Goals.{After-payload_slots-laid, After-walk, In_ok-w}

-- the lists have as many places as before
long : (c : After-payload_slots-laid)
    → (length c.payload_slots-laid.new.channels ≡ longest_payload) × (length c.payload_slots-laid.new.lengths ≡ longest_payload)
long c =
    (lays-numbers _ _ c.requires.0 _ _ _ _ _ c.payload_slots-laid.ensures refl refl, lays-lengths _ _ c.requires.0 _ _ _ _ _ c.payload_slots-laid.ensures refl refl)

-- the walk goes over the slots that the table laid down
walks : (c : After-walk) → Walks (walked c.args.s.now (payload_slots (entry_of c.args.table.now c.args.code.0) c.args.room)) c.walk.result c.walk.new.numbers
    c.walk.new.lengths
walks c = walk_over _ _ c.requires.0 _ _ _ _ _ c.payload_slots-laid.ensures refl refl _ _ _ _ c.walk.ensures

sends : (c : In_ok-w) → Walks (walked c.args.s.now (payload_slots (entry_of c.args.table.now c.args.code.0) c.args.room)) c.walk.result c.walk.new.numbers
    c.walk.new.lengths
    → WalkIs (walked c.args.s.now (payload_slots (entry_of c.args.table.now c.args.code.0) c.args.room)) c.in_ok-w.w c.walk.new.numbers c.walk.new.lengths
sends c is = let e : c.walk.result ≡ Some c.in_ok-w.w = grind arith in rw e at is

pub returns-in_err-w : goal.returns-in_err-w
returns-in_err-w c =
    let p = err_from_is_err_and c.from_residual.result c.from_residual.ensures.1 in
    let none : c.walk.result ≡ None = grind arith in
    let e : c.in_err-w.field-0.0 ≡ NotOpen = grind arith in
    rw (p.1, p.2, e) (packed-closed _ _ _ (rw none at (walks (goal.at.returns-in_err-w c).After-walk)))

pub returns-then-w-eq0 : goal.returns-then-w-eq0
returns-then-w-eq0 c =
    packed_empty _ _ _ _ _ _ (sends (goal.at.returns-then-w-eq0 c).In_ok-w (walks (goal.at.returns-then-w-eq0 c).After-walk)) c.if-w-eq0.true

pub gather-requires : goal.gather-requires
gather-requires c =
    let d = (goal.at.gather-requires c).After-payload_slots-laid in
    let is = sends (goal.at.gather-requires c).In_ok-w (walks (goal.at.gather-requires c).After-walk) in
    let ps = length-take-le c.in_ok-w.w.count c.walk.new.numbers (rw (c.walk.auto.numbers, (long d).0) is.within) in
    let ls = length-take-le c.in_ok-w.w.count c.walk.new.lengths (rw (c.walk.auto.lengths, (long d).1) is.within) in (
      search rules,
      ps ∙ sym ls,
      walk-sendable _ _ c.requires.0 _ _ _ _ is,
      omega (arith, walk-fits _ _ c.requires.0 _ _ _ _ is, c.requires.2),
    )

pub returns : goal.returns
returns c =
    let is = sends (goal.at.returns c).In_ok-w (walks (goal.at.returns c).After-walk) in
    rw (c.gather.ensures.payload, c.gather.ensures.channels ∙ walk-sends _ _ c.requires.0 _ _ _ _ is)
    (packed-sent _ _ _ _ _ _ is c.if-w-eq0.false)
