use Rattle.std.proofs.Common.{rules, ◌≡◌, refl, sym, ◌∙◌, ◌∷◌, ◌+◌, ◌<◌, arith, length, drop}
use Rattle.std.proofs.lemmas.List.{length_push}
use Rattle.std.proofs.lemmas.Slice.Zip.{zip_turn, zip_end}
use Rattle.channels.specs.Channels.{channel_at, place_count}
use Rattle.multiplex.proofs.Slotting.{paired-end}
use Rattle.multiplex.proofs.Tallying.{at-once-most, piece-at, fits_met, fits_missed, fits-end, way-none, way_next, way-all}
use Rattle.multiplex.specs.Pieces.{piece, laid}
use Rattle.multiplex.proofs.demultiplexer.count_all.Goals as goal
use Rattle.multiplex.proofs.demultiplexer.count_all.Goals.{After-from-p}

-- this turn's piece
turn : (c : After-from-p) → let j = length c.loop-place.yielded in let l = laid c.args.places.now c.args.lengths.now in
    (c.from-p.result < place_count) × (drop j l ≡ piece c.from-p.result c.in-Some.n.now ∷ drop (j + 1) l)
turn c =
    let z = zip_turn c.args.places.now c.args.lengths.now _ c.into_iter-place-iterator.result _ c.next.new.self _ (cc) (cc) c.loop-place.yielded_by _ c.in-Some.is c.next.ensures.steps in
    piece-at c.requires z.0 (c.from-p.ensures ∙ z.2 0) (z.3 0)

pub loop-place-init : goal.loop-place-init
loop-place-init c = rw c.new-tally.ensures (refl, (λ h xs k. (_, _, way-none _ h _ xs k)), search rules, search rules)

pub returns-then-not-has_room : goal.returns-then-not-has_room
returns-then-not-has_room c =
    let w = turn (goal.at.returns-then-not-has_room c).After-from-p in
    sym (c.loop-place.invariant.0 ∙ fits_missed _ _ _ w.1 (sym c.has_room.ensures ∙ c.if-not-has_room.true))

pub loop-place-preserved : goal.loop-place-preserved
loop-place-preserved c =
    let w = turn (goal.at.loop-place-preserved c).After-from-p in
    let o = c.loop-place in
    let p = c.from-p.result in
    let n = c.in-Some.n.now in
    let on = channel_at o.tally.channels p in
    let room = sym c.has_room.ensures ∙ c.if-not-has_room.false in
    rw (c.add.ensures, length_push) (
      o.invariant.0 ∙ fits_met o.tally.channels p n w.1 room,
      (λ h xs k. let v = o.invariant.1 h xs k in (_, _, way_next v.2 p n w.1 _ _ refl refl)),
      omega (arith, at-once-most on n),
      omega (arith, at-once-most on 1),
    )

pub returns : goal.returns
returns c =
    let o = c.loop-place in
    let ps = c.args.places.now in
    let ls = c.args.lengths.now in
    let e = zip_end ps ls _ c.into_iter-place-iterator.result _ c.next.new.self _ (cc) (cc) o.yielded_by c.in-None.is c.next.ensures.steps in
    let end = paired-end piece ps ls (length o.yielded) (omega (arith, e, c.requires.same)) in
    (sym (o.invariant.0 ∙ fits-end o.tally.channels end), λ h xs k. let w = o.invariant.1 h xs k in rw (way-all w.2 end) at w.2.tallies)
