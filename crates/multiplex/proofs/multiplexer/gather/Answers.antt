use Rattle.std.proofs.Common.{◌+◌, ◌≤◌, arith, ◌∷◌, length, drop, length-take}
use Rattle.std.proofs.lemmas.List.{length_push}
use Rattle.std.proofs.lemmas.Slice.Zip.{zip_turn, zip_end}
use Rattle.multiplex.proofs.Gathering.{Gathering, gathers-at, first_moves, gathers-next, gathers-end, leaves-end}
use Rattle.multiplex.specs.Pieces.{piece, laid}
use Rattle.multiplex.proofs.multiplexer.gather.Goals as goal
use Rattle.multiplex.proofs.multiplexer.gather.Goals.{After-from-k}

-- this turn's piece, and those behind it
here : (c : After-from-k) → let l = laid c.args.places.now c.args.lengths.now in
    Gathering c.args.s.now c.args.waiting.now l c.args.payload.now c.loop-place.payload c.loop-place.s c.loop-place.at
    (piece c.from-p.result c.from-k.result ∷ drop (length c.loop-place.yielded + 1) l)
here c =
    let ps = c.args.places.now in
    let ls = c.args.lengths.now in
    let z = zip_turn ps ls _ c.into_iter-place-iterator.result _ c.next.new.self _ (cc) (cc) c.loop-place.yielded_by _ c.in-Some.is c.next.ensures.steps in
    rw (c.from-p.ensures, c.from-k.ensures, z.2 0, z.3 0) (gathers-at _ _ _ _ _ _ _ ps ls (length c.loop-place.yielded) z.0 z.1 c.loop-place.invariant)

pub bounds-s-p : goal.bounds-s-p
bounds-s-p c = (first_moves _ _ _ _ _ _ _ _ _ (here (goal.at.bounds-s-p c).After-from-k)).0

pub slice_bounds-write-end : goal.slice_bounds-write-end
slice_bounds-write-end c =
    let m = first_moves _ _ _ _ _ _ _ _ _ (here (goal.at.slice_bounds-write-end c).After-from-k) in
    omega (arith, m.0, m.1)

pub write-requires : goal.write-requires
write-requires c =
    let m = first_moves _ _ _ _ _ _ _ _ _ (here (goal.at.write-requires c).After-from-k) in
    simp length-take (omega (arith, m.2))

pub bounds-s-p-in-loop-place : goal.bounds-s-p-in-loop-place
bounds-s-p-in-loop-place c = (first_moves _ _ _ _ _ _ _ _ _ (here (goal.at.bounds-s-p-in-loop-place c).After-from-k)).0

pub leave-requires : goal.leave-requires
leave-requires c = (first_moves _ _ _ _ _ _ _ _ _ (here (goal.at.leave-requires c).After-from-k)).1

pub loop-place-preserved : goal.loop-place-preserved
loop-place-preserved c =
    rw (c.leave.ensures, length_push)
    (gathers-next _ _ _ _ _ _ _ _ _ (here (goal.at.loop-place-preserved c).After-from-k) c.requires.0 _ (rw c.waits.ensures) _ c.write.ensures)

pub returns : goal.returns
returns c =
    let ps = c.args.places.now in
    let ls = c.args.lengths.now in
    let e = zip_end ps ls _ c.into_iter-place-iterator.result _ c.next.new.self _ (cc) (cc) c.loop-place.yielded_by c.in-None.is c.next.ensures.steps in
    let all : length ps ≤ length c.loop-place.yielded = omega (arith, e, c.requires.1) in
    record {
      payload = gathers-end _ _ _ _ _ _ _ ps ls _ all c.loop-place.invariant;
      channels = leaves-end _ _ _ _ _ _ _ ps ls _ all c.loop-place.invariant;
    }
