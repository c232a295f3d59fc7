use Rattle.std.proofs.Common.{◌≡◌, refl, sym, ap, ◌∙◌, true, List, ◌∷◌, ℕ, ◌+◌, ◌≤◌, ◌<◌, arith, length, take, drop, length-take-le}
use Rattle.std.proofs.lemmas.List.{length_push}
use Rattle.std.proofs.lemmas.Slice.Zip.{zip_turn, zip_end}
use Rattle.channels.specs.Channels.{channel_at, place_count}
use Rattle.table.specs.Table.{longest_payload}
use Rattle.multiplex.proofs.Slotting.{paired-end}
use Rattle.multiplex.proofs.Tallying.{at-once-most, piece-at, fits_met, fits-split, Way, way-within, way_next, way-room, way-all}
use Rattle.multiplex.specs.Pieces.{Piece, piece, laid}
use Rattle.multiplex.specs.Demultiplexer.{took, room_in}
use Rattle.multiplex.specs.Tally.{counts, RoomFor}
use Rattle.multiplex.specs.declared.demultiplexer.Tally.{Tally}
use Rattle.multiplex.proofs.demultiplexer.pour.Goals as goal
use Rattle.multiplex.proofs.demultiplexer.pour.Goals.{After-from-p, After-split_at}
use Rattle.multiplex.proofs.demultiplexer.pour.Invariants.{Pouring}

-- this turn's piece
turn : (c : After-from-p) → let j = length c.loop-place.yielded in let l = laid c.args.places.now c.args.lengths.now in
    (c.from-p.result < place_count) × (drop j l ≡ piece c.from-p.result c.in-Some.n.now ∷ drop (j + 1) l) × (j < longest_payload)
turn c =
    let z = zip_turn c.args.places.now c.args.lengths.now _ c.into_iter-place-iterator.result _ c.next.new.self _ (cc) (cc) c.loop-place.yielded_by _ c.in-Some.is c.next.ensures.steps in
    let here = piece-at c.requires.given.pieces z.0 (c.from-p.ensures ∙ z.2 0) (z.3 0) in
    (here.0, here.1, omega (arith, z.0, c.requires.given.pieces.few))

pub split_at-requires : goal.split_at-requires
split_at-requires c =
    let w = turn (goal.at.split_at-requires c).After-from-p in
    omega (arith, c.from.ensures, way-within c.loop-place.invariant.way c.from-p.result c.in-Some.n.now w.1)

-- .. is written and counted
abbrev This : After-split_at → Type 0
This c =
    let j = length c.loop-place.yielded in let l = laid c.args.places.now c.args.lengths.now in
    (c.from-p.result < place_count) × (drop j l ≡ piece c.from-p.result c.in-Some.n.now ∷ drop (j + 1) l) × (j < longest_payload)

module _ (c : After-split_at) (w : This c) where
  abbrev l : List Piece
  l = laid c.args.places.now c.args.lengths.now

  abbrev t : Tally
  t = c.loop-place.tally

  abbrev j : ℕ
  j = length c.loop-place.yielded

  abbrev p : ℕ
  p = c.from-p.result

  abbrev n : ℕ
  n = c.in-Some.n.now

  abbrev inv : Pouring c.args.s.now c.args.held.now l c.args.payload.now c.args.output.now c.args.units.now c.loop-place.held c.loop-place.output
      c.loop-place.units t c.loop-place.rest.now j
  inv = c.loop-place.invariant

  within : n ≤ length c.loop-place.rest.now
  within = omega (arith, way-within inv.way p n w.1)

  x-is : c.split_at.result.0.now ≡ take n c.loop-place.rest.now
  x-is = rw c.from.ensures at c.split_at.ensures.front

  exact : length c.split_at.result.0.now ≡ n
  exact = ap length x-is ∙ length-take-le n c.loop-place.rest.now within

  room : room_in (channel_at t.channels p) n ≡ true
  room = (fits-split t.channels p n w.1 inv.fit).0

  next : Way c.args.s.now c.args.held.now l c.args.payload.now (j + 1) (counts t p n) (took inv.far p c.split_at.result.0.now) c.split_at.result.1.now
  next = way_next inv.way p n w.1 _ _ (sym x-is) (sym (rw c.from.ensures at c.split_at.ensures.back))

  next-room : RoomFor c.args.output.now c.args.units.now (took inv.far p c.split_at.result.0.now)
  next-room = way-room next c.args.output.now c.args.units.now c.requires.room

pub put-requires : goal.put-requires
put-requires c =
    let k = (goal.at.put-requires c).After-split_at in
    let w = turn (goal.at.put-requires c).After-from-p in
    let e = exact k w in
    let v = inv k w in
    record {
      near = w.0;
      short = rw e (omega (arith, within k w, v.octets_most, c.requires.given.short));
      room = rw e (room k w);
      octets_small = omega (arith, v.octets_most, c.requires.given.short);
      count_small = omega (arith, v.units_most, w.2);
      output = rw e (omega (arith, (next k w).tallies.octets, (next-room k w).output, v.same_output));
      units = omega (arith, (next k w).tallies.units, (next k w).tallies.even, (next-room k w).units, v.same_units);
      whole = v.same_held ∙ c.requires.given.whole;
    }

pub add-requires : goal.add-requires
add-requires c =
    let k = (goal.at.add-requires c).After-split_at in
    let w = turn (goal.at.add-requires c).After-from-p in
    record { near = w.0; room = room k w; octets = omega (arith, (inv k w).octets_most, c.requires.given.short); units = omega (arith, (inv k w).units_most, w.2) }

pub loop-place-preserved : goal.loop-place-preserved
loop-place-preserved c =
    let k = (goal.at.loop-place-preserved c).After-split_at in
    let w = turn (goal.at.loop-place-preserved c).After-from-p in
    let v = inv k w in
    let a = c.args in
    let kept = c.put.auto in
    let on = channel_at (t k w).channels (p k w) in
    rw (c.add.ensures, length_push) (record {
      far = took v.far (p k w) c.split_at.result.0.now;
      way = next k w;
      shows = c.put.ensures.more refl v.way.tallies (way-room v.way a.output.now a.units.now c.requires.room) v.shows;
      fit = sym (fits_met (t k w).channels (p k w) (n k w) w.1 (room k w)) ∙ v.fit;
      octets_most = omega (arith, at-once-most on (n k w), v.octets_most, within k w, c.split_at.ensures.back_len, c.from.ensures);
      units_most = omega (arith, at-once-most on 1, v.units_most);
      same_held = kept.held ∙ v.same_held;
      same_output = kept.output ∙ v.same_output;
      same_units = kept.units ∙ v.same_units;
    })

pub returns : goal.returns
returns c =
    let o = c.loop-place in
    let ps = c.args.places.now in
    let ls = c.args.lengths.now in
    let e = zip_end ps ls _ c.into_iter-place-iterator.result _ c.next.new.self _ (cc) (cc) o.yielded_by c.in-None.is c.next.ensures.steps in
    let end = paired-end piece ps ls (length o.yielded) (omega (arith, e, c.requires.given.pieces.same)) in
    let d = way-all o.invariant.way end in
    record { tallies = rw d at o.invariant.way.tallies; shows = rw d at o.invariant.shows }
