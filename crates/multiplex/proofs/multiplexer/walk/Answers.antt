use Rattle.std.proofs.Common.{◌≡◌, refl, sym, ap, ◌∙◌, arith, rules, length, get_or, ◌<◌}
use Rattle.channels.proofs.Laws.{seat-sought, in_place, not_in, place-seats, seats-put}
use Rattle.channels.specs.Channels.{place_of, place_count}
use Rattle.channels.specs.Places.{number_of, place_in}
use Rattle.std.proofs.lemmas.List.{length-map}
use Rattle.multiplex.proofs.Steps.{begun, ended, closed, blocked, goes, last}
use Rattle.multiplex.proofs.Walking.{turn_on, turn_last}
use Rattle.multiplex.proofs.multiplexer.walk.Goals as goal
use Rattle.multiplex.proofs.multiplexer.walk.Goals.{After-seek, In_ok-p}

-- the channels keep their seats, so that a number is found where it was at first
sought : (c : After-seek) → c.seek.result ≡ place_in c.args.s.now (get_or c.loop-j.numbers c.loop-j.j 0)
sought c =
    let n = get_or c.loop-j.numbers c.loop-j.j 0 in
    let same = ap length c.numbers-seats.ensures ∙ length-map c.args.s.now.at number_of in
    let full : length c.args.s.now.at ≡ place_count = omega (arith, same) in
    (rw (c.numbers-seats.ensures, c.from.ensures) at c.seek.ensures) ∙ seat-sought c.args.s.now n full (search rules)

found : (c : In_ok-p) → c.seek.result ≡ place_in c.args.s.now (get_or c.loop-j.numbers c.loop-j.j 0)
    → (c.in_ok-p.p ≡ place_of c.loop-j.channels (get_or c.loop-j.numbers c.loop-j.j 0)) × (c.in_ok-p.p < place_count)
found c e =
    let n = get_or c.loop-j.numbers c.loop-j.j 0 in
    let w = in_place c.args.s.now n c.in_ok-p.p (sym e ∙ c.in_ok-p.was) in
    (w.0 ∙ place-seats c.args.s.now c.loop-j.channels (sym c.loop-j.invariant.1) n, w.1)

pub loop-j-init : goal.loop-j-init
loop-j-init c = (begun _ _ _ _, refl)

pub returns-in_err-p : goal.returns-in_err-p
returns-in_err-p c =
    let n = get_or c.loop-j.numbers c.loop-j.j 0 in
    let e = sought (goal.at.returns-in_err-p c).After-seek in
    let far = not_in c.args.s.now n (sym e ∙ c.in_err-p.was) in
    rw c.from_residual.ensures
    (closed _ _ _ _ _ _ _ _ _ c.requires c.loop-j.invariant.0 c.loop-j-test.true _ refl (omega (arith, far, place-seats c.args.s.now c.loop-j.channels (sym c.loop-j.invariant.1) n)))

pub returns-in-Stop : goal.returns-in-Stop
returns-in-Stop c =
    let w = found (goal.at.returns-in-Stop c).In_ok-p (sought (goal.at.returns-in-Stop c).After-seek) in
    blocked _ _ _ _ _ _ _ _ _ c.requires c.loop-j.invariant.0 c.loop-j-test.true _ w.0 w.1 c.in-Stop.ensures

pub leave-requires : goal.leave-requires
leave-requires c = (turn_on _ _ _ (sym c.in-On.ensures)).0

pub overflow_cast-lengths : goal.overflow_cast-lengths
overflow_cast-lengths c = omega (arith, (turn_on _ _ _ (sym c.in-On.ensures)).0)

pub overflow_add-octets : goal.overflow_add-octets
overflow_add-octets c = omega (arith, (turn_on _ _ _ (sym c.in-On.ensures)).0)

pub loop-j-preserved : goal.loop-j-preserved
loop-j-preserved c =
    let w = found (goal.at.loop-j-preserved c).In_ok-p (sought (goal.at.loop-j-preserved c).After-seek) in
    rw c.leave.ensures (
      goes _ _ _ _ _ _ _ _ _ c.requires c.loop-j.invariant.0 c.loop-j-test.true _ w.0 w.1 _ c.in-On.ensures,
      seats-put c.loop-j.channels _ _ refl ∙ c.loop-j.invariant.1,
    )

pub leave-requires-in-Last : goal.leave-requires-in-Last
leave-requires-in-Last c = (turn_last _ _ _ (sym c.in-Last.ensures)).0

pub overflow_cast-lengths-in-Last : goal.overflow_cast-lengths-in-Last
overflow_cast-lengths-in-Last c = omega (arith, (turn_last _ _ _ (sym c.in-Last.ensures)).0)

pub overflow_add-result-in-Last : goal.overflow_add-result-in-Last
overflow_add-result-in-Last c = omega (arith, (turn_last _ _ _ (sym c.in-Last.ensures)).0)

pub returns-in-Last : goal.returns-in-Last
returns-in-Last c =
    let w = found (goal.at.returns-in-Last c).In_ok-p (sought (goal.at.returns-in-Last c).After-seek) in
    rw c.leave-in-Last.ensures (last _ _ _ _ _ _ _ _ _ c.requires c.loop-j.invariant.0 c.loop-j-test.true _ w.0 w.1 _ c.in-Last.ensures)

pub returns : goal.returns
returns c = ended _ _ _ _ _ _ _ _ _ c.requires c.loop-j.invariant.0 c.loop-j-test.false
