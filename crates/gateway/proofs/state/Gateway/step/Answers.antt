-- What is read is behind the front, and within the octets; a gap has octets where there are any.
use Rattle.std.proofs.Common.{ℕ, List, ◌≡◌, ◌-◌, arith, rules, take, drop, length, length-drop}
use Rattle.std.proofs.lemmas.List.{take_all}
use Rattle.gateway.proofs.Within.{reading-within}
use Rattle.gateway.proofs.state.Gateway.step.Goals as goal

rest : (u : List ℕ) (n : ℕ) → take (length u - n) (drop n u) ≡ drop n u
rest u n = take_all (length u - n) (drop n u) (rw length-drop (omega arith))

pub slice_bounds-result-count : goal.slice_bounds-result-count
slice_bounds-result-count g c =
    let h = reading-within c.args.octets.now _ _ c.read.ensures c.in-Ok.is in
    omega arith

pub slice_bounds-result-start : goal.slice_bounds-result-start
slice_bounds-result-start g c =
    let h = reading-within c.args.octets.now _ _ c.read.ensures c.in-Ok.is in
    search (rules, h)

pub returns-in-Ok : goal.returns-in-Ok
returns-in-Ok g c =
    let h = reading-within c.args.octets.now _ _ c.read.ensures c.in-Ok.is in
    (c.in-Ok.p.next, rest c.args.octets.now c.in-Ok.p.next, omega arith, λ some. h.0)

pub returns-in-Err : goal.returns-in-Err
returns-in-Err g c = (c.gap.result, rest c.args.octets.now c.gap.result, omega arith, λ some. omega arith)
