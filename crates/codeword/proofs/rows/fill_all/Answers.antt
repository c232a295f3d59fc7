use Rattle.std.proofs.Common.{rules, ◌≡◌, ℕ, ◌<◌, arith, length, get_or}
use Rattle.codeword.proofs.Filling.{filling_start, filling-next}
use Rattle.codeword.proofs.rows.fill_all.Goals as goal

pub loop-r-init : goal.loop-r-init
loop-r-init c = filling_start

pub fill-requires : goal.fill-requires
fill-requires c = search (rules, c.requires.2 c.loop-r.r-index (search rules))

pub loop-r-preserved : goal.loop-r-preserved
loop-r-preserved c =
    let l = c.loop-r in
    let small : (i : ℕ) → i < l.r-index → get_or c.args.roots.now i 0 < 48 = λ i k. omega (arith, c.requires.2 i (search rules)) in
    filling-next small l.invariant c.fill.ensures

pub returns : goal.returns
returns c =
    let e : c.loop-r.r-index ≡ length c.args.roots.now = omega arith in
    rw e at c.loop-r.invariant
