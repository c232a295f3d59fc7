-- One pair more is digits where the two have an octet.
use Rattle.std.proofs.Common.{rules, sym, ◌∙◌, ◌+◌, ◌*◌, arith, get_or}
use Rattle.text.proofs.Pairs.{pair_some, pair_none, pairs_on, pairs-behind}
use Rattle.text.proofs.hex.is_hex.Goals as goal

pub returns-then-is_none : goal.returns-then-is_none
returns-then-is_none c =
    let s = c.args.text.now in
    let n = c.loop-n.n in
    let on = c.loop-n.invariant ∙ pairs_on s n (omega arith) in
    sym (on ∙ rw (pair_none (get_or s (2 * n) 0) (get_or s (2 * n + 1) 0) c.octet.result c.octet.ensures (search rules)))

pub loop-n-preserved : goal.loop-n-preserved
loop-n-preserved c =
    let s = c.args.text.now in
    let n = c.loop-n.n in
    let on = c.loop-n.invariant ∙ pairs_on s n (omega arith) in
    on ∙ rw (pair_some (get_or s (2 * n) 0) (get_or s (2 * n + 1) 0) c.octet.result c.octet.ensures (search rules))

pub returns : goal.returns
returns c = sym (c.loop-n.invariant ∙ pairs-behind c.args.text.now c.loop-n.n (omega arith) (omega arith))
