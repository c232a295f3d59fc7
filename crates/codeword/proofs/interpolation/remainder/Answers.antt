use Rattle.std.proofs.Common.{◌+◌, rules}
use Rattle.codeword.proofs.Interpolating.{interpolates_start, interpolates-end}
use Rattle.codeword.proofs.interpolation.remainder.Goals as goal

pub loop-o-init : goal.loop-o-init
loop-o-init c = (search rules, interpolates_start)

pub loop-o-preserved : goal.loop-o-preserved
loop-o-preserved c = (search rules, c.interpolate.ensures)

pub returns : goal.returns
returns c =
    let l = c.loop-o in
    interpolates-end c.args.g.now.e l.o c.args.message.now _ _ _ c.requires.0 (search rules) (search rules) c.padded-w.ensures c.syndromes-s.ensures l.invariant.1

pub returns-2 : goal.returns-2
returns-2 c =
    interpolates-end c.args.g.now.e (c.loop-o.o + 16) c.args.message.now _ _ _ c.requires.0 (search rules) (search rules) c.padded-w.ensures
    c.syndromes-s.ensures c.interpolate.ensures
