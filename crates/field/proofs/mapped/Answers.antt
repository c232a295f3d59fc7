use Rattle.std.proofs.Common.{◌≡◌, ◌<◌, arith, length, take, length-take-le, get_or-take}
use Rattle.field.specs.Octet.Steps.{mapped_begin, mapped-step, mapped_end}
use Rattle.field.proofs.mapped.Goals as goal

pub loop-image-init : goal.loop-image-init
loop-image-init c = mapped_begin _ _

pub loop-image-preserved : goal.loop-image-preserved
loop-image-preserved c =
    let l = c.loop-image in
    let images = c.args.images.now in
    let eight : length (take 8 images) ≡ 8 = length-take-le 8 images c.requires in
    let below : l.image-index < 8 = omega arith in
    rw (c.sum-total.ensures, get_or-take 8 images l.image-index 0 below) (mapped-step l.image-index below l.invariant)

pub returns : goal.returns
returns c =
    let l = c.loop-image in
    let eight : length (take 8 c.args.images.now) ≡ 8 = length-take-le 8 c.args.images.now c.requires in
    let e : l.image-index ≡ 8 = omega arith in
    mapped_end c.ranges.b.fits (rw e at l.invariant)
