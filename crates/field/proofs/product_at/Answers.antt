-- The product with a power is additive, and its images are the power's doublings.
use Rattle.std.proofs.Common.{◌≡◌, ◌+◌, ◌-◌, arith}
use Rattle.field.specs.Octet.{product, power, α}
use Rattle.field.specs.Octet.Laws.{product-sum}
use Rattle.field.proofs.Octet.Steps.{doublings_images}
use Rattle.field.proofs.product_at.Goals as goal

pub returns : goal.returns
returns c =
    let k = c.args.k in
    let p = c.args.powers.now in
    let eight : k + 8 - k ≡ 8 = omega arith in
    c.mapped.ensures.value (product (power α k)) (product-sum (power α k)) (rw eight (doublings_images p k c.requires.0 c.requires.1))
