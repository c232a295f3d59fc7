use Rattle.std.proofs.Common.{rules, ◌≡◌, ◌∙◌, sym, suc, ◌+◌, ◌-◌, arith}
use Rattle.field.specs.Octet.Steps.{part_octet, product_begin, product-step, product_end}
use Rattle.field.proofs.product.Goals as goal

pub loop-init : goal.loop-init
loop-init c = (search rules, product_begin _ _ c.ranges.a.fits)

pub overflow_mul-bits : goal.overflow_mul-bits
overflow_mul-bits c = let l = c.loop in record { fits = part_octet l.multiple l.bits l.invariant.0 }

pub loop-preserved : goal.loop-preserved
loop-preserved c =
    let l = c.loop in
    let n = 8 - (l.counter + 1) in
    let e : 8 - l.counter ≡ suc n = omega arith in
    (search rules, (rw (c.sum-total.ensures, c.double-multiple.ensures) (product-step l.total n l.multiple l.bits)) ∙ (rw e at l.invariant.1))

pub returns : goal.returns
returns c =
    let l = c.loop in
    let e : 8 - l.counter ≡ 0 = omega arith in
    sym (product_end l.total l.multiple l.bits) ∙ (rw e at l.invariant.1)
