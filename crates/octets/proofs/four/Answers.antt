-- Each octet is the low end of a number that is an octet longer.
use Rattle.std.proofs.Common.{◌≡◌, ℕ, ◌<◌, ◌+◌, ◌*◌, ◌∙◌, ap, arith, get_or}
use Rattle.octets.specs.High.{high, first_octet}
use Rattle.octets.proofs.High.{octets_next}
use Rattle.octets.proofs.four.Goals as goal

pub returns : goal.returns
returns c =
    let at = c.args.at in
    let s = c.args.s.now in
    let small : (i : ℕ) → get_or s i 0 < 256 = λ i. omega (arith, c.type_inv.s i) in
    let n : ((get_or s at 0 * 256 + get_or s (at + 1) 0) * 256 + get_or s (at + 2) 0) * 256 + get_or s (at + 3) 0 ≡ c.from_be_bytes.result =
    omega (arith, c.from_be_bytes.ensures) in
    octets_next 3 at _ s (omega (arith, c.requires)) (small (at + 3))
    (octets_next 2 at _ s (omega (arith, c.requires)) (small (at + 2))
    (octets_next 1 at _ s (omega (arith, c.requires)) (small (at + 1))
    (first_octet at s (omega (arith, c.requires)) (small at)))) ∙ ap (high 4) n
