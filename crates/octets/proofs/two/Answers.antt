-- The second octet is the number's low end.
use Rattle.std.proofs.Common.{◌≡◌, ℕ, ◌<◌, ◌+◌, ◌*◌, ◌∙◌, ap, arith, get_or}
use Rattle.octets.specs.High.{high, first_octet}
use Rattle.octets.proofs.High.{octets_next}
use Rattle.octets.proofs.two.Goals as goal

pub returns : goal.returns
returns c =
    let a = c.args in
    let s = a.s.now in
    let small : (i : ℕ) → get_or s i 0 < 256 = λ i. omega (arith, c.type_inv.s i) in
    let n : get_or s a.at 0 * 256 + get_or s (a.at + 1) 0 ≡ c.from_be_bytes.result = omega (arith, c.from_be_bytes.ensures) in
    octets_next 1 a.at _ s (omega (arith, c.requires)) (small (a.at + 1))
    (first_octet a.at s (omega (arith, c.requires)) (small a.at)) ∙ ap (high 2) n
