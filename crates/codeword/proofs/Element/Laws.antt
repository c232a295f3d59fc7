-- Powers of α, from octets to elements and back, by the laws of `specs/Element/Laws.antt`.
--
--   octet-pow       a power of α, as an octet
--   element-power   .. and the other way
--
-- Assumes nothing.
use Rattle.std.specs.Prelude.{◌≡◌, ℕ, zero, suc}
use Rattle.std.proofs.Common.{sym, ap, ap₂, ◌∙◌, lit<}
use Rattle.algebra.specs.Power.{pow}
use Rattle.algebra.proofs.Laws.{pow-zero, pow-suc}
use Rattle.field.specs.Octet as Octet
use Rattle.field.specs.Octet.Laws.{power_zero, power-suc}
use Rattle.codeword.specs.Element.{elements, element, octet, α}
use Rattle.codeword.specs.Element.Laws.{octet-element, octet-mul, octet_one, by-octet}

pub octet-pow : (k : ℕ) → octet (pow elements α k) ≡ Octet.power Octet.α k
octet-pow zero = ap octet (pow-zero elements α) ∙ octet_one ∙ sym (power_zero Octet.α)
octet-pow (suc k) =
    ap octet (pow-suc elements α k) ∙ octet-mul α (pow elements α k)
    ∙ ap₂ Octet.product (octet-element Octet.α (lit< tt)) (octet-pow k) ∙ sym (power-suc Octet.α k)

pub element-power : (k : ℕ) → element (Octet.power Octet.α k) ≡ pow elements α k
element-power k = by-octet _ _ (octet-pow k)
