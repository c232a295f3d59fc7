-- Each field is what stands at its place, and the places follow on each other.
use Rattle.std.proofs.Common.{◌≡◌, refl, ap, ap₂, ◌∙◌, List, ◌++◌, ℕ, ◌+◌, arith, take, drop, take-add, drop-drop}
use Rattle.octets.specs.High.{first_octet}
use Rattle.record.proofs.unit.Header.read.Goals as goal

-- a part of w octets, and one of m behind it
parts_join : (s : List ℕ) (w m at next : ℕ) {x y : List ℕ} → at + w ≡ next → take w (drop at s) ≡ x → take m (drop next s) ≡ y
    → take (w + m) (drop at s) ≡ x ++ y
parts_join s w m at next n e f =
    take-add w m (drop at s) ∙ ap₂ (λ (a b : List ℕ). a ++ b) e (ap (take m) (drop-drop w at s ∙ ap (λ (i : ℕ). drop i s) n) ∙ f)

pub returns : goal.returns
returns c =
    let s = c.args.s.now in
    let given = c.type_inv.s in
    record {
      fit = (omega arith, (omega (arith, given 2), (omega (arith, given 3), (omega arith, (omega arith, tt)))));
      octets = parts_join s 2 8 0 2 refl c.two.ensures
          (parts_join s 1 7 2 3 refl (first_octet 2 s (omega (arith, c.requires)) (omega (arith, given 2)))
          (parts_join s 1 6 3 4 refl (first_octet 3 s (omega (arith, c.requires)) (omega (arith, given 3)))
          (parts_join s 2 4 4 6 refl c.two-2.ensures
          (parts_join s 4 0 6 10 refl c.four.ensures refl))));
    }
