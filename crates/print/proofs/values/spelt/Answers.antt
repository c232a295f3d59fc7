-- Digits are ASCII, so they are text.
use Rattle.std.proofs.Common.{ℕ, ◌%◌, ◌<◌, suc, true, List, [], ◌∷◌, get_or, arith, ap, ◌∙◌}
use Rattle.std.specs.Fmt.{digit_glyph}
use Rattle.std.specs.List.{flat_map}
use Rattle.std.specs.Str.{IsAscii}
use Rattle.std.proofs.lemmas.Bool.Decides.{nat_tests}
use Rattle.std.proofs.lemmas.List.{take_all}
use Rattle.std.proofs.lemmas.Str.{IsUtf8-from_ascii}
use Rattle.std.proofs.lemmas.Str.Ascii.{IsAscii-nil, IsAscii-cons}
use Rattle.print.specs.Text.{hex}
use Rattle.print.proofs.values.spelt.Goals as goal

IsAscii-hex : (s : List ℕ) → ((i : ℕ) → get_or s i 0 < 256) → IsAscii (flat_map hex s)
IsAscii-hex [] low = IsAscii-nil
IsAscii-hex (n ∷ s) low =
    let octet : n < 256 = low 0 in
    IsAscii-cons _ (digit_glyph true (n % 16) ∷ flat_map hex s) (grind (arith, nat_tests)) (IsAscii-cons _ (flat_map hex s) (grind (arith, nat_tests)) (IsAscii-hex s (λ i. low (suc i))))

pub unreachable-requires : goal.unreachable-requires
unreachable-requires c =
    let s = c.args.octets.now in
    let all = c.loop-octet.invariant.digits ∙ ap (flat_map hex) (take_all _ s (omega arith)) in
    c.in-Err.ensures.cases.0 (rw all (IsUtf8-from_ascii _ (IsAscii-hex s (λ i. (c.type_inv.octets i).fits))))
