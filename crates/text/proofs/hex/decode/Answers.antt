-- A text that is not `-` is pairs of digits with room for their octets, or it is bad.
use Rattle.std.proofs.Common.{◌≡◌, sym, ◌∙◌, true, false, [], ◌∷◌, ◌+◌, ◌*◌, ◌/◌, ◌%◌, ◌≤◌, zero-add, eqb-true, get_or, arith, rules, length}
use Rattle.octets.specs.Same.{same}
use Rattle.octets.specs.Written.{writing_none, writing_next, writing-all}
use Rattle.text.proofs.Decoding.{compared, decoded_dash, decoded-short, decoded_past, decoded_broken, decoded_good}
use Rattle.text.proofs.Pairs.{pairs-length, pairs-behind, pairs_turn}
use Rattle.text.specs.Hex.{is_hex, octets_of}
use Rattle.text.proofs.hex.decode.Goals as goal
use Rattle.text.proofs.hex.decode.Goals.{Else-eq, then-count-eq0-via-then-count-eq0, then-count-eq0-via-else-count-eq0+then-out-count}

no-dash : (c : Else-eq) → same c.args.text.now (45 ∷ []) ≡ false
no-dash c = sym (compared c.args.text.now (45 ∷ [])) ∙ sym (rw c.as_slice.ensures at c.eq.ensures) ∙ c.if-eq.false

pub returns-then-eq : goal.returns-then-eq
returns-then-eq c =
    let a = c.args in
    decoded_dash a.text.now a.out.now (sym (compared a.text.now (45 ∷ [])) ∙ sym (rw c.as_slice.ensures at c.eq.ensures) ∙ c.if-eq.true)

pub returns-then-count-eq0 : goal.returns-then-count-eq0
returns-then-count-eq0 c =
    let a = c.args in
    let other = no-dash (goal.at.returns-then-count-eq0 c).Else-eq in
    elim c.then-count-eq0.branch [
      | then-count-eq0-via-then-count-eq0 w ↦ decoded-short a.text.now a.out.now other (omega arith)
      | then-count-eq0-via-else-count-eq0+then-out-count w ↦ decoded_past a.text.now a.out.now other (omega arith)
    ]

pub returns-then-not-is_hex : goal.returns-then-not-is_hex
returns-then-not-is_hex c =
    let a = c.args in
    decoded_broken a.text.now a.out.now (no-dash (goal.at.returns-then-not-is_hex c).Else-eq) (sym c.is_hex.ensures ∙ c.if-not-is_hex.true)

pub loop-n-init : goal.loop-n-init
loop-n-init c = (writing_none _ _ _, sym c.is_hex.ensures ∙ c.if-not-is_hex.false)

pub unwrap-requires : goal.unwrap-requires
unwrap-requires c =
    let turn = pairs_turn c.args.text.now c.loop-n.n c.octet.result (omega arith) c.loop-n.invariant.1 c.octet.ensures in
    search (rules, turn.1)

pub loop-n-preserved : goal.loop-n-preserved
loop-n-preserved c =
    let text = c.args.text.now in
    let n = c.loop-n.n in
    let turn = pairs_turn text n c.octet.result (omega arith) c.loop-n.invariant.1 c.octet.ensures in
    let fits : 0 + length (octets_of text) ≤ length c.args.out.now = omega (arith, (pairs-length text).0) in
    let next = writing_next c.loop-n.invariant.0 0 fits (omega (arith, (pairs-length text).1)) in
    let read : c.unwrap.result ≡ get_or (octets_of text) n 0 = cc in
    (rw read (rw (zero-add n) at next), turn.0)

pub returns : goal.returns
returns c =
    let text = c.args.text.now in
    let n = c.loop-n.n in
    let few : 2 * n ≤ length text = omega arith in
    let even : length text % 2 ≡ 0 = eqb-true _ _ (sym (pairs-behind text n few (omega arith)) ∙ c.loop-n.invariant.1) in
    let count : length text / 2 ≡ length (octets_of text) = omega (arith, (pairs-length text).0, (pairs-length text).1) in
    let hex : is_hex text ≡ true = sym c.is_hex.ensures ∙ c.if-not-is_hex.false in
    decoded_good text c.args.out.now (no-dash (goal.at.returns c).Else-eq) (omega arith) hex (omega arith) _ _ count
    (writing-all c.loop-n.invariant.0 (omega arith))
