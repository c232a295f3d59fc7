-- The octets are written behind the header.
use Rattle.std.proofs.Common.{◌≡◌, refl, ap, ap₂, ◌∙◌, List, ◌++◌, ℕ, ◌+◌, ◌≤◌, arith, length}
use Rattle.octets.proofs.Laws.{fields-length}
use Rattle.octets.specs.Written.{written, written-append}
use Rattle.record.specs.Layout.{header_octets, header_widths}
use Rattle.record.specs.Walk.{head, head_numbers}
use Rattle.record.proofs.unit.Header.put.Goals as goal

-- a front that is h, and own behind it
both-written : (d own h : List ℕ) (to : ℕ) → length h ≡ header_octets → to + header_octets + length own ≤ length d → {front first last : List ℕ}
    → front ≡ h → first ≡ written d to front → last ≡ written first (to + header_octets) own → last ≡ written d to (h ++ own)
both-written d own h to long fits e f l =
    let place : to + header_octets ≡ to + length h = omega arith in
    l ∙ ap₂ (λ (x : List ℕ) (n : ℕ). written x n own) (f ∙ ap (written d to) e) place ∙ written-append d to h (omega arith) own

pub returns : goal.returns
returns c =
    let a = c.args in
    both-written a.output.now a.own.now (head a.self.now) a.to (fields-length header_widths (head_numbers a.self.now) refl) c.requires c.octets.ensures
    c.write.ensures c.write-2.ensures
