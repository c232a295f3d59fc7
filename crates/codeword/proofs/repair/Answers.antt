-- A clean word is found as it is.
use Rattle.std.proofs.Common.{sym, ◌∙◌, arith, length}
use Rattle.codeword.proofs.Repairing.{clean_found, reads_true}
use Rattle.codeword.specs.Repair.{lending}
use Rattle.codeword.proofs.repair.Goals as goal

pub returns-then-clean : goal.returns-then-clean
returns-then-clean c =
    let a = c.args in
    let lent = lending a.repaired.now a.places.now in
    let reads = reads_true (length a.received.now) a.e lent (omega arith) (omega arith) (omega arith) (omega arith) in
    clean_found a.e a.received.now lent c.syndromes-s.result _ reads (omega arith) (λ i. (c.type_inv.received i).fits) c.syndromes-s.ensures
    (sym c.clean.ensures ∙ c.if-clean.true) c.write.ensures
