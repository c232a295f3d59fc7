-- The columns are filled in at the roots of the one polynomial, of the other, and at 1; then all are repeated.
use Rattle.std.proofs.Common.{rules, [], ◌∷◌}
use Rattle.codeword.proofs.Folds.{is_small, are_small, residue-roots, other-roots, roots_small, residues_gained, others_gained, last_gained, others-past, values_are, few_values_are}
use Rattle.codeword.proofs.rows.values.Goals as goal
use Rattle.codeword.proofs.rows.values.Goals.{then-m-gt2, else-m-gt2}

pub fill_all-requires : goal.fill_all-requires
unfolding is_small are_small
fill_all-requires c = (search rules, search rules, roots_small residue-roots tt)

pub fill_all-requires-then-m-gt2 : goal.fill_all-requires-then-m-gt2
unfolding is_small are_small
fill_all-requires-then-m-gt2 c = (search rules, search rules, roots_small other-roots tt)

pub fill_all-requires-then-m-gt16 : goal.fill_all-requires-then-m-gt16
unfolding is_small are_small
fill_all-requires-then-m-gt16 c = (search rules, search rules, roots_small (17 ∷ []) tt)

pub returns-then-m-gt16 : goal.returns-then-m-gt16
returns-then-m-gt16 c =
    let are = c.rows_of-rows.ensures in
    values_are (residues_gained are c.fold-f.ensures c.fill_all.ensures)
    (elim c.if-m-gt2.branch [ then-m-gt2 w ↦ rw w.v-is (others_gained are w.fold-g.ensures w.fill_all-then-m-gt2.ensures) | else-m-gt2 w ↦ rw w.v-is (others-past w.if-m-gt2.false) ])
    (last_gained are c.fill_all-then-m-gt16.ensures) c.repeat.ensures

pub returns-else-m-gt16 : goal.returns-else-m-gt16
returns-else-m-gt16 c =
    let are = c.rows_of-rows.ensures in
    few_values_are c.if-m-gt16.false (residues_gained are c.fold-f.ensures c.fill_all.ensures)
    (elim c.if-m-gt2.branch [ then-m-gt2 w ↦ rw w.v-is (others_gained are w.fold-g.ensures w.fill_all-then-m-gt2.ensures) | else-m-gt2 w ↦ rw w.v-is (others-past w.if-m-gt2.false) ])
