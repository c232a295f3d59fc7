-- The word is written behind zeros, and laid in rows.
use Rattle.std.proofs.Common.{rules, refl}
use Rattle.codeword.proofs.Arrays.{replicate-at}
use Rattle.codeword.proofs.Columns.{rows_are}
use Rattle.codeword.proofs.rows.rows_of.Goals as goal

pub returns : goal.returns
returns c =
    let w = c.args.word.now in
    rows_are _ w _ (replicate-at 256) refl (search rules) (rw c.write.ensures at c.lay.ensures)
