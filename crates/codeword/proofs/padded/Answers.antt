-- What is written over zeros has zeros behind.
use Rattle.std.proofs.Common.{sym, subst, rules}
use Rattle.codeword.proofs.Arrays.{padded_is}
use Rattle.codeword.specs.CodeWord.{longest_word}
use Rattle.codeword.specs.Register.{Padded}
use Rattle.codeword.proofs.padded.Goals as goal

pub returns : goal.returns
returns c = subst (Padded longest_word c.args.s.now) (sym c.write.ensures) (padded_is longest_word c.args.s.now (search rules))
