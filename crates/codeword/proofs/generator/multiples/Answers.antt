use Rattle.std.proofs.Common.{rules}
use Rattle.codeword.proofs.Generating.{multiple-is}
use Rattle.codeword.proofs.Laning.{filled_by}
use Rattle.codeword.proofs.generator.multiples.Goals as goal

pub returns : goal.returns
returns c = filled_by _ _ _ 16 (λ k y q l h. search (rules, multiple-is c.args.c k)) c.from_fn.ensures.items
