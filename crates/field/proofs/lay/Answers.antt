-- The powers are written once, and once more behind.
use Rattle.std.proofs.Common.{rules, refl}
use Rattle.field.proofs.Octet.Steps.{laid_twice}
use Rattle.field.proofs.lay.Goals as goal

pub returns : goal.returns
returns c =
    rw (c.write-2.ensures, c.write.ensures)
    (laid_twice _ c.args.powers.now refl (search rules) c.requires)
