use Rattle.std.proofs.Common.{rules, ◌≡◌, ◌+◌, ◌≤◌, arith, lit<, below_more, get_or}
use Rattle.codeword.specs.Lanes.{lanes}
use Rattle.codeword.proofs.search.least.Goals as goal

pub loop-i-init : goal.loop-i-init
loop-i-init c = record { octet = lit< tt; least = λ j l. absurd (omega arith); greatest = λ b l h. omega arith }

pub loop-i-preserved : goal.loop-i-preserved
loop-i-preserved c =
    let l = c.loop-i in
    let a = c.args in
    record {
      octet = search rules;
      least = below_more (λ j. c.min-r.result ≤ get_or a.v.now (a.o + j) 0) l.i (λ j k. omega (arith, c.min-r.ensures, l.invariant.least j k)) (omega (arith, c.min-r.ensures));
      greatest = λ b k h. omega (arith, c.min-r.ensures, l.invariant.greatest b k (λ j m. h j (omega arith)), h l.i (omega arith));
    }

pub returns : goal.returns
returns c =
    let e : c.loop-i.i ≡ lanes = omega arith in
    rw e at c.loop-i.invariant
