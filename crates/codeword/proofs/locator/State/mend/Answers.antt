use Rattle.std.proofs.Common.{rules, ◌≡◌, refl, inl, ◌+◌, ◌-◌, arith}
use Rattle.codeword.proofs.Mending.{block-low, mended_start, mended-next, kept_start, kept_next}
use Rattle.codeword.specs.Locator.{block_at}
use Rattle.codeword.proofs.locator.State.mend.Goals as goal

pub loop-i-init : goal.loop-i-init
loop-i-init c = (mended_start (search rules), kept_start (search rules), refl, refl, refl)

pub loop-i-preserved : goal.loop-i-preserved
loop-i-preserved c =
    let l = c.loop-i in
    let a = c.args in
    let same = l.invariant in
    let e : l.i ≡ l.i - 1 + 1 = omega arith in (
      mended-next a.low a.high (l.i - 1) c.requires.1 (search rules) c.block_at-o.ensures.at e l.self.v c.requires.3 same.0
          (λ j h. same.1.left j (inl h)) c.load-x.ensures c.load-y.ensures c.mix.ensures c.store.ensures,
      kept_next a.low a.high (l.i - 1) c.requires.1 (search rules) c.block_at-o.ensures.at e a.grows l.self.z same.1
          (λ k h. same.0.left k (inl h)) c.load-x.ensures c.keep.ensures,
      same.2,
      same.3,
      same.4,
    )

pub returns-clause-mended : goal.returns-clause-mended
returns-clause-mended c =
    let l = c.loop-i in
    let e : block_at c.args.low l.i ≡ 0 = omega (arith, block-low c.args.low l.i (omega (arith, c.requires.0))) in
    rw e at l.invariant.0

pub returns-clause-kept : goal.returns-clause-kept
returns-clause-kept c =
    let l = c.loop-i in
    let e : block_at c.args.low l.i ≡ 0 = omega (arith, block-low c.args.low l.i (omega (arith, c.requires.0))) in
    rw e at l.invariant.1
