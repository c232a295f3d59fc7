use Rattle.std.proofs.Common.{rules, ◌≡◌, refl, sym, ap, ◌∙◌, append-nil, Bool, ◌&&◌, ◌+◌, arith, get_or, length-set, drop_of_length-le, take_all, drop-set-lt, ◌<◌, ◌≤◌, length}
use Rattle.channels.proofs.Placing.{in_step, in_end, mapped_at, sought_number}
use Rattle.channels.specs.Channels.{place_of}
use mathlib.Core.Bool.{and-true, and_assoc}
use Rattle.channels.proofs.Channels.find.Goals as goal

pub loop-n-preserved : goal.loop-n-preserved
loop-n-preserved c =
    let s = c.args.self.now in
    let l = c.loop-n in
    let j = l.n-index in
    let n = get_or l.numbers j 0 in
    let h : j < length l.numbers = omega arith in
    let e : c.unwrap_or-p.result ≡ place_of s n =
    rw (c.unwrap_or-p.ensures, c.seek.ensures, c.numbers-seats.ensures, c.from.ensures) (sought_number s n (omega arith) (search rules)) in (
      l.invariant.0 ∙ ap (λ (b : Bool). l.all && b) (in_step s l.numbers j _ h e) ∙ sym (and_assoc l.all _ _),
      l.invariant.1 ∙ mapped_at (place_of s) l.numbers 0 l.numbers j h h
          ∙ rw (e, drop-set-lt (j + 1) l.numbers j (place_of s n) (omega arith)) refl,
      simp length-set l.invariant.2,
    )

pub returns : goal.returns
returns c =
    let l = c.loop-n in
    let s = c.args.self.now in
    let h : length l.numbers ≤ l.n-index = omega arith in (
      sym (l.invariant.0 ∙ rw (in_end s l.numbers l.n-index h) (and-true l.all)),
      sym (l.invariant.1 ∙ rw (take_all l.n-index l.numbers h, drop_of_length-le l.numbers h) (append-nil l.numbers)),
    )
