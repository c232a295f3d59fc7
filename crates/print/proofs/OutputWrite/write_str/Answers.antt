-- Text that has room is put behind what stands there, and other text octet by octet.
use Rattle.std.proofs.Common.{arith, ◌+◌, ◌-◌, length, take, get_or, ◌∷◌, [], refl, sym, ap, ◌∙◌}
use Rattle.std.proofs.lemmas.List.{take_more}
use Rattle.std.proofs.lemmas.Slice.{take-put_mid}
use Rattle.print.proofs.Resting.{rests-append}
use Rattle.print.proofs.OutputWrite.write_str.Goals as goal

pub loop-octet-preserved : goal.loop-octet-preserved
loop-octet-preserved g c =
    let s = c.as_bytes-octets.result.now in
    let i = c.loop-octet.octet-index in
    rw (take_more s i 0 (omega arith)) (rests-append {w = take c.store.new.self.n c.store.new.self.octets} (take i s) (get_or s i 0 ∷ []) c.loop-octet.invariant c.store.ensures)

pub returns-then-octets-self-clause-ok : goal.returns-then-octets-self-clause-ok
returns-then-octets-self-clause-ok g c = λ _.
    let s = c.args.self.now in
    let after = c.copy_from_slice.ensures.after in
    let end = s.n + length c.as_bytes-octets.result.now in
    let put = take-put_mid s.n (end - s.n) s.octets c.copy_from_slice.new.self end (ap (λ t. s.n + length t) (sym after)) (omega (arith, s.within, s.whole)) in
    rw (put, after ∙ c.as_bytes-octets.ensures.value) (record { times = 0; within = omega arith; rest = refl })
