-- Each number is written behind the one before it.
use Rattle.std.proofs.Common.{◌≡◌, ◌∙◌, refl, w16, w32}
use Rattle.octets.specs.High.{high}
use Rattle.octets.proofs.Laws.{be_bytes-high}
use Rattle.record.specs.Walk.{head}
use Rattle.record.proofs.unit.Header.octets.Goals as goal

pub returns : goal.returns
unfolding high
returns c =
    let h = c.args.self.now in
    let channel : c.to_be_bytes.result ≡ high 2 h.numbers.channel = c.to_be_bytes.ensures ∙ be_bytes-high w16 h.numbers.channel in
    let long : c.to_be_bytes-2.result ≡ high 2 h.numbers.length = c.to_be_bytes-2.ensures ∙ be_bytes-high w16 h.numbers.length in
    let back : c.to_be_bytes-3.result ≡ high 4 h.back = c.to_be_bytes-3.ensures ∙ be_bytes-high w32 h.back in
    rw (c.write-3.ensures, c.write-2.ensures, c.write.ensures, channel, long, back) (refl {a = head h})
