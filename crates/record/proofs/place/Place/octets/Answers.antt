-- Each number is written behind the one before it.
use Rattle.std.proofs.Common.{◌≡◌, ◌∙◌, refl, w16, w32}
use Rattle.octets.specs.High.{high}
use Rattle.octets.proofs.Laws.{be_bytes-high}
use Rattle.record.specs.Walk.{place_octets}
use Rattle.record.proofs.place.Place.octets.Goals as goal

pub returns : goal.returns
unfolding high
returns c =
    let q = c.args.self.now in
    let channel : c.to_be_bytes.result ≡ high 2 q.channel = c.to_be_bytes.ensures ∙ be_bytes-high w16 q.channel in
    let last : c.to_be_bytes-2.result ≡ high 4 q.last = c.to_be_bytes-2.ensures ∙ be_bytes-high w32 q.last in
    let units : c.to_be_bytes-3.result ≡ high 4 q.units = c.to_be_bytes-3.ensures ∙ be_bytes-high w32 q.units in
    let damaged : c.to_be_bytes-4.result ≡ high 4 q.damaged = c.to_be_bytes-4.ensures ∙ be_bytes-high w32 q.damaged in
    rw (c.write-4.ensures, c.write-3.ensures, c.write-2.ensures, c.write.ensures, channel, last, units, damaged) (refl {a = place_octets q})
