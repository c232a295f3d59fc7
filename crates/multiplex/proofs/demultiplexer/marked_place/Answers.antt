-- No place is the last of none.
use Rattle.std.proofs.Common.{refl, length, ◌-◌}
use Rattle.std.proofs.lemmas.Option.{unwrap_or-slice_get}
use Rattle.channels.specs.Channels.{place_count}
use Rattle.multiplex.proofs.demultiplexer.marked_place.Goals as goal

pub returns-in_default-clause-place : goal.returns-in_default-clause-place
returns-in_default-clause-place c =
    let ps = c.args.places.now in
    rw (c.if-not-mark.false, ← unwrap_or-slice_get ps (length ps - 1) place_count, ← c.last.ensures.value, c.in_default.is) refl
