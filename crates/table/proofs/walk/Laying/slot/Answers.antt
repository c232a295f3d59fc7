-- Where no octet is left there is no slot; else one, of the octets that it has or that are left.
use Rattle.std.proofs.Common.{[], ◌∷◌, refl, arith}
use Rattle.table.proofs.Laying.{lays-none, lays_one}
use Rattle.table.proofs.walk.Laying.slot.Goals as goal

pub returns-then-left-eq0 : goal.returns-then-left-eq0
returns-then-left-eq0 c =
    let a = c.args in
    let s = a.self.now in
    record {
      lays = lays-none s.laid (record { channel = a.channel; octets = a.octets } ∷ []) s.channels.now s.lengths.now c.if-left-eq0.true;
      same_channels = refl;
      same_lengths = refl;
    }

pub returns : goal.returns
returns c =
    let a = c.args in
    let s = a.self.now in
    record {
      lays =
          lays_one s.laid _ (record { channel = a.channel; octets = a.octets }) _ s.channels.now s.lengths.now c.requires c.if-left-eq0.false
          (omega (arith, c.min-n.ensures)) refl (omega (arith, c.min-n.ensures));
      same_channels = refl;
      same_lengths = refl;
    }
