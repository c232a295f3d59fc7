-- The claims on a record's form (specs/Form.antt). Those on its units, its trailer and its octets, and that nothing
-- else has its form, are proved in FormedUnits.antt, FormedTrailer.antt, FormedOctets.antt and FormedOnly.antt.
--
--   taken_exactly   which lists the writer takes
--   empty_record    the record of no units
--   first_twelve    the first twelve octets of the ticket's example
--   formed          all of it
--
-- Assumes nothing.
use mathlib.Core.Path.{refl, subst}
use mathlib.Core.List.{List, reverse}
use Prim.Native.Nat.{ℕ, ◌≤◌}
use native.Mathlib.Omega.{arith}
use lib.ListN.{length}
use Rattle.octets.specs.High.{high}
use Rattle.record.specs.Recorded.{flat}
use Rattle.record.specs.Layout.{total, last, backed}
use Rattle.record.specs.Trailer.{used, most_channels}
use Rattle.record.specs.Form.{TakenExactly, EmptyRecord, FirstTwelve, Formed}
use Rattle.record.proofs.Acceptable.{numbers_are, ranges_are, lists_are}
use Rattle.record.proofs.Good.{whole_exactly}
use Rattle.record.proofs.Channelled.{offset-total, used-channels, channels_only}
use Rattle.record.proofs.FormedUnits.{units_stand}
use Rattle.record.proofs.FormedTrailer.{trailers_stand}
use Rattle.record.proofs.FormedOctets.{record_octets}
use Rattle.record.proofs.FormedOnly.{form_only}

-- ---- ranges

pub taken_exactly : TakenExactly
taken_exactly us = (
  λ t. (t.ranges, (used (reverse us), used-channels us, t.channels), omega (arith, offset-total us, t.before)),
  λ h. record {
    ranges = h.0;
    channels = subst (λ (l : List ℕ). length l ≤ most_channels) (channels_only us h.1.0 h.1.1) h.1.2;
    before = omega (arith, offset-total us, h.2);
  },
)

-- ---- the examples

pub empty_record : EmptyRecord
unfolding high flat backed total used
empty_record = refl

pub first_twelve : FirstTwelve
unfolding high flat backed last
first_twelve = refl

pub formed : Formed
formed = record {
  octets = λ us t. record_octets us t.ranges;
  only = form_only;
  units_stand = units_stand;
  trailers_stand = trailers_stand;
  numbers_are = numbers_are;
  ranges_are = ranges_are;
  lists_are = lists_are;
  whole_exactly = whole_exactly;
  taken_exactly = taken_exactly;
  empty = empty_record;
  first_twelve = first_twelve;
}
