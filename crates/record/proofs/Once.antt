-- Writing and reading end in one way: numbers and octets are those of one list, and octets are the record of one list.
--
--   record-once       a record is that of one list
--   writing-once      two answers to what is lent to the writer end alike
--   reading-once      .. and two to what is read
--   writes_once, reads_once   the claims of specs/Claims.antt
--
-- Assumes nothing.
use mathlib.Core.Path.{◌≡◌, refl, sym, ap, ◌∙◌}
use mathlib.Core.List.{List, []}
use Prim.Native.Nat.{ℕ, ◌+◌, ◌-◌}
use native.Mathlib.Omega.{arith}
use lib.ListN.{length}
use Rattle.record.specs.Recorded.{Recorded}
use Rattle.record.specs.Layout.{backed}
use Rattle.record.specs.Trailer.{trailer_octets}
use Rattle.record.specs.Call.{IsRecord, Listing, listed, none, writing, Contents, kept, broken, ReadLent, reading}
use Rattle.record.specs.Walk.{units_of}
use Rattle.record.specs.Claims.{WritesOnce, ReadsOnce}
use Rattle.record.proofs.Listing.{lent_same}
use Rattle.record.proofs.Backing.{backed-units}
use Rattle.record.proofs.Forming.{record-length, record-fits, record_list}

pub record-once : (us vs : List Recorded) (s : List ℕ) → IsRecord us s → IsRecord vs s → us ≡ vs
record-once us vs s r q =
    let k = length s - trailer_octets in
    let at : k + trailer_octets ≡ length s = omega (arith, record-length r) in
    sym (backed-units [] us) ∙ ap units_of (record_list q k at (backed [] us) (record-fits r k at)) ∙ backed-units [] vs

writing-once : {n o : List ℕ} (before : List ℕ) (w v : Listing n o) → writing w before ≡ writing v before
writing-once {n} {o} before (listed us l r) (listed vs m q) = rw (lent_same us vs n o l m)
writing-once before (listed us l r) (none f) = absurd (f us l r)
writing-once before (none f) (listed us l r) = absurd (f us l r)
writing-once before (none f) (none g) = refl

reading-once : {s : List ℕ} (lent : ReadLent) (w v : Contents s) → reading w lent ≡ reading v lent
reading-once {s} lent (kept us r) (kept vs q) = rw (record-once us vs s r q)
reading-once lent (kept us r) (broken f) = absurd (f us r)
reading-once lent (broken f) (kept us r) = absurd (f us r)
reading-once lent (broken f) (broken g) = refl

pub writes_once : WritesOnce
writes_once n o before d e p q = p.ends ∙ writing-once before p.what q.what ∙ sym q.ends

pub reads_once : ReadsOnce
reads_once s lent d e p q = p.ends ∙ reading-once lent p.what q.what ∙ sym q.ends
