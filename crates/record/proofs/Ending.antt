-- How writing and reading end, case by case.
--
--   record-size       the octets of the record of units on at most 16 channels
--   writes-none, writes_many, writes_long, writes_room   each refusal of the writer
--   writes-told       .. and its answer
--   reads_none, reads_room   each refusal of the reader
--   reads-told        .. and its answer
--   reads_deliverable, reads_delivered   .. by the walk that hands up the units
--   record_octets     what stands before a record's trailer: ten octets of each unit, and the units' own
--
-- Assumes nothing.
use mathlib.Core.Path.{◌≡◌, refl, sym, ap, ap₂, subst, ◌∙◌}
use mathlib.Core.Logic.{◌⊎◌, inl, inr}
use mathlib.Core.Bool.{true, ◌||◌, or-true}
use mathlib.Core.List.{List, [], reverse}
use Prim.Native.Nat.{ℕ, ◌+◌, ◌-◌, ◌*◌, ◌≤◌, ◌<◌}
use native.Mathlib.Omega.{arith}
use borrow.Author.Tests.{lt-ltb, le-ltb}
use lib.Dec.{ltb}
use lib.ListN.{length, take, length-append, length-map}
use Rattle.octets.specs.Written.{written}
use Rattle.calls.specs.Refusal.{leaving, refusing}
use Rattle.record.specs.Recorded.{Recorded, AllInRange, numbers_of, octets_of, Lent}
use Rattle.record.specs.Layout.{header_octets, total, Stored, backed, body_of}
use Rattle.record.specs.Trailer.{used, most_channels, trailer_of, trailer_octets, most_before, record_of}
use Rattle.record.specs.Call.{IsRecord, listed, none, Writes, kept, broken, ReadLent, Reads}
use Rattle.record.specs.Walk.{units_of, Deliverable, Delivered}
use Rattle.record.proofs.Backing.{backed-units, body-length}
use Rattle.record.proofs.Forming.{record-length, record-fits, record_list}
use Rattle.record.proofs.Listing.{octets-length}
use Rattle.record.proofs.Tallying.{trailer-length}

pub record-size : (us : List Recorded) → length (used (reverse us)) ≤ most_channels → length (record_of us) ≡ total us + trailer_octets
record-size us few =
    length-append (body_of us) (trailer_of (reverse us)) ∙ ap₂ (λ (a b : ℕ). a + b) (body-length us) (trailer-length (reverse us) few)

-- ---- writing

pub writes-none : (n o before : List ℕ) → ((us : List Recorded) → Lent us n o → AllInRange us → ⊥) → Writes n o before (refusing before 15)
writes-none n o before f = record { what = none f; ends = refl }

module _ (n o before : List ℕ) (us : List Recorded) (l : Lent us n o) (r : AllInRange us) where
  pub writes_many : most_channels < length (used (reverse us)) → Writes n o before (refusing before 12)
  writes_many many = record { what = listed us l r; ends = rw (lt-ltb most_channels (length (used (reverse us))) many) refl }

  module _ (few : length (used (reverse us)) ≤ most_channels) where
    pub writes_long : most_before < total us → Writes n o before (refusing before 2)
    writes_long long = record {
      what = listed us l r;
      ends = rw (le-ltb most_channels (length (used (reverse us))) few, lt-ltb most_before (total us) long) refl;
    }

    module _ (short : total us ≤ most_before) where
      pub writes_room : length before < total us + trailer_octets → Writes n o before (refusing before 3)
      writes_room room = record {
        what = listed us l r;
        ends = rw (
          le-ltb most_channels (length (used (reverse us))) few,
          le-ltb most_before (total us) short,
          lt-ltb (length before) (total us + trailer_octets) room,
        ) refl;
      }

      pub writes-told : total us + trailer_octets ≤ length before
          → Writes n o before (leaving (total us + trailer_octets) (written before 0 (record_of us)))
      writes-told room = record {
        what = listed us l r;
        ends = rw (
          le-ltb most_channels (length (used (reverse us))) few,
          le-ltb most_before (total us) short,
          le-ltb (length before) (total us + trailer_octets) room,
        ) (ap (λ (m : ℕ). leaving m (written before 0 (record_of us))) (sym (record-size us few)));
      }

-- ---- reading

pub reads_none : (s : List ℕ) (lent : ReadLent) → ((us : List Recorded) → IsRecord us s → ⊥) → Reads s lent (refusing lent 15)
reads_none s lent f = record { what = broken f; ends = refl }

pub record_octets : (us : List Recorded) (s : List ℕ) → IsRecord us s
    → length s ≡ header_octets * length us + length (octets_of us) + trailer_octets
record_octets us s r = record-length r ∙ ap (λ (k : ℕ). k + trailer_octets) (octets-length us)

module _ (s : List ℕ) (lent : ReadLent) (us : List Recorded) (r : IsRecord us s) where
  pub reads_room : (length lent.numbers < 4 * length us) ⊎ (length lent.octets < length (octets_of us)) → Reads s lent (refusing lent 3)
  reads_room room = record { what = kept us r; ends = rw (short room) refl }
    where
      short : (length lent.numbers < 4 * length us) ⊎ (length lent.octets < length (octets_of us))
          → (ltb (length lent.numbers) (4 * length us) || ltb (length lent.octets) (length (octets_of us))) ≡ true
      short (inl h) = rw (lt-ltb (length lent.numbers) (4 * length us) h) refl
      short (inr h) = rw (lt-ltb (length lent.octets) (length (octets_of us)) h) (or-true (ltb (length lent.numbers) (4 * length us)))

  pub reads-told : 4 * length us ≤ length lent.numbers → length (octets_of us) ≤ length lent.octets
      → Reads s lent (leaving (length us) (record {
        numbers = written lent.numbers 0 (numbers_of us);
        octets = written lent.octets 0 (octets_of us);
      }))
  reads-told a b = record {
    what = kept us r;
    ends = rw (le-ltb (length lent.numbers) (4 * length us) a, le-ltb (length lent.octets) (length (octets_of us)) b) refl;
  }

  module _ (a : 4 * length us ≤ length lent.numbers) (b : length (octets_of us) ≤ length lent.octets) where
    at : length s - trailer_octets + trailer_octets ≡ length s
    at = omega (arith, record-length r)

    pub reads_deliverable : {k : ℕ} → k ≡ length us → Deliverable (take (length s - trailer_octets) s) k lent.numbers lent.octets
    reads_deliverable e =
        let units = backed-units [] us in
        record {
          list = backed [] us;
          fits = record-fits r (length s - trailer_octets) at;
          count = e ∙ ap length (sym units) ∙ length-map (backed [] us) (λ (p : Stored). p.unit);
          numbers_fit = omega (arith, a, e);
          octets_fit = omega (arith, b, ap (λ (l : List Recorded). length (octets_of l)) units);
        }

    pub reads_delivered : (m p : List ℕ) (k : ℕ) → k ≡ length us
        → Delivered (take (length s - trailer_octets) s) lent.numbers lent.octets m p → Reads s lent (leaving k (record { numbers = m; octets = p }))
    reads_delivered m p k e d =
        let units = ap units_of (record_list r (length s - trailer_octets) at d.list d.fits) ∙ backed-units [] us in
        subst (Reads s lent)
        (sym (left e (d.numbers_are ∙ ap (λ (l : List Recorded). written lent.numbers 0 (numbers_of l)) units)
        (d.octets_are ∙ ap (λ (l : List Recorded). written lent.octets 0 (octets_of l)) units)))
        (reads-told a b)
      where
        left : {j : ℕ} {x y : List ℕ} → k ≡ j → m ≡ x → p ≡ y
            → leaving {X = ReadLent} k (record { numbers = m; octets = p }) ≡ leaving j (record { numbers = x; octets = y })
        left f g h = rw (f, g, h)
