-- Writing and reading a record over lent buffers (document 02, ticket 1).
--
--   Taken us               the writer takes the units us: each is in range, on at most 16 channels, in at most 1,048,576 octets
--   IsRecord us s          s is the record of units that the writer takes
--   Listing n o            what the lent numbers n and octets o are: the units of a list, each in range (listed), or of none (none)
--   Contents s             what the octets s are: the record of a list (kept), or of none (broken)
--   units_in, units_kept   the list, and no units where there is none
--   is_none, is_broken       there is none
--   write_tests w room      the writer's refusals in their order, with room for that many octets
--   writing w before       how writing ends, and what it leaves of the lent output
--   Writes n o before d    it ends as d
--   ReadLent               what is lent to the reader to write to: numbers of 16 bits, and octets
--   read_tests w lent       the reader's refusals in their order
--   reading w lent         how reading ends, and what it leaves
--   Reads s lent d         it ends as d
--
-- Assumes nothing.
use Rattle.std.specs.Prelude.{◌≡◌, Bool, true, false, ◌||◌, List, [], ◌∷◌, reverse, ℕ, ◌+◌, ◌*◌, ◌≤◌, ltb, length}
use Rattle.octets.specs.Written.{written}
use Rattle.calls.specs.Refusal.{Ended, leaving, refusing, Test, ◌when◌, checked}
use Rattle.record.specs.Recorded.{Recorded, AllInRange, numbers_of, octets_of, Lent}
use Rattle.record.specs.Layout.{total}
use Rattle.record.specs.Trailer.{used, most_channels, trailer_octets, most_before, record_of}

pub record Taken (us : List Recorded) : Type 0 where
  pub ranges : AllInRange us
  pub channels : length (used (reverse us)) ≤ most_channels
  pub before : total us ≤ most_before

pub record IsRecord (us : List Recorded) (s : List ℕ) : Type 0 where
  pub taken : Taken us
  pub octets : s ≡ record_of us

-- ---- writing

pub data Listing (n o : List ℕ) : Type 0 where
  listed : (us : List Recorded) → Lent us n o → AllInRange us → Listing n o
  none : ((us : List Recorded) → Lent us n o → AllInRange us → ⊥) → Listing n o

module _ {n o : List ℕ} where
  abbrev pub units_in : Listing n o → List Recorded
  units_in (listed us l r) = us
  units_in (none f) = []

  abbrev pub is_none : Listing n o → Bool
  is_none (listed us l r) = false
  is_none (none f) = true

  abbrev pub write_tests : Listing n o → ℕ → List Test
  write_tests w room =
      15 when is_none w ∷ 12 when ltb most_channels (length (used (reverse (units_in w)))) ∷ 2 when ltb most_before (total (units_in w))
      ∷ 3 when ltb room (total (units_in w) + trailer_octets) ∷ []

  abbrev pub writing : Listing n o → List ℕ → Ended ℕ (List ℕ)
  writing w before =
      checked (refusing before) (write_tests w (length before))
      (leaving (length (record_of (units_in w))) (written before 0 (record_of (units_in w))))

pub record Writes (n o before : List ℕ) (d : Ended ℕ (List ℕ)) : Type 0 where
  pub what : Listing n o
  pub ends : d ≡ writing what before

-- ---- reading

pub data Contents (s : List ℕ) : Type 0 where
  kept : (us : List Recorded) → IsRecord us s → Contents s
  broken : ((us : List Recorded) → IsRecord us s → ⊥) → Contents s

pub record ReadLent : Type 0 where
  pub numbers : List ℕ
  pub octets : List ℕ

module _ {s : List ℕ} where
  abbrev pub units_kept : Contents s → List Recorded
  units_kept (kept us r) = us
  units_kept (broken f) = []

  abbrev pub is_broken : Contents s → Bool
  is_broken (kept us r) = false
  is_broken (broken f) = true

  abbrev pub read_tests : Contents s → ReadLent → List Test
  read_tests w lent =
      15 when is_broken w
      ∷ 3 when (ltb (length lent.numbers) (4 * length (units_kept w)) || ltb (length lent.octets) (length (octets_of (units_kept w)))) ∷ []

  abbrev pub reading : Contents s → ReadLent → Ended ℕ ReadLent
  reading w lent =
      checked (refusing lent) (read_tests w lent)
      (leaving (length (units_kept w)) (record {
        numbers = written lent.numbers 0 (numbers_of (units_kept w));
        octets = written lent.octets 0 (octets_of (units_kept w));
      }))

pub record Reads (s : List ℕ) (lent : ReadLent) (d : Ended ℕ ReadLent) : Type 0 where
  pub what : Contents s
  pub ends : d ≡ reading what lent
