-- What is claimed of writing and reading a record, over every input (document 02, ticket 1). The form of a record is claimed in
-- specs/Form.antt.
--
--   Numbers n       n are numbers of 16 bits, as they are lent
--   ReadBack        reading what was written gives the units back
--   WrittenBack     writing what was read gives the same octets
--   WrittenBy s     the writer writes s for some list
--   AcceptsExactly  the reader accepts exactly what the writer writes for some list: what it does not refuse with 15, whatever the room
--   Given n o       the units that are lent, each in range, and their channels
--   OfWriter        when the writer gives each refusal, and that it leaves everything then
--   OfReader        .. and the reader
--   WriteAnswered, WriteAnswers   what an answer of the writer is, and what it leaves
--   ReadAnswered, ReadAnswers     .. and one of the reader
--   WritesOnce, ReadsOnce   any two answers are equal, and so is what they leave
--   SaysSo          what the reader's result says, and the writer's: the number of units or of octets, or the refusal's number
--   ExampleTaken    the ticket's example is written
--   Recording       all of it, and the form; `recording` in proofs/Laws.antt has the proof of each claim
--
-- Assumes nothing.
use Rattle.std.specs.Prelude.{◌≡◌, ◌↔◌, ◌⊎◌, List, [], ◌∷◌, ℕ, ◌+◌, ◌-◌, ◌*◌, ◌≤◌, ◌<◌, length, get_or, take, drop, Ok, Err}
use Rattle.octets.specs.Written.{written}
use Rattle.calls.specs.declared.Refusal.{Refusal}
use Rattle.calls.specs.Refusal.{refused, told, Ended, leaving, number, says}
use Rattle.record.specs.Recorded.{Recorded, AllInRange, Octets, numbers_of, octets_of, Lent}
use Rattle.record.specs.Trailer.{record_of}
use Rattle.record.specs.Call.{Taken, Writes, ReadLent, Reads}
use Rattle.record.specs.Form.{offset, Channels, Formed}

abbrev pub Numbers : List ℕ → Type 0
Numbers n = (i : ℕ) → get_or n i 0 < 65536

-- ---- there and back

abbrev pub ReadBack : Type 0
ReadBack =
    (n o before after : List ℕ) (m : ℕ) (lent : ReadLent) (d : Ended ℕ ReadLent)
    → Writes n o before (leaving m after) → length n ≤ length lent.numbers → length o ≤ length lent.octets → Reads (take m after) lent d
    → (k : ℕ) × (length n ≡ 4 * k)
    × (d ≡ leaving k (record { numbers = written lent.numbers 0 n; octets = written lent.octets 0 o }))

-- the units of a record of m octets in k units have m - 236 - 10 k octets
abbrev pub WrittenBack : Type 0
WrittenBack =
    (s before : List ℕ) (lent left : ReadLent) (k : ℕ) (d : Ended ℕ (List ℕ)) → Reads s lent (leaving k left) → length s ≤ length before
    → Writes (take (4 * k) left.numbers) (take (length s - 236 - 10 * k) left.octets) before d
    → d ≡ leaving (length s) (written before 0 s)

pub record WrittenBy (s : List ℕ) : Type 0 where
  pub numbers : List ℕ
  pub octets : List ℕ
  pub before : List ℕ
  pub after : List ℕ
  pub count : ℕ
  pub numbers_are : Numbers numbers
  pub octets_are : Octets octets
  pub writes : Writes numbers octets before (leaving count after)
  pub record_is : take count after ≡ s

abbrev pub AcceptsExactly : Type 0
AcceptsExactly = (s : List ℕ) (lent : ReadLent) (d : Ended ℕ ReadLent) → Reads s lent d → (d.answer ≡ refused 15 → ⊥) ↔ WrittenBy s

-- ---- "refuses 15 for a unit outside these ranges, 12 for a seventeenth channel, 2 past the octet limit, 3 for room, in that order, each over
-- the whole list"

pub record Given (n o : List ℕ) : Type 0 where
  pub list : List Recorded
  pub lent : Lent list n o
  pub ranges : AllInRange list
  pub channels : List ℕ
  pub channels_are : Channels list channels

pub record OfWriter (n o before : List ℕ) (d : Ended ℕ (List ℕ)) : Type 0 where
  pub write15 : d.answer ≡ refused 15 ↔ ((us : List Recorded) → Lent us n o → AllInRange us → ⊥)
  pub write12 : d.answer ≡ refused 12 ↔ ((g : Given n o) × (16 < length g.channels))
  pub write2 : d.answer ≡ refused 2 ↔ ((g : Given n o) × (length g.channels ≤ 16) × (1048576 < offset g.list))
  pub write3 : d.answer ≡ refused 3
      ↔ ((g : Given n o) × (length g.channels ≤ 16) × (offset g.list ≤ 1048576) × (length before < offset g.list + 236))
  pub others : (k : ℕ) → d.answer ≡ refused k → (k ≡ 15) ⊎ ((k ≡ 12) ⊎ ((k ≡ 2) ⊎ (k ≡ 3)))
  pub leaves : (k : ℕ) → d.answer ≡ refused k → d.left ≡ before

-- "refuses 15 if the record isn't exactly of this form, then 3 for room"
pub record OfReader (s : List ℕ) (lent : ReadLent) (d : Ended ℕ ReadLent) : Type 0 where
  pub read15 : d.answer ≡ refused 15 ↔ ((us : List Recorded) → Taken us → s ≡ record_of us → ⊥)
  pub read3 : d.answer ≡ refused 3
      ↔ ((us : List Recorded) × Taken us × (s ≡ record_of us)
      × ((length lent.numbers < 4 * length us) ⊎ (length lent.octets < length (octets_of us))))
  pub others : (k : ℕ) → d.answer ≡ refused k → (k ≡ 15) ⊎ (k ≡ 3)
  pub leaves : (k : ℕ) → d.answer ≡ refused k → d.left ≡ lent

-- ---- what is answered

pub record WriteAnswered (n o before after : List ℕ) (m : ℕ) : Type 0 where
  pub list : List Recorded
  pub lent : Lent list n o
  pub taken : Taken list
  pub count : m ≡ offset list + 236
  pub front : take m after ≡ record_of list
  pub behind : drop m after ≡ drop m before
  pub long : length after ≡ length before

abbrev pub WriteAnswers : Type 0
WriteAnswers = (n o before after : List ℕ) (m : ℕ) → Writes n o before (leaving m after) → WriteAnswered n o before after m

pub record ReadAnswered (s : List ℕ) (lent left : ReadLent) (k : ℕ) : Type 0 where
  pub list : List Recorded
  pub taken : Taken list
  pub record_is : s ≡ record_of list
  pub count : k ≡ length list
  pub numbers_front : take (4 * k) left.numbers ≡ numbers_of list
  pub numbers_behind : drop (4 * k) left.numbers ≡ drop (4 * k) lent.numbers
  pub numbers_long : length left.numbers ≡ length lent.numbers
  pub octets_front : take (length (octets_of list)) left.octets ≡ octets_of list
  pub octets_behind : drop (length (octets_of list)) left.octets ≡ drop (length (octets_of list)) lent.octets
  pub octets_long : length left.octets ≡ length lent.octets

abbrev pub ReadAnswers : Type 0
ReadAnswers = (s : List ℕ) (lent left : ReadLent) (k : ℕ) → Reads s lent (leaving k left) → ReadAnswered s lent left k

abbrev pub WritesOnce : Type 0
WritesOnce = (n o before : List ℕ) (d e : Ended ℕ (List ℕ)) → Writes n o before d → Writes n o before e → d ≡ e

abbrev pub ReadsOnce : Type 0
ReadsOnce = (s : List ℕ) (lent : ReadLent) (d e : Ended ℕ ReadLent) → Reads s lent d → Reads s lent e → d ≡ e

abbrev pub SaysSo : Type 0
SaysSo = (n : ℕ) (r : Refusal) → (says (Ok n) ≡ told n) × (says {A = ℕ} (Err r) ≡ refused (number r))

-- the ticket's unit, 10 80 on channel 5, is taken
abbrev pub ExampleTaken : Type 0
ExampleTaken =
    (before : List ℕ) (d : Ended ℕ (List ℕ)) → 248 ≤ length before → Writes (5 ∷ 0 ∷ 0 ∷ 2 ∷ []) (16 ∷ 128 ∷ []) before d → d.answer ≡ told 248

pub record Recording : Type 0 where
  pub formed : Formed
  pub read_back : ReadBack
  pub written_back : WrittenBack
  pub accepts_exactly : AcceptsExactly
  pub of_writer : (n o before : List ℕ) (d : Ended ℕ (List ℕ)) → Writes n o before d → OfWriter n o before d
  pub of_reader : (s : List ℕ) (lent : ReadLent) (d : Ended ℕ ReadLent) → Reads s lent d → OfReader s lent d
  pub write_answers : WriteAnswers
  pub read_answers : ReadAnswers
  pub writes_once : WritesOnce
  pub reads_once : ReadsOnce
  pub says_so : SaysSo
  pub example_taken : ExampleTaken
