-- What the crates above take from the record's proofs, and nothing else: the claims, how refusals are given, and how large an answer is.
--
--   recording         the claims of specs/Claims.antt and specs/Form.antt
--   writes_once, reads_once   .. among them that any two answers are equal
--   writes_refuses    the writer's refusals are those of its tests
--   reads_refuses     .. and the reader's
--   units_few         units in range take eleven octets each at least
--   write-small       a record is at most as long as the longest
--   read_small        .. and has at most as many units as the longest has octets for
--
-- Assumes nothing.
use mathlib.Core.Path.{refl, sym, subst}
use mathlib.Core.List.{List, [], ◌∷◌}
use Prim.Native.Nat.{ℕ, ◌*◌, ◌≤◌}
use native.Mathlib.Omega.{arith}
use lib.ListN.{length}
use Rattle.calls.specs.Refusal.{Ended, leaving, Refuses}
use Rattle.calls.proofs.Laws.{checked_refuses}
use Rattle.record.specs.Recorded.{Recorded, AllInRange}
use Rattle.record.specs.Layout.{total}
use Rattle.record.specs.Call.{write_tests, Writes, ReadLent, read_tests, Reads}
use Rattle.record.specs.Claims.{Recording}
use Rattle.record.proofs.Allowing.{of_writer, of_reader}
use Rattle.record.proofs.Answering.{write_answers, read_answers}
use Rattle.record.proofs.Channelled.{offset-total}
use Rattle.record.proofs.Formed.{formed}
pub use Rattle.record.proofs.Once.{writes_once, reads_once}
use Rattle.record.proofs.Theorems.{read_back, written_back, accepts_exactly, example_taken}

pub recording : Recording
recording = record {
  formed = formed;
  read_back = read_back;
  written_back = written_back;
  accepts_exactly = accepts_exactly;
  of_writer = of_writer;
  of_reader = of_reader;
  write_answers = write_answers;
  read_answers = read_answers;
  writes_once = writes_once;
  reads_once = reads_once;
  says_so = λ n r. (refl, refl);
  example_taken = example_taken;
}

pub writes_refuses : {n o before : List ℕ} {d : Ended ℕ (List ℕ)} (w : Writes n o before d) → Refuses d (write_tests w.what (length before)) before
writes_refuses {before = before} w =
    subst (λ (e : Ended ℕ (List ℕ)). Refuses e (write_tests w.what (length before)) before) (sym w.ends) (checked_refuses before _ _ _)

pub reads_refuses : {s : List ℕ} {lent : ReadLent} {d : Ended ℕ ReadLent} (w : Reads s lent d) → Refuses d (read_tests w.what lent) lent
reads_refuses {lent = lent} w =
    subst (λ (e : Ended ℕ ReadLent). Refuses e (read_tests w.what lent) lent) (sym w.ends) (checked_refuses lent _ _ _)

units_few : (us : List Recorded) → AllInRange us → 11 * length us ≤ total us
unfolding total
units_few [] r = omega arith
units_few (u ∷ us) r = omega (arith, units_few us r.1, r.0.ranges.some)

pub write-small : {n o before after : List ℕ} {m : ℕ} → Writes n o before (leaving m after) → m ≤ 1048812
write-small {n = n} {o = o} {before = before} {after = after} {m = m} w =
    let a = write_answers n o before after m w in
    omega (arith, a.count, offset-total a.list, a.taken.before)

pub read_small : {s : List ℕ} {lent left : ReadLent} {k : ℕ} → Reads s lent (leaving k left) → k ≤ 95325
read_small {s = s} {lent = lent} {left = left} {k = k} w =
    let a = read_answers s lent left k w in
    omega (arith, a.count, units_few a.list a.taken.ranges, a.taken.before)
