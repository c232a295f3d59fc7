-- The claims on records (specs/Claims.antt), by what is claimed of writing and reading them.
--
--   one_of-four, one_of_two            none of their numbers is 0
--   write-positive, read-positive      .. so that no refusal has the number 0
--   record_write_answered, record_read_answered   the claims
--   record_write-once, record-read-once       any two answers that a promise allows are equal, and so is what they leave
--
-- Assumes nothing.
use mathlib.Core.Path.{◌≡◌, sym, ap, ◌∙◌}
use mathlib.Core.Logic.{◌⊎◌, inl, inr}
use mathlib.Core.List.{List}
use Prim.Native.Nat.{ℕ, ◌≤◌}
use native.Mathlib.Omega.{arith}
use lib.IntN.{ℤ}
use lib.ListN.{length}
use Rattle.calls.specs.Refusal.{Told, refused, Ended, ended}
use Rattle.record.specs.Call.{write_tests, Writes, ReadLent, read_tests, Reads}
use Rattle.record.proofs.Laws.{recording, writes_refuses, reads_refuses, write-small, read_small}
use Rattle.kyteblossom.specs.Answer.{answer, lent_to, RecordWriteIs, RecordReadIs}
use Rattle.kyteblossom.specs.Claims.{RecordWriteAnswered, RecordReadAnswered}
use Rattle.kyteblossom.proofs.Answering.{answered, told_so}

one_of-four : (k : ℕ) → (k ≡ 15) ⊎ ((k ≡ 12) ⊎ ((k ≡ 2) ⊎ (k ≡ 3))) → 1 ≤ k
one_of-four k (inl e) = omega (arith, e)
one_of-four k (inr (inl e)) = omega (arith, e)
one_of-four k (inr (inr (inl e))) = omega (arith, e)
one_of-four k (inr (inr (inr e))) = omega (arith, e)

one_of_two : (k : ℕ) → (k ≡ 15) ⊎ (k ≡ 3) → 1 ≤ k
one_of_two k (inl e) = omega (arith, e)
one_of_two k (inr e) = omega (arith, e)

module _ {n o before after : List ℕ} {q : Told ℕ} (w : Writes n o before (ended q after)) where
  write-positive : (k : ℕ) → q ≡ refused k → 1 ≤ k
  write-positive k e = one_of-four k ((recording.of_writer n o before (ended q after) w).others k e)

module _ {s : List ℕ} {lent left : ReadLent} {q : Told ℕ} (w : Reads s lent (ended q left)) where
  read-positive : (k : ℕ) → q ≡ refused k → 1 ≤ k
  read-positive k e = one_of_two k ((recording.of_reader s lent (ended q left) w).others k e)

pub record_write_answered : RecordWriteAnswered
record_write_answered n o before after r a =
    let w = a.writes in
    let refuses = writes_refuses w in (
      w.what,
      answered (write_tests w.what (length before)) (λ k h. write-positive w k ((refuses.exactly k).1 h)) before after r a.outcome a.number
          refuses,
      λ h. let t = told_so (Writes n o before) after a.outcome r a.number h w (write-positive w) in (t.0, t.1, write-small t.2, t.2),
    )

pub record_read_answered : RecordReadAnswered
record_read_answered s n o m p r a =
    let w = a.reads in
    let refuses = reads_refuses w in (
      w.what,
      answered (read_tests w.what (lent_to n o)) (λ k h. read-positive w k ((refuses.exactly k).1 h)) (lent_to n o) (lent_to m p) r a.outcome
          a.number refuses,
      λ h. let t = told_so (Reads s (lent_to n o)) (lent_to m p) a.outcome r a.number h w (read-positive w) in (t.0, t.1, read_small t.2, t.2),
    )

pub record_write-once : (n o before after left : List ℕ) (r q : ℤ) → RecordWriteIs n o before r after → RecordWriteIs n o before q left
    → (r ≡ q) × (after ≡ left)
record_write-once n o before after left r q a b =
    let same = recording.writes_once n o before _ _ a.writes b.writes in (
      a.number ∙ ap (λ (d : Ended ℕ (List ℕ)). answer d.answer) same ∙ sym b.number,
      ap (λ (d : Ended ℕ (List ℕ)). d.left) same,
    )

pub record-read-once : (s n o m p j l : List ℕ) (r q : ℤ) → RecordReadIs s n o r m p → RecordReadIs s n o q j l → (r ≡ q) × (m ≡ j) × (p ≡ l)
record-read-once s n o m p j l r q a b =
    let same = recording.reads_once s (lent_to n o) _ _ a.reads b.reads in (
      a.number ∙ ap (λ (d : Ended ℕ ReadLent). answer d.answer) same ∙ sym b.number,
      ap (λ (d : Ended ℕ ReadLent). d.left.numbers) same,
      ap (λ (d : Ended ℕ ReadLent). d.left.octets) same,
    )
