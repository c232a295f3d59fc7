-- Where writing and reading are answered no test holds, so that the list is one that the writer takes and there is room. What was written then
-- stands in front, and all behind it is as it was.
--
--   answered          a call that is answered is refused by no test, and answers what it does where none holds
--   neither           neither of two comparisons holds
--   Over              what stands in a list over the front of which another was written
--   written_over      .. is this
--   write_answers, read_answers   the claims of specs/Claims.antt
--
-- Assumes nothing.
use mathlib.Core.Path.{◌≡◌, refl, sym, ap, ap₂, ◌∙◌}
use mathlib.Core.Bool.{Bool, true, false, ◌||◌}
use mathlib.Core.List.{List, reverse}
use Prim.Native.Nat.{ℕ, ◌+◌, ◌*◌, ◌≤◌}
use native.Mathlib.Nat.{zero-add}
use native.Mathlib.Omega.{arith}
use borrow.Author.Tests.{ltb-false}
use lib.Dec.{ltb}
use lib.ListN.{length, take, drop}
use Rattle.octets.specs.Tests.{never}
use Rattle.octets.specs.Written.{written, written_front, written_behind, written-length}
use Rattle.calls.specs.Refusal.{Ended, leaving, refusing, Test, checked, None}
use Rattle.calls.proofs.Laws.{told-refused, leaving-same, by_tests}
use Rattle.record.specs.Recorded.{numbers_of, octets_of}
use Rattle.record.specs.Layout.{total}
use Rattle.record.specs.Trailer.{used, most_channels, trailer_octets, most_before, record_of}
use Rattle.record.specs.Call.{
  Taken,
  Listing,
  listed,
  none,
  write_tests,
  writing,
  Contents,
  kept,
  broken,
  ReadLent,
  read_tests,
  reading,
}
use Rattle.record.specs.Claims.{WriteAnswered, WriteAnswers, ReadAnswered, ReadAnswers}
use Rattle.record.proofs.Listing.{numbers-length}
use Rattle.record.proofs.Ending.{record-size}
use Rattle.record.proofs.Channelled.{offset-total}

-- ---- any call

answered : {A X : Type 0} (x : X) (l : List Test) (a b : A) (y z : X) → leaving a y ≡ checked (refusing x) l (leaving b z)
    → None l × ((a ≡ b) × (y ≡ z))
answered {A} {X} x l a b y z =
    by_tests (λ (d : Ended A X). leaving a y ≡ d → None l × ((a ≡ b) × (y ≡ z))) (refusing x) l (leaving b z)
    (λ k e. told-refused {A = A} refl (ap (λ (d : Ended A X). d.answer) e)) (λ n e. (n, leaving-same a b y z e))

neither : (a b c d : ℕ) → (ltb a b || ltb c d) ≡ false → (b ≤ a) × (d ≤ c)
neither a b c d = by (ltb a b) refl
  where
    by : (t : Bool) → ltb a b ≡ t → (t || ltb c d) ≡ false → (b ≤ a) × (d ≤ c)
    by true e h = never (cc)
    by false e h = (ltb-false a b e, ltb-false c d h)

record Over (d s : List ℕ) (k : ℕ) (a : List ℕ) : Type 0 where
  front : take k a ≡ s
  behind : drop k a ≡ drop k d
  long : length a ≡ length d

written_over : (d s : List ℕ) (k : ℕ) (a : List ℕ) → k ≡ length s → a ≡ written d 0 s → length s ≤ length d → Over d s k a
written_over d s k a e w h =
    let start : k ≡ 0 + length s = e ∙ sym (zero-add (length s)) in
    let fits : 0 + length s ≤ length d = omega arith in
    record {
      front = ap₂ take e w ∙ written_front d s h;
      behind = ap₂ drop start w ∙ written_behind d 0 s fits ∙ ap (λ (n : ℕ). drop n d) (sym start);
      long = ap length w ∙ written-length d 0 s fits;
    }

-- ---- writing

pub write_answers : WriteAnswers
write_answers n o before after m w = by w.what w.ends
  where
    by : (v : Listing n o) → leaving m after ≡ writing v before → WriteAnswered n o before after m
    by (none f) e = told-refused {A = ℕ} refl (ap (λ (d : Ended ℕ (List ℕ)). d.answer) e)
    by (listed us l r) e =
        let h = answered before (write_tests (listed us l r) (length before)) m (length (record_of us)) after (written before 0 (record_of us)) e in
        let t : Taken us = record {
          ranges = r;
          channels = ltb-false most_channels (length (used (reverse us))) h.0.1.0;
          before = ltb-false most_before (total us) h.0.1.1.0;
        } in
        let room = ltb-false (length before) (total us + trailer_octets) h.0.1.1.1.0 in
        let over = written_over before (record_of us) m after h.1.0 h.1.1 (omega (arith, room, record-size us t.channels)) in
        record {
          list = us;
          lent = l;
          taken = t;
          count = omega (arith, h.1.0, record-size us t.channels, offset-total us);
          front = over.front;
          behind = over.behind;
          long = over.long;
        }

-- ---- reading

pub read_answers : ReadAnswers
read_answers s lent left k q = by q.what q.ends
  where
    by : (v : Contents s) → leaving k left ≡ reading v lent → ReadAnswered s lent left k
    by (broken f) e = told-refused {A = ℕ} refl (ap (λ (d : Ended ℕ ReadLent). d.answer) e)
    by (kept us r) e =
        let made : ReadLent = record { numbers = written lent.numbers 0 (numbers_of us); octets = written lent.octets 0 (octets_of us) } in
        let h = answered lent (read_tests (kept us r) lent) k (length us) left made e in
        let room = neither (length lent.numbers) (4 * length us) (length lent.octets) (length (octets_of us)) h.0.1.0 in
        let numbers = written_over lent.numbers (numbers_of us) (4 * k) left.numbers (omega (arith, h.1.0, numbers-length us))
        (ap (λ (x : ReadLent). x.numbers) h.1.1) (omega (arith, room.0, numbers-length us)) in
        let octets = written_over lent.octets (octets_of us) (length (octets_of us)) left.octets refl
        (ap (λ (x : ReadLent). x.octets) h.1.1) room.1 in
        record {
          list = us;
          taken = r.taken;
          record_is = r.octets;
          count = h.1.0;
          numbers_front = numbers.front;
          numbers_behind = numbers.behind;
          numbers_long = numbers.long;
          octets_front = octets.front;
          octets_behind = octets.behind;
          octets_long = octets.long;
        }
