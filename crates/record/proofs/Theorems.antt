-- The claims of specs/Claims.antt: there and back. What is written is the record of the list that was lent, and a record is that of one list.
--
--   numbers_small     the numbers of units in range have 16 bits
--   octets_small      the octets of units in range are octets
--   record-written    the writer writes a record, for the list that it is the record of
--   read_back, written_back, accepts_exactly, example_taken   the claims
--
-- Assumes nothing.
use mathlib.Core.Path.{◌≡◌, refl, sym, ap, ap₂, ◌∙◌}
use mathlib.Core.Logic.{inl, inr}
use mathlib.Core.List.{List, [], ◌∷◌}
use Prim.Native.Nat.{ℕ, zero, suc, ◌+◌, ◌-◌, ◌*◌}
use native.Mathlib.Omega.{arith}
use lib.ListN.{length, take}
use Rattle.octets.specs.Written.{written, written_front}
use Rattle.calls.specs.Refusal.{refused, Ended, leaving}
use Rattle.record.specs.Recorded.{Recorded, AllInRange, Octets, flat, numbers_of, octets_of, Lent}
use Rattle.record.specs.Layout.{total}
use Rattle.record.specs.Trailer.{insert, used, trailer_octets, record_of}
use Rattle.record.specs.Call.{IsRecord, Contents, kept, broken, ReadLent, reading}
use Rattle.record.specs.Claims.{Numbers, ReadBack, WrittenBack, WrittenBy, AcceptsExactly, ExampleTaken}
use Rattle.record.proofs.Acceptable.{ranges_are}
use Rattle.record.proofs.OctetParts.{octets-none, octets-cons, octets-append}
use Rattle.record.proofs.Listing.{numbers-length, octets-length}
use Rattle.record.proofs.Laying.{changed_small}
use Rattle.record.proofs.Forming.{record-length}
use Rattle.record.proofs.Ending.{record-size, writes-told, reads-told}
use Rattle.record.proofs.Once.{writes_once, reads_once}
use Rattle.record.proofs.Answering.{write_answers, read_answers}
use Rattle.record.proofs.Allowing.{of_reader}

-- ---- what is lent for units in range

numbers_small : (us : List Recorded) → AllInRange us → Numbers (numbers_of us)
unfolding flat
numbers_small [] r i = omega arith
numbers_small (u ∷ us) r zero = r.0.channel_is
numbers_small (u ∷ us) r (suc zero) = omega (arith, r.0.ranges.badge_is)
numbers_small (u ∷ us) r (suc (suc zero)) = omega (arith, changed_small u.badge u.changed r.0.ranges.changed_is)
numbers_small (u ∷ us) r (suc (suc (suc zero))) = omega (arith, r.0.ranges.few)
numbers_small (u ∷ us) r (suc (suc (suc (suc i)))) = numbers_small us r.1 i

octets_small : (us : List Recorded) → AllInRange us → Octets (octets_of us)
unfolding flat
octets_small [] r = octets-none
octets_small (u ∷ us) r = octets-append u.octets (octets_of us) r.0.octets_are (octets_small us r.1)

-- over the record itself, which has the room
record-written : (us : List Recorded) (s : List ℕ) → IsRecord us s → WrittenBy s
record-written us s r =
    let t = r.taken in
    let size = record-size us t.channels in
    let lent : Lent us (numbers_of us) (octets_of us) = record { numbers = refl; octets = refl } in
    let body = record_of us in
    record {
      numbers = numbers_of us;
      octets = octets_of us;
      before = body;
      after = written body 0 body;
      count = total us + trailer_octets;
      numbers_are = numbers_small us t.ranges;
      octets_are = octets_small us t.ranges;
      writes = writes-told (numbers_of us) (octets_of us) body us lent t.ranges t.channels t.before (omega (arith, size));
      record_is = ap (λ (k : ℕ). take k (written body 0 body)) (sym size) ∙ written_front body body (omega arith) ∙ sym r.octets;
    }

-- ---- the claims

pub read_back : ReadBack
read_back n o before after m lent d w h i q =
    let a = write_answers n o before after m w in
    let us = a.list in
    let count : length n ≡ 4 * length us = ap length a.lent.numbers ∙ numbers-length us in
    let is : IsRecord us (take m after) = record { taken = a.taken; octets = a.front } in
    let left : List ℕ → List ℕ → Ended ℕ ReadLent
    = λ x y. leaving (length us) (record { numbers = written lent.numbers 0 x; octets = written lent.octets 0 y }) in (
      length us,
      count,
      reads_once (take m after) lent d (left (numbers_of us) (octets_of us)) q
          (reads-told (take m after) lent us is (omega (arith, h, count)) (omega (arith, i, ap length a.lent.octets)))
          ∙ ap₂ left (sym a.lent.numbers) (sym a.lent.octets),
    )

pub written_back : WrittenBack
written_back s before lent left k d q h w =
    let a = read_answers s lent left k q in
    let us = a.list in
    let t = a.taken in
    let is : IsRecord a.list s = record { taken = t; octets = a.record_is } in
    let long = record-length is in
    let own : length s - 236 - 10 * k ≡ length (octets_of us) = omega (arith, long, octets-length us, a.count) in
    let n = take (4 * k) left.numbers in
    let o = take (length s - 236 - 10 * k) left.octets in
    let back : Lent us n o = record { numbers = a.numbers_front; octets = ap (λ (j : ℕ). take j left.octets) own ∙ a.octets_front } in
    let end : ℕ → List ℕ → Ended ℕ (List ℕ) = λ m l. leaving m (written before 0 l) in
    writes_once n o before d (end (total us + trailer_octets) (record_of us)) w
    (writes-told n o before us back t.ranges t.channels t.before (omega (arith, h, long)))
    ∙ ap₂ end (sym long) (sym a.record_is)

pub accepts_exactly : AcceptsExactly
accepts_exactly s lent d q = (by q.what q.ends, back)
  where
    by : (w : Contents s) → d ≡ reading w lent → (d.answer ≡ refused 15 → ⊥) → WrittenBy s
    by (broken f) e g = absurd (g (ap (λ (x : Ended ℕ ReadLent). x.answer) e))
    by (kept us r) e g = record-written us s r

    back : WrittenBy s → d.answer ≡ refused 15 → ⊥
    back w e =
        let a = write_answers w.numbers w.octets w.before w.after w.count w.writes in
        (of_reader s lent d q).read15.0 e a.list a.taken (sym w.record_is ∙ a.front)

-- ---- the ticket's example

pub example_taken : ExampleTaken
unfolding flat total used insert
example_taken before d room w =
    let u : Recorded = record { channel = 5; badge = 0; changed = 0; octets = 16 ∷ 128 ∷ [] } in
    let range = (ranges_are.one u).1 (omega arith, octets-cons 16 (128 ∷ []) (omega arith) (octets-cons 128 [] (omega arith) octets-none), (omega arith, omega arith, inr (inr (inl refl, refl)))) in
    let told = writes-told (5 ∷ 0 ∷ 0 ∷ 2 ∷ []) (16 ∷ 128 ∷ []) before (u ∷ []) (record { numbers = refl; octets = refl }) (range, tt)
    (omega arith) (omega arith) room in
    ap (λ (e : Ended ℕ (List ℕ)). e.answer) (writes_once (5 ∷ 0 ∷ 0 ∷ 2 ∷ []) (16 ∷ 128 ∷ []) before d _ w told)
