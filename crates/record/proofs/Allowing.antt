-- Each refusal of the writer and the reader is given exactly where document 02 says: the tests are looked at in their order, and what is lent, or
-- read, is of one list.
--
--   OneOf k l        k is the number of one of the tests l
--   gives_one        a refusal has the number of one of them
--   exactly          a call that refuses by tests is refused with a number exactly where its test holds and none before it
--   held_iff         behind a test that holds there is nothing, as where what cannot be is asked for
--   given-here       the units that are lent, with their channels
--   given_only       .. are the only ones
--   writing_allows   the writer's refusals, where it is known what is lent
--   reading_allows   .. and the reader's, where it is known what is read
--   of_writer, of_reader   the claims of specs/Claims.antt
--
-- Assumes nothing.
use mathlib.Core.Path.{◌≡◌, refl, sym, ap, subst, ◌∙◌}
use mathlib.Core.Logic.{◌↔◌, ◌⊎◌, inl, inr}
use mathlib.Core.Bool.{true, false}
use mathlib.Core.List.{List, [], ◌∷◌, reverse}
use Prim.Native.Nat.{ℕ, ◌+◌, ◌*◌, ◌<◌}
use native.Mathlib.Omega.{arith}
use lib.ListN.{length}
use Rattle.octets.specs.Tests.{never}
use Rattle.octets.specs.Exact.{chain, less, not-less, either_less}
use Rattle.octets.specs.Written.{written}
use Rattle.calls.specs.Refusal.{refused, Ended, Test, ◌when◌, refusal, Refuses}
use Rattle.calls.proofs.Laws as calls
use Rattle.calls.proofs.Laws.{checked_refuses}
use Rattle.record.specs.Recorded.{Recorded, numbers_of, octets_of, AllInRange, Lent}
use Rattle.record.specs.Layout.{total}
use Rattle.record.specs.Trailer.{used, most_channels, trailer_octets, most_before, record_of}
use Rattle.record.specs.Form.{offset}
use Rattle.record.specs.Call.{
  Listing,
  listed,
  none,
  write_tests,
  writing,
  Writes,
  Contents,
  kept,
  broken,
  ReadLent,
  read_tests,
  reading,
  Reads,
}
use Rattle.record.specs.Claims.{Given, OfWriter, OfReader}
use Rattle.record.proofs.Answers.{failed-iff}
use Rattle.record.proofs.Listing.{lent_same}
use Rattle.record.proofs.Channelled.{offset-total, used-channels, channels_only}
use Rattle.record.proofs.Once.{record-once}

abbrev OneOf : ℕ → List Test → Type 0
OneOf k [] = ⊥
OneOf k ((j when b) ∷ []) = k ≡ j
OneOf k ((j when b) ∷ t ∷ l) = (k ≡ j) ⊎ OneOf k (t ∷ l)

gives_one : (k : ℕ) (l : List Test) → refusal l ≡ refused k → OneOf k l
gives_one k [] e = never (cc)
gives_one k ((j when true) ∷ []) e = cc
gives_one k ((j when false) ∷ []) e = never (cc)
gives_one k ((j when true) ∷ t ∷ l) e = inl (cc)
gives_one k ((j when false) ∷ t ∷ l) e = inr (gives_one k (t ∷ l) e)

exactly : {A X C : Type 0} {d : Ended A X} {l : List Test} {x : X} → Refuses d l x → (k : ℕ) → calls.is_once k l ≡ true → calls.Given k l ↔ C
    → d.answer ≡ refused k ↔ C
exactly {l = l} r k h q = chain (r.exactly k) (chain (calls.given_exactly k l h) q)

held_iff : {A B : Type 0} → (B → ⊥) → ((true ≡ false) × A) ↔ B
held_iff f = (λ h. never (cc h.0), λ b. absurd (f b))

-- ---- writing

module _ {n o : List ℕ} (us : List Recorded) (l : Lent us n o) where
  abbrev given-here : AllInRange us → Given n o
  given-here r = record { list = us; lent = l; ranges = r; channels = used (reverse us); channels_are = used-channels us }

  given_only : (g : Given n o) → (length g.channels ≡ length (used (reverse us))) × (offset g.list ≡ total us)
  given_only g =
      let same : g.list ≡ us = lent_same g.list us n o g.lent l in (
        ap length (channels_only g.list g.channels g.channels_are ∙ ap (λ (vs : List Recorded). used (reverse vs)) same),
        ap offset same ∙ offset-total us,
      )

writing_allows : {n o : List ℕ} (before : List ℕ) (w : Listing n o) → OfWriter n o before (writing w before)
writing_allows {n} {o} before (none f) =
    let w : Listing n o = none f in
    let tests = write_tests w (length before) in
    let x = checked_refuses {A = ℕ} before tests 0 before in
    let no : Given n o → ⊥ = λ g. f g.list g.lent g.ranges in
    record {
      write15 = exactly x 15 refl (λ e. f, λ g. refl);
      write12 = exactly x 12 refl (held_iff (λ h. no h.0));
      write2 = exactly x 2 refl (held_iff (λ h. no h.0));
      write3 = exactly x 3 refl (held_iff (λ h. no h.0));
      others = λ k e. gives_one k tests ((x.exactly k).0 e);
      leaves = x.leaves;
    }
writing_allows {n} {o} before (listed us l r) =
    let tests = write_tests (listed us l r) (length before) in
    let x = checked_refuses before tests (length (record_of us)) (written before 0 (record_of us)) in
    let here = given-here us l r in
    let only = given_only us l in
    let many = less most_channels (length (used (reverse us))) in
    let few = not-less most_channels (length (used (reverse us))) in
    let long = less most_before (total us) in
    let short = not-less most_before (total us) in
    let full = less (length before) (total us + trailer_octets) in
    record {
      write15 = exactly x 15 refl (failed-iff (λ f. f us l r));
      write12 = exactly x 12 refl (
        λ h. (here, many.0 h.1),
        λ h. (refl, many.1 (omega (arith, h.1, (only h.0).0))),
      );
      write2 = exactly x 2 refl (
        λ h. (here, few.0 h.1.0, omega (arith, long.0 h.1.1, offset-total us)),
        λ h. (refl, (few.1 (omega (arith, h.1, (only h.0).0)), long.1 (omega (arith, h.2, (only h.0).1)))),
      );
      write3 = exactly x 3 refl (
        λ h. (
          here,
          few.0 h.1.0,
          omega (arith, short.0 h.1.1.0, offset-total us),
          omega (arith, full.0 h.1.1.1, offset-total us),
        ),
        λ h. (
          refl,
          (
            few.1 (omega (arith, h.1, (only h.0).0)),
            (short.1 (omega (arith, h.2, (only h.0).1)), full.1 (omega (arith, h.3, (only h.0).1))),
          ),
        ),
      );
      others = λ k e. gives_one k tests ((x.exactly k).0 e);
      leaves = x.leaves;
    }

pub of_writer : (n o before : List ℕ) (d : Ended ℕ (List ℕ)) → Writes n o before d → OfWriter n o before d
of_writer n o before d w = subst (OfWriter n o before) (sym w.ends) (writing_allows before w.what)

-- ---- reading

reading_allows : {s : List ℕ} (lent : ReadLent) (w : Contents s) → OfReader s lent (reading w lent)
reading_allows {s} lent (broken f) =
    let w : Contents s = broken f in
    let tests = read_tests w lent in
    let x = checked_refuses {A = ℕ} lent tests 0 lent in
    record {
      read15 = exactly x 15 refl (λ e us t h. f us (record { taken = t; octets = h }), λ g. refl);
      read3 = exactly x 3 refl
          (held_iff (λ h. f h.0 (record { taken = h.1; octets = h.2 })));
      others = λ k e. gives_one k tests ((x.exactly k).0 e);
      leaves = x.leaves;
    }
reading_allows {s} lent (kept us r) =
    let tests = read_tests (kept us r) lent in
    let x = checked_refuses lent tests (length us) (record {
      numbers = written lent.numbers 0 (numbers_of us);
      octets = written lent.octets 0 (octets_of us);
    }) in
    let short : List Recorded → Type 0
    = λ vs. (length lent.numbers < 4 * length vs) ⊎ (length lent.octets < length (octets_of vs)) in
    let says = either_less (length lent.numbers) (4 * length us) (length lent.octets) (length (octets_of us)) in
    record {
      read15 = exactly x 15 refl (failed-iff (λ f. f us r.taken r.octets));
      read3 = exactly x 3 refl (
        λ h. (us, r.taken, r.octets, says.0 h.1),
        λ h. (refl, says.1 (subst short (record-once h.0 us s (record { taken = h.1; octets = h.2 }) r) h.3)),
      );
      others = λ k e. gives_one k tests ((x.exactly k).0 e);
      leaves = x.leaves;
    }

pub of_reader : (s : List ℕ) (lent : ReadLent) (d : Ended ℕ ReadLent) → Reads s lent d → OfReader s lent d
of_reader s lent d q = subst (OfReader s lent) (sym q.ends) (reading_allows lent q.what)
