-- Whether octets are a record, by what the two walks found.
--
--   record_long       a record is 236 octets long at least, and at most as long as the longest
--   part-all          a part that goes on to the end is all that is behind its start
--   end-there         where the comparison says so, the trailer is there
--   end_differs       .. and is not
--   survey-none       where no units stand before the trailer there is none
--   survey_some       where units do, what comparing them asks for is known
--   checked-none      where a back offset is wrong there is none
--   checked_whole     where all are right, all is known but whether the trailer is right
--
-- Assumes nothing.
use mathlib.Core.Path.{◌≡◌, sym, ap, subst, ◌∙◌}
use mathlib.Core.Bool.{Bool, true, false, true≢false}
use mathlib.Core.List.{List}
use Rattle.std.specs.Prelude.{Some, None}
use Prim.Native.Nat.{ℕ, ◌+◌, ◌-◌, ◌≤◌}
use native.Mathlib.Omega.{arith}
use lib.Dec.{T}
use lib.ListN.{length, take, drop, length-drop, length-map}
use lib.Seq.{length-take-le, take_all}
use Rattle.octets.specs.Same.{same, same_self, same-equal}
use Rattle.record.specs.Recorded.{Recorded}
use Rattle.record.specs.Layout.{Stored}
use Rattle.record.specs.Trailer.{trailer_octets, most_before}
use Rattle.record.specs.Call.{IsRecord}
use Rattle.record.specs.Walk.{Surveyed, SurveyIs, CheckedIs}
use Rattle.record.specs.declared.reader.Survey.{Survey}
use Rattle.record.specs.declared.places.Places.{Places}
use Rattle.record.proofs.Laying.{laid_same}
use Rattle.record.proofs.Forming.{record-length, record-fits, record_right, Whole}

pub record_long : (us : List Recorded) (s : List ℕ) → IsRecord us s → (trailer_octets ≤ length s) × (length s ≤ most_before + trailer_octets)
record_long us s r = (omega (arith, record-length r), omega (arith, record-length r, r.taken.before))

module _ (k : ℕ) (s l : List ℕ) (r : Bool) (is : r ≡ same (take (length s - k) (drop k s)) l) where
  part-all : take (length s - k) (drop k s) ≡ drop k s
  part-all = take_all (length s - k) (drop k s) (omega (arith, length-drop k s))

  pub end-there : r ≡ true → drop k s ≡ l
  end-there h = sym part-all ∙ same-equal (take (length s - k) (drop k s)) l (subst T (sym h ∙ is) tt)

  pub end_differs : r ≡ false → drop k s ≡ l → ⊥
  end_differs h e = true≢false (sym (same_self l) ∙ ap (λ (x : List ℕ). same x l) (sym (part-all ∙ e)) ∙ sym is ∙ h)

-- the record's first k octets stand before the trailer
module _ (s : List ℕ) (k : ℕ) (at : k + trailer_octets ≡ length s) where
  pub survey-none : SurveyIs (take k s) None → (us : List Recorded) → IsRecord us s → ⊥
  survey-none is us r = is _ (record-fits r k at)

  pub checked-none : CheckedIs (take k s) None → (us : List Recorded) → IsRecord us s → ⊥
  checked-none is us r = is.backs (record_right r k at is.list is.fits)

  module _ (short : k ≤ most_before) (v : Survey) (is : SurveyIs (take k s) (Some v)) where
    pub survey_some : Surveyed (take k s) v.places
    survey_some = record { list = is.0; fits = is.1; places = is.2; short = omega (arith, length-take-le k s (omega (arith, at)), short) }

    pub checked_whole : (p : Places) → CheckedIs (take k s) (Some p) → Whole s k v.units p
    checked_whole p right =
        let same : is.0 ≡ right.list
        = laid_same is.0 right.list is.1.ranges right.fits.ranges (sym is.1.octets ∙ right.fits.octets) in
        record {
          list = right.list;
          fits = right.fits;
          right = right.backs.0;
          count = is.3 ∙ ap length same ∙ sym (length-map right.list (λ (q : Stored). q.unit));
          places = right.backs.1;
          at = at;
          short = short;
        }
