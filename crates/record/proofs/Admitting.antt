-- What the writer's tests say of the units that are lent, and what it has written once they have passed.
--
--   listed-none      the numbers and octets are those of no list
--   many_so, few_so  the channels are more than 16, or are not
--   places           .. and have their places
--   long_so          the units take more octets than may stand before a trailer
--   ready_so         what writing the units asks for
--   wrote-told       the units and their trailer are the record
--
-- Assumes nothing.
use mathlib.Core.Path.{◌≡◌, sym, ap, ap₂, subst, ◌∙◌}
use mathlib.Core.List.{List, [], reverse}
use Prim.Native.Nat.{ℕ, ◌+◌, ◌/◌, ◌≤◌, ◌<◌}
use native.Mathlib.Omega.{arith}
use Rattle.std.specs.Prelude.{Ok}
use lib.ListN.{length, length-reverse}
use Rattle.octets.specs.Written.{written, written_next}
use Rattle.calls.specs.Refusal.{leaving}
use Rattle.record.specs.Recorded.{Recorded, AllInRange, numbers_of, Lent}
use Rattle.record.specs.Layout.{total, body_of}
use Rattle.record.specs.Trailer.{used, most_channels, trailer_of, trailer_octets, most_before, record_of}
use Rattle.record.specs.Call.{Writes}
use Rattle.record.specs.Walk.{PlacesAre, PlacesBy, trailer_from, Listed, before_of, Before, Ready, Wrote}
use Rattle.record.specs.declared.places.Places.{Places}
use Rattle.record.proofs.Backing.{body-length}
use Rattle.record.proofs.Ending.{writes-told}
use Rattle.record.proofs.Forming.{total-turned}
use Rattle.record.proofs.Listing.{numbers-length, before-total}
use Rattle.record.proofs.Placing.{trailer-from}

pub listed-none : {n o : List ℕ} → (Listed n o → ⊥) → (us : List Recorded) → Lent us n o → AllInRange us → ⊥
listed-none f us l r = f (record { list = us; lent = l; ranges = r })

pub many_so : {n o : List ℕ} (l : Listed n o) → ((us : List Recorded) → n ≡ numbers_of us → most_channels < length (used (reverse us)))
    → most_channels < length (used (reverse l.list))
many_so l f = f l.list l.lent.numbers

module _ {n o : List ℕ} (l : Listed n o) {p : Places} (is : PlacesBy n (Ok p)) where
  places : PlacesAre (used (reverse l.list)) [] p
  places = is l.list l.lent.numbers

  pub few_so : length (used (reverse l.list)) ≤ most_channels
  few_so = places.few

  pub ready_so : {m : ℕ} → Before n o (Ok m) → {k : ℕ} → m ≤ k → Ready n o p k
  ready_so b fits =
      let total-is = before-total l.list n o l.lent in
      record {
        list = l.list;
        lent = l.lent;
        ranges = l.ranges;
        places = places;
        short = omega (arith, total-is, b.0, b.1);
        fits = omega (arith, total-is, b.0, fits);
      }

pub long_so : {n o : List ℕ} (l : Listed n o) → most_before < before_of n o → most_before < total l.list
long_so {n = n} {o = o} l h = omega (arith, h, before-total l.list n o l.lent)

pub wrote-told : {n o out middle after : List ℕ} {p : Places} {m : ℕ} {end : List ℕ} (w : Wrote n o out middle p) → Before n o (Ok m)
    → m + trailer_octets ≤ length out → end ≡ trailer_from p (length n / 4) m → after ≡ written middle m end
    → Writes n o out (leaving (m + trailer_octets) after)
wrote-told {n = n} {o = o} {out = out} {p = p} {m = m} {end = end} w b room e g =
    let us = w.list in
    let total-is : m ≡ total us = b.0 ∙ before-total us n o w.lent in
    let count : length n / 4 ≡ length (reverse us) = omega (arith, ap length w.lent.numbers, numbers-length us, length-reverse us) in
    let trailer-is = e ∙ ap₂ (trailer_from p) count (total-is ∙ sym (total-turned us)) ∙ trailer-from (reverse us) w.places in
    let body-fits : length (body_of us) ≤ length out = omega (arith, body-length us, total-is, room) in
    let whole = g ∙ ap₂ (λ (x : List ℕ) (k : ℕ). written x k end) w.body (total-is ∙ sym (body-length us))
    ∙ ap (written (written out 0 (body_of us)) (length (body_of us))) trailer-is ∙ written_next out (body_of us) (trailer_of (reverse us)) body-fits in
    subst (λ (x : List ℕ). Writes n o out (leaving (m + trailer_octets) x)) (sym whole)
    (subst (λ (k : ℕ). Writes n o out (leaving (k + trailer_octets) (written out 0 (record_of us)))) (sym total-is)
    (writes-told n o out us w.lent w.ranges w.places.few (omega (arith, total-is, b.1)) (omega (arith, total-is, room))))
