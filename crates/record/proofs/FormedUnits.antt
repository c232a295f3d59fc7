-- A record's units stand at their offsets: a record is laid of the units before one, then of that one, then of what is behind it.
--
--   total-append   units behind others take what both take
--   ranges-here    each of units in range is in range
--   kept           a unit with the back offset that it ought to have
--   behind         what stands behind it
--   unit-here      what stands at a unit's offset begins with the unit
--   stored-stands  a stored unit that stands somewhere stands there in the claims' words
--   unit-stands    .. and so does a record's
--   units_stand    .. with the offset of its channel's previous unit
--
-- Assumes nothing.
use mathlib.Core.Path.{◌≡◌, sym, ap, subst, ◌∙◌}
use mathlib.Core.List.{List, [], ◌∷◌, ◌++◌, append_assoc, reverse, reverse_aux, reverse_aux-eq, reverse-reverse}
use Prim.Native.Nat.{ℕ, ◌+◌, ◌≤◌, ◌<◌}
use native.Mathlib.Omega.{arith}
use lib.ListN.{get_or, take, drop}
use lib.Seq.{drop_at}
use Rattle.octets.specs.High.{fields, widths}
use Rattle.record.specs.Recorded.{Recorded, InRange, AllInRange, flat}
use Rattle.record.specs.Layout.{header_widths, total, last, Stored, stored_octets, laid, backed, body_of}
use Rattle.record.specs.Trailer.{trailer_of, most_before, record_of}
use Rattle.record.specs.Call.{Taken}
use Rattle.record.specs.Form.{number_at, offset, UnitStands, UnitsStand}
use Rattle.record.proofs.Laying.{flat_append, five_numbers, stored_fit}
use Rattle.record.proofs.Backing.{backed_onto, body-length, last_small}
use Rattle.record.proofs.Standing.{octets-here}
use Rattle.record.proofs.Forming.{total-turned}
use Rattle.record.proofs.Channelled.{offset-total}
use Rattle.record.proofs.Fielding.{field-stands}
use Rattle.record.proofs.Telling.{last_none, last-offset}

pub total-append : (us vs : List Recorded) → total (us ++ vs) ≡ total us + total vs
unfolding total
total-append [] vs = omega arith
total-append (u ∷ us) vs = omega (arith, total-append us vs)

ranges-here : (front rest : List Recorded) (u : Recorded) → AllInRange (front ++ u ∷ rest) → InRange u
ranges-here [] rest u r = r.0
ranges-here (v ∷ front) rest u r = ranges-here front rest u r.1

abbrev kept : List Recorded → Recorded → Stored
kept front u = record { back = last u.channel (reverse front); unit = u }

abbrev behind : List Recorded → Recorded → List Recorded → List ℕ
behind front u rest = laid (backed (u ∷ reverse front) rest) ++ trailer_of (reverse (front ++ u ∷ rest))

unit-here : (front rest : List Recorded) (u : Recorded)
    → drop (offset front) (record_of (front ++ u ∷ rest)) ≡ stored_octets (kept front u) ++ behind front u rest
unfolding flat backed
unit-here front rest u =
    let past = reverse front in
    let more = laid (backed (u ∷ past) rest) in
    let end = trailer_of (reverse (front ++ u ∷ rest)) in
    let own = stored_octets (kept front u) in
    let turned : front ++ u ∷ rest ≡ reverse_aux past (u ∷ rest)
    = ap (λ (l : List Recorded). l ++ u ∷ rest) (sym (reverse-reverse front)) ∙ sym (reverse_aux-eq past (u ∷ rest)) in
    let body : body_of (front ++ u ∷ rest) ≡ body_of front ++ (own ++ more)
    = ap body_of turned ∙ ap laid (backed_onto past (u ∷ rest)) ∙ flat_append stored_octets (backed [] (reverse past)) (backed past (u ∷ rest))
    ∙ ap (λ (l : List Recorded). body_of l ++ (own ++ more)) (reverse-reverse front) in
    ap (λ (l : List ℕ). drop (offset front) (l ++ end)) body ∙ ap (drop (offset front)) (append_assoc (body_of front) (own ++ more) end)
    ∙ drop_at (body_of front) (own ++ more ++ end) (offset front) (body-length front ∙ sym (offset-total front))
    ∙ append_assoc own more end

module _ (s : List ℕ) (at : ℕ) (q : Stored) (x : List ℕ) (here : drop at s ≡ stored_octets q ++ x) where
  stored-stands : InRange q.unit → q.back < 4294967296 → UnitStands s at q.back q.unit
  stored-stands r small = record {
    channel_stands = field 0 at (omega arith) (omega arith);
    badge_stands = field 1 (at + 2) (omega arith) (omega arith);
    changed_stands = field 2 (at + 3) (omega arith) (omega arith);
    length_stands = field 3 (at + 4) (omega arith) (omega arith);
    back_stands = field 4 (at + 6) (omega arith) (omega arith);
    octets_stand = octets-here s at q x here;
  }
    where
      field : (i k : ℕ) → i < 5 → k ≡ at + widths (take i header_widths) → number_at (get_or header_widths i 0) s k ≡ get_or (five_numbers q) i 0
      field i k h o =
          field-stands header_widths (five_numbers q) i s at k (q.unit.octets ++ x) (stored_fit q r small) h
          (here ∙ append_assoc (fields header_widths (five_numbers q)) q.unit.octets x) o

unit-stands : (front rest : List Recorded) (u : Recorded) (back : ℕ) → Taken (front ++ u ∷ rest) → last u.channel (reverse front) ≡ back
    → UnitStands (record_of (front ++ u ∷ rest)) (offset front) back u
unit-stands front rest u back t e =
    let few : total (reverse front) ≤ most_before = omega (arith, total-append front (u ∷ rest), total-turned front, t.before) in
    subst (λ (k : ℕ). UnitStands (record_of (front ++ u ∷ rest)) (offset front) k u) e
    (stored-stands (record_of (front ++ u ∷ rest)) (offset front) (kept front u) (behind front u rest) (unit-here front rest u)
    (ranges-here front rest u t.ranges) (last_small u.channel (reverse front) few))

pub units_stand : UnitsStand
units_stand us t = record {
  first = λ front rest u e f. here front rest u 4294967295 e (last_none u.channel front f);
  later = λ a b rest v u e on f. here (a ++ v ∷ b) rest u (offset a) e (last-offset u.channel a b v on f);
}
  where
    here : (front rest : List Recorded) (u : Recorded) (back : ℕ) → us ≡ front ++ u ∷ rest → last u.channel (reverse front) ≡ back
        → UnitStands (record_of us) (offset front) back u
    here front rest u back e b =
        subst (λ (l : List Recorded). UnitStands (record_of l) (offset front) back u) (sym e)
        (unit-stands front rest u back (subst Taken e t) b)
