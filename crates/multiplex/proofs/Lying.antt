-- A finished unit lies where the list says.
--
--   Tale, tale-delivery   every delivery tells of units
--   lies-there     the part of the output that the list tells of is the unit
--
-- Assumes nothing.
use mathlib.Core.Path.{◌≡◌, refl, sym, ap, subst, ◌∙◌}
use mathlib.Core.Bool.{Bool, false, cond}
use mathlib.Core.List.{List, [], ◌∷◌, ◌++◌}
use Prim.Native.Nat.{ℕ, zero, suc, ◌+◌, ◌*◌, ◌≤◌, ◌<◌}
use native.Mathlib.Omega.{arith}
use borrow.Author.Tests.{le-leb, ltb-false}
use lib.Dec.{ltb}
use lib.ListN.{length, get_or, take, drop, length-append}
use Rattle.octets.specs.Written.{written, written-length, written_inside}
use Rattle.calls.specs.Refusal.{Ended, leaving, refusing}
use Rattle.calls.proofs.Laws.{by_test, by_tests, told-refused, leaving-same}
use Rattle.table.specs.Slots.{payload_slots}
use Rattle.table.specs.Table.{entry_of}
use Rattle.channels.specs.declared.Channels.{Channels}
use Rattle.channels.specs.Channels.{channel_at, held_of}
use Rattle.channels.specs.Parts.{part_at}
use Rattle.multiplex.specs.declared.units.Unit.{Unit}
use Rattle.std.specs.Prelude.{Some}
use Rattle.multiplex.specs.Pieces.{Piece, placed, last_place}
use Rattle.multiplex.specs.Demultiplexer.{Delivery, DemuxLent, nothing, took, took_all, delivery, too_small, writes, demultiplex_tests, demultiplexed}
use Rattle.multiplex.specs.Units.{UnitOn, unit_at, unit_in, units_in}
use Rattle.multiplex.specs.Claims.{LiesThere}
use Rattle.multiplex.proofs.Records.{unit_on, unit_octets, records, records-length, Tells, tells-nothing, tells-finished}
use Rattle.multiplex.proofs.Agreeing.{neither}
use Rattle.multiplex.proofs.Listing.{unit-there, list_read}

-- ---- every delivery tells of units

abbrev pub Tale : Delivery → Type 0
Tale d = (us : List UnitOn) × Tells d us

tale-took : (l : List Piece) (r : Delivery) (xs : List ℕ) → Tale r → Tale (took_all r l xs)
unfolding took_all
tale-took [] r xs t = t
tale-took (q ∷ l) r xs t =
    let x = take q.octets xs in
    let n = (channel_at r.channels q.place).number.0 in
    tale-took l (took r q.place x) (drop q.octets xs)
    (by_test Tale (channel_at r.channels q.place).segmentable
    (λ g. (t.0, record { octets = t.1.octets; units = t.1.units; count = t.1.count }))
    (λ g. (t.0 ++ unit_on n x ∷ [], tells-finished r t.0 n x t.1)))

pub tale-delivery : (s : Channels) (h : List ℕ) (mark : Bool) (l : List Piece) (xs : List ℕ) → Tale (delivery s h mark l xs)
unfolding delivery
tale-delivery s h mark l xs =
    let t = tale-took l (nothing s h) xs ([], tells-nothing s h) in
    by_test Tale mark
    (λ m.
    let r = took_all (nothing s h) l xs in
    let n = (channel_at r.channels (last_place l)).number.0 in
    let u = held_of r.channels r.held (last_place l) in
    let again = tells-finished r t.0 n u t.1 in
    (t.0 ++ unit_on n u ∷ [], record { octets = again.octets; units = again.units; count = again.count }))
    (λ m. t)

-- ---- each unit is within their octets

inside : (l : List UnitOn) (k j : ℕ) → j < length l
    → get_or (records k l) (3 * j + 1) 0 + get_or (records k l) (3 * j + 2) 0 ≤ k + length (unit_octets l)
inside [] k j h = absurd (omega arith)
inside (u ∷ l) k zero h = omega (arith, length-append u.octets (unit_octets l))
inside (u ∷ l) k (suc j) h =
    let a : 3 * suc j + 1 ≡ suc (suc (suc (3 * j + 1))) = omega arith in
    let b : 3 * suc j + 2 ≡ suc (suc (suc (3 * j + 2))) = omega arith in
    rw (a, b) (omega (arith, inside l (k + length u.octets) j (omega arith), length-append u.octets (unit_octets l)))

module _ (x : DemuxLent) (d : Delivery) (us : List UnitOn) (t : Tells d us) (small : too_small d x.output x.units ≡ false) where
  abbrev o : List ℕ
  o = written x.output 0 d.octets

  abbrev l : List ℕ
  l = written x.units 0 d.units

  octets_fit : length d.octets ≤ length x.output
  octets_fit = ltb-false (length x.output) (length d.octets) (neither (ltb (length x.output) (length d.octets)) (ltb (length x.units) (length d.units)) small).0

  units_fit : length d.units ≤ length x.units
  units_fit = ltb-false (length x.units) (length d.units) (neither (ltb (length x.output) (length d.octets)) (ltb (length x.units) (length d.units)) small).1

  numbers : length d.units ≡ 3 * length us
  numbers = ap (λ (a : List ℕ). length a) t.units ∙ records-length us 0

  number_at : (i : ℕ) → i < length d.units → get_or l i 0 ≡ get_or (records 0 us) i 0
  number_at i h =
      let z : i ≡ 0 + i = omega arith in
      ap (λ (k : ℕ). get_or l k 0) z ∙ written_inside x.units 0 d.units (omega (arith, units_fit)) i 0 h ∙ ap (λ (a : List ℕ). get_or a i 0) t.units

  lies : (j : ℕ) (u : Unit) (z : UnitOn) → j < length us → unit_at l j ≡ Some u → part_at o u.start u.length ≡ (get_or (units_in o l (length us)) j z).octets
  unfolding part_at
  lies j u z h e =
      let long : length l ≡ length x.units = written-length x.units 0 d.units (omega (arith, units_fit)) in
      let there = unit-there l j (omega (arith, long, units_fit, numbers)) in
      let at : u.start ≡ get_or l (3 * j + 1) 0 = start_is u (sym e ∙ there) in
      let size : u.length ≡ get_or l (3 * j + 2) 0 = length_is u (sym e ∙ there) in
      let within : u.start + u.length ≤ length o = omega (
        arith,
        at,
        size,
        number_at (3 * j + 1) (omega (arith, numbers)),
        number_at (3 * j + 2) (omega (arith, numbers)),
        inside us 0 j h,
        ap (λ (a : List ℕ). length a) t.octets,
        octets_fit,
        written-length x.output 0 d.octets (omega (arith, octets_fit)),
      ) in
      ap (λ (b : Bool). cond b (take u.length (drop u.start o)) []) (le-leb (u.start + u.length) (length o) within)
      ∙ sym (ap (λ (a : UnitOn). a.octets) (list_read o l (length us) j z h (omega (arith, long, units_fit, numbers)) ∙ ap (unit_in o) e))
    where
      start_is : (u : Unit) {v : Unit} → Some u ≡ Some v → u.start ≡ v.start
      start_is u e = cc

      length_is : (u : Unit) {v : Unit} → Some u ≡ Some v → u.length ≡ v.length
      length_is u e = cc

pub lies-there : LiesThere
unfolding demultiplexed
lies-there x y t c mark xs k j u z =
    let d = delivery x.channels x.held mark (placed x.channels (payload_slots (entry_of t c) (length xs))) xs in
    let tale = tale-delivery x.channels x.held mark (placed x.channels (payload_slots (entry_of t c) (length xs))) xs in
    by_tests
    (λ (r : Ended ℕ DemuxLent). r ≡ leaving k y → j < k → unit_at y.units j ≡ Some u
    → part_at y.output u.start u.length ≡ (get_or (units_in y.output y.units k) j z).octets)
    (refusing x) (demultiplex_tests x t c mark xs) (leaving d.count (writes d x.output x.units))
    (λ i e. told-refused (ap (λ (r : Ended ℕ DemuxLent). r.answer) e) refl)
    (λ none e h f.
    let small : too_small d x.output x.units ≡ false = search none in
    let same = leaving-same d.count k (writes d x.output x.units) y e in
    let n : length tale.0 ≡ k = sym tale.1.count ∙ same.0 in
    subst
    (λ (r : DemuxLent). unit_at r.units j ≡ Some u → part_at r.output u.start u.length ≡ (get_or (units_in r.output r.units k) j z).octets) same.1
    (λ g. lies x d tale.0 tale.1 small j u z (omega (arith, n)) g
    ∙ ap (λ (m : ℕ). (get_or (units_in (written x.output 0 d.octets) (written x.units 0 d.units) m) j z).octets) n) f)
