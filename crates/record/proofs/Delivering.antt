-- The walk that hands up a record's units: what is still to be written stands behind what is written.
--
--   Facing              a stored unit stands at `at`, and others behind it
--   facing              .. where stored units do and the end is not reached
--   all_faced           at the end there are none
--   some_faced          one does where there are any
--   no_rest             .. and there are none where there are none to count
--   facing_head         what is read there is its header
--   facing-end          .. and it is whole
--   Delivering          what the walk keeps, where octets l are left: with the rest of the units, what was lent would be as it ought to be
--   delivering-none     .. at first
--   delivering_faced    .. and before the last there is a next unit
--   numbers_room        .. with room for its numbers
--   own_split           .. as there is for its octets and those behind it
--   unit_room           .. and all of it is there
--   Cut                 what is left cut behind the header and the octets of a unit with these numbers
--   four                its header has its numbers
--   own_is, behind_is   .. its octets stand behind it, and then the others
--   own_room            .. with room for its octets
--   delivering_next     one unit on
--   delivering-all      at the end
--
-- Assumes nothing.
use mathlib.Core.Path.{◌≡◌, refl, sym, ap, ap₂, ◌∙◌}
use mathlib.Core.List.{List, [], ◌∷◌, ◌++◌}
use Prim.Native.Nat.{ℕ, ◌+◌, ◌*◌, ◌≤◌, ◌<◌}
use native.Mathlib.Omega.{arith}
use lib.ListN.{length, take, drop, length-drop, length-append}
use lib.Seq.{drop-drop}
use Rattle.octets.specs.Written.{written, written_nothing, written-append, written-length}
use Rattle.record.specs.Recorded.{InRange, flat, four_numbers, numbers_of, octets_of}
use Rattle.record.specs.Layout.{header_octets, size, Stored, stored_octets, laid}
use Rattle.record.specs.Walk.{numbers_in, HeaderIs, units_of, AllStored, Fits, Deliverable, Delivered}
use Rattle.record.specs.declared.unit.Header.{Header}
use Rattle.record.proofs.Laying.{stored-length}
use Rattle.record.proofs.Standing.{HeadIs, head_is, octets-here, behind-here, end-here}

pub record Facing (b : List ℕ) (at : ℕ) (rest : List Stored) : Type 0 where
  pub first : Stored
  pub others : List Stored
  pub list : rest ≡ first ∷ others
  pub octets : drop at b ≡ stored_octets first ++ laid others
  pub range : InRange first.unit × (first.back < 4294967296)
  pub ranges : AllStored others

module _ (b : List ℕ) (at : ℕ) where
  pub facing : (rest : List Stored) → drop at b ≡ laid rest → AllStored rest → at < length b → Facing b at rest
  unfolding flat
  facing [] e r h = absurd (omega (arith, length-drop at b, ap length e))
  facing (q ∷ rest) e r h = record { first = q; others = rest; list = refl; octets = e; range = r.0; ranges = r.1 }

  pub all_faced : (rest : List Stored) → drop at b ≡ laid rest → length b ≤ at → rest ≡ []
  unfolding flat
  all_faced [] e h = refl
  all_faced (q ∷ rest) e h =
      absurd (omega (arith, length-drop at b, ap length e, length-append (stored_octets q) (laid rest), stored-length q))

some_faced : (l : List ℕ) (rest : List Stored) → l ≡ laid rest → AllStored rest → 0 < length rest → Facing l 0 rest
unfolding flat
some_faced l [] e r h = absurd (omega arith)
some_faced l (q ∷ rest) e r h = record { first = q; others = rest; list = refl; octets = e; range = r.0; ranges = r.1 }

no_rest : (rest : List Stored) → length rest ≡ 0 → rest ≡ []
no_rest [] e = refl
no_rest (q ∷ rest) e = absurd (omega arith)

module _ {b : List ℕ} {at : ℕ} {rest : List Stored} (f : Facing b at rest) where
  pub facing_head : (h : Header) → HeaderIs (take header_octets (drop at b)) h → HeadIs h f.first
  facing_head h = head_is b at f.first (laid f.others) f.octets h f.range

  pub facing-end : at ≤ length b → at + size f.first.unit ≤ length b
  facing-end here = omega (arith, end-here b at f.first (laid f.others) f.octets here)

pub record Delivering (b : List ℕ) (m : ℕ) (n₀ o₀ l n o : List ℕ) (k to : ℕ) : Type 0 where
  pub list : List Stored
  pub fits : Fits list b
  pub rest : List Stored
  pub left : k + length rest ≡ m
  pub ranges : AllStored rest
  pub octets : l ≡ laid rest
  pub numbers : written n (4 * k) (numbers_of (units_of rest)) ≡ written n₀ 0 (numbers_of (units_of list))
  pub numbers_fit : 4 * m ≤ length n
  pub numbers_long : length n ≡ length n₀
  pub own : written o to (octets_of (units_of rest)) ≡ written o₀ 0 (octets_of (units_of list))
  pub own_fit : to + length (octets_of (units_of rest)) ≤ length o
  pub own_long : length o ≡ length o₀

pub delivering-none : (b : List ℕ) (m : ℕ) (n o : List ℕ) → Deliverable b m n o → Delivering b m n o b n o 0 0
delivering-none b m n o d = record {
  list = d.list;
  fits = d.fits;
  rest = d.list;
  left = omega (arith, d.count);
  ranges = d.fits.ranges;
  octets = d.fits.octets;
  numbers = refl;
  numbers_fit = d.numbers_fit;
  numbers_long = refl;
  own = refl;
  own_fit = omega (arith, d.octets_fit);
  own_long = refl;
}

-- l cut behind a header and the unit's own octets
pub record Cut (l : List ℕ) (h : Header) (own behind : List ℕ) : Type 0 where
  pub rest : List ℕ
  pub rest_is : rest ≡ drop header_octets l
  pub own_is : own ≡ take h.numbers.length rest
  pub behind_is : behind ≡ drop h.numbers.length rest

module _ {b : List ℕ} {m : ℕ} {n₀ o₀ l n o : List ℕ} {k to : ℕ} (d : Delivering b m n₀ o₀ l n o k to) where
  pub delivering_faced : k < m → Facing l 0 d.rest
  delivering_faced more = some_faced l d.rest d.octets d.ranges (omega (arith, d.left))

  module _ (f : Facing l 0 d.rest) (h : Header) (is : HeadIs h f.first) where
    pub numbers_room : 4 * k + 4 ≤ length n
    numbers_room = omega (arith, d.numbers_fit, d.left, ap length f.list)

    pub unit_room : header_octets + h.numbers.length ≤ length l
    unit_room = omega (arith, is.length_is, facing-end f (omega arith))

    own_split : length (octets_of (units_of d.rest)) ≡ h.numbers.length + length (octets_of (units_of f.others))
    unfolding flat
    own_split =
        ap (λ (r : List Stored). length (octets_of (units_of r))) f.list
        ∙ length-append f.first.unit.octets (octets_of (units_of f.others)) ∙ omega (arith, is.length_is)

    four : numbers_in h.numbers ≡ four_numbers f.first.unit
    four = rw (is.channel_is, is.badge_is, is.changed_is, is.length_is)

    module _ {own behind : List ℕ} (c : Cut l h own behind) where
      own_is : own ≡ f.first.unit.octets
      own_is = c.own_is ∙ ap₂ take is.length_is c.rest_is ∙ octets-here l 0 f.first (laid f.others) f.octets

      behind_is : behind ≡ laid f.others
      behind_is =
          let end : header_octets + length f.first.unit.octets ≡ 0 + size f.first.unit = omega arith in
          c.behind_is ∙ ap₂ drop is.length_is c.rest_is ∙ drop-drop (length f.first.unit.octets) header_octets l
          ∙ ap (λ (j : ℕ). drop j l) end ∙ behind-here l 0 f.first (laid f.others) f.octets

      pub own_room : to + length own ≤ length o
      own_room = omega (arith, d.own_fit, own_split, is.length_is, ap length own_is)

      pub delivering_next : {x y : List ℕ} → x ≡ written n (4 * k) (numbers_in h.numbers) → y ≡ written o to own
          → Delivering b m n₀ o₀ behind x y (k + 1) (to + length own)
      unfolding flat
      delivering_next {x} {y} e g =
          let u = f.first.unit in
          let next : 4 * (k + 1) ≡ 4 * k + 4 = omega arith in
          let x-is = e ∙ ap (written n (4 * k)) four in
          let y-is = g ∙ ap (written o to) own_is in
          let own-fits : to + length u.octets ≤ length o = omega (arith, own_room, ap length own_is) in
          let x-long = ap length x-is ∙ written-length n (4 * k) (four_numbers u) numbers_room in
          let y-long = ap length y-is ∙ written-length o to u.octets own-fits in
          record {
            list = d.list;
            fits = d.fits;
            rest = f.others;
            left = omega (arith, d.left, ap length f.list);
            ranges = f.ranges;
            octets = behind_is;
            numbers = ap₂ (λ (r : List ℕ) (j : ℕ). written r j (numbers_of (units_of f.others))) x-is next
                ∙ written-append n (4 * k) (four_numbers u) numbers_room (numbers_of (units_of f.others))
                ∙ ap (λ (r : List Stored). written n (4 * k) (numbers_of (units_of r))) (sym f.list) ∙ d.numbers;
            numbers_fit = omega (arith, d.numbers_fit, x-long);
            numbers_long = x-long ∙ d.numbers_long;
            own = ap₂ (λ (r : List ℕ) (j : ℕ). written r j (octets_of (units_of f.others))) y-is (ap (λ (r : List ℕ). to + length r) own_is)
                ∙ written-append o to u.octets own-fits (octets_of (units_of f.others))
                ∙ ap (λ (r : List Stored). written o to (octets_of (units_of r))) (sym f.list) ∙ d.own;
            own_fit = omega (arith, d.own_fit, own_split, y-long, ap length own_is, is.length_is);
            own_long = y-long ∙ d.own_long;
          }

  pub delivering-all : m ≤ k → Delivered b n₀ o₀ n o
  unfolding flat
  delivering-all end =
      let none = no_rest d.rest (omega (arith, d.left)) in
      record {
        list = d.list;
        fits = d.fits;
        numbers_are = sym (written_nothing n (4 * k)) ∙ ap (λ (r : List Stored). written n (4 * k) (numbers_of (units_of r))) (sym none) ∙ d.numbers;
        octets_are = sym (written_nothing o to) ∙ ap (λ (r : List Stored). written o to (octets_of (units_of r))) (sym none) ∙ d.own;
      }
