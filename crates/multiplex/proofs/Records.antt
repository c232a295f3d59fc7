-- What a delivery has written, as the units that its records tell of.
--
--   rest-stays        what stands behind a list that is written over the front of another stays
--   unit_on n u        unit u on channel n
--   unit_octets l       the octets of the units l, one behind another
--   records k l       the records of the units l, whose octets stand from k on: channel, start and length of each
--   Tells r l         the delivery r has finished the units l
--   tells-nothing     at first none
--   tells-finished    one more
--   records-length    three numbers to a unit
--   tells_read        what is read out of what the call leaves are those units
--   on-append         the units of channel n in two lists
--   on_this, on-other   one more unit, of channel n or another
--
-- Assumes nothing.
use mathlib.Core.Path.{◌≡◌, refl, sym, ap, ap₂, ◌∙◌}
use mathlib.Core.Bool.{Bool, true, false, cond}
use mathlib.Core.List.{List, [], ◌∷◌, ◌++◌, append_assoc, append-nil}
use Prim.Native.Nat.{ℕ, ◌+◌, ◌*◌}
use native.Mathlib.Nat.{zero-add}
use native.Mathlib.Omega.{arith}
use borrow.Author.Tests.{eq-eqb, ne_eqb}
use lib.Dec.{eqb}
use lib.ListN.{length, take, drop, length-append}
use lib.Seq.{take-append_seam, drop-append_seam, drop-drop}
use Rattle.octets.specs.Written.{written}
use Rattle.channels.specs.declared.Channels.{Channels}
use Rattle.multiplex.specs.Demultiplexer.{Delivery, nothing, finished}
use Rattle.multiplex.specs.Units.{UnitOn, units_on, listed, units_in}

pub rest-stays : (lent o : List ℕ) (n : ℕ) → length o ≡ n → drop n (written lent 0 o) ≡ drop n lent
rest-stays lent o n e =
    let z : 0 + length o ≡ n = omega (arith, e) in
    ap (λ (j : ℕ). drop j (written lent 0 o)) (sym e) ∙ drop-append_seam o (drop (0 + length o) lent) ∙ ap (λ (j : ℕ). drop j lent) z

abbrev pub unit_on : ℕ → List ℕ → UnitOn
unit_on n u = record { channel = n; octets = u }

abbrev pub unit_octets : List UnitOn → List ℕ
unit_octets [] = []
unit_octets (u ∷ l) = u.octets ++ unit_octets l

abbrev pub records : ℕ → List UnitOn → List ℕ
records k [] = []
records k (u ∷ l) = listed u.channel k (length u.octets) ++ records (k + length u.octets) l

pub record Tells (r : Delivery) (l : List UnitOn) : Type 0 where
  pub octets : r.octets ≡ unit_octets l
  pub units : r.units ≡ records 0 l
  pub count : r.count ≡ length l

pub tells-nothing : (s : Channels) (h : List ℕ) → Tells (nothing s h) []
tells-nothing s h = record { octets = refl; units = refl; count = refl }

all_append : (l m : List UnitOn) → unit_octets (l ++ m) ≡ unit_octets l ++ unit_octets m
all_append [] m = refl
all_append (u ∷ l) m = ap (λ (x : List ℕ). u.octets ++ x) (all_append l m) ∙ sym (append_assoc u.octets (unit_octets l) (unit_octets m))

records-snoc : (l : List UnitOn) (k n : ℕ) (u : List ℕ)
    → records k (l ++ unit_on n u ∷ []) ≡ records k l ++ listed n (k + length (unit_octets l)) (length u)
records-snoc [] k n u = let e : k + 0 ≡ k = omega arith in rw e
records-snoc (v ∷ l) k n u =
    let e : k + length v.octets + length (unit_octets l) ≡ k + length (v.octets ++ unit_octets l) = omega (arith, length-append v.octets (unit_octets l)) in
    ap (λ (x : List ℕ). v.channel ∷ k ∷ length v.octets ∷ x) (records-snoc l (k + length v.octets) n u ∙ rw e)

pub tells-finished : (r : Delivery) (l : List UnitOn) (n : ℕ) (u : List ℕ) → Tells r l → Tells (finished r n u) (l ++ unit_on n u ∷ [])
tells-finished r l n u t = record {
  octets = ap (λ (x : List ℕ). x ++ u) t.octets ∙ ap (λ (x : List ℕ). unit_octets l ++ x) (sym (append-nil u)) ∙ sym (all_append l (unit_on n u ∷ []));
  units = ap₂ (λ (x y : List ℕ). x ++ n ∷ length y ∷ length u ∷ []) t.units t.octets
      ∙ sym (records-snoc l 0 n u ∙ rw (zero-add (length (unit_octets l))));
  count = omega (arith, t.count, length-append l (unit_on n u ∷ []));
}

pub records-length : (l : List UnitOn) (k : ℕ) → length (records k l) ≡ 3 * length l
records-length [] k = refl
records-length (u ∷ l) k = omega (arith, records-length l (k + length u.octets))

-- ---- reading

read-records : (l : List UnitOn) (k : ℕ) (out more rest : List ℕ) → drop k out ≡ unit_octets l ++ more → units_in out (records k l ++ rest) (length l) ≡ l
unfolding units_in
read-records [] k out more rest e = refl
read-records (u ∷ l) k out more rest e =
    let f : drop k out ≡ u.octets ++ (unit_octets l ++ more) = e ∙ append_assoc u.octets (unit_octets l) more in
    ap₂ (λ (x : List ℕ) (m : List UnitOn). unit_on u.channel x ∷ m)
    (ap (take (length u.octets)) f ∙ take-append_seam u.octets (unit_octets l ++ more))
    (read-records l (k + length u.octets) out more rest
    (sym (drop-drop (length u.octets) k out) ∙ ap (drop (length u.octets)) f ∙ drop-append_seam u.octets (unit_octets l ++ more)))

pub tells_read : (r : Delivery) (l : List UnitOn) (output units : List ℕ) → Tells r l
    → units_in (written output 0 r.octets) (written units 0 r.units) r.count ≡ l
tells_read r l output units t =
    rw (t.octets, t.units, t.count)
    (read-records l 0 (written output 0 (unit_octets l)) (drop (0 + length (unit_octets l)) output) (drop (0 + length (records 0 l)) units) refl)

-- ---- by channels

pub on-append : (n : ℕ) (l m : List UnitOn) → units_on n (l ++ m) ≡ units_on n l ++ units_on n m
unfolding units_on
on-append n [] m = refl
on-append n (u ∷ l) m = by (eqb u.channel n) (on-append n l m)
  where
    by : (b : Bool) → units_on n (l ++ m) ≡ units_on n l ++ units_on n m
        → cond b (u.octets ∷ units_on n (l ++ m)) (units_on n (l ++ m)) ≡ cond b (u.octets ∷ units_on n l) (units_on n l) ++ units_on n m
    by true e = ap (λ (x : List (List ℕ)). u.octets ∷ x) e
    by false e = e

one_this : (n m : ℕ) (u : List ℕ) → m ≡ n → units_on n (unit_on m u ∷ []) ≡ u ∷ []
unfolding units_on
one_this n m u e = rw (eq-eqb m n e)

one-other : (n m : ℕ) (u : List ℕ) → (m ≡ n → ⊥) → units_on n (unit_on m u ∷ []) ≡ []
unfolding units_on
one-other n m u h = rw (ne_eqb m n h)

pub on_this : (n m : ℕ) (l : List UnitOn) (u : List ℕ) → m ≡ n → units_on n (l ++ unit_on m u ∷ []) ≡ units_on n l ++ u ∷ []
on_this n m l u e = on-append n l (unit_on m u ∷ []) ∙ ap (λ (x : List (List ℕ)). units_on n l ++ x) (one_this n m u e)

pub on-other : (n m : ℕ) (l : List UnitOn) (u : List ℕ) → (m ≡ n → ⊥) → units_on n (l ++ unit_on m u ∷ []) ≡ units_on n l
on-other n m l u h = on-append n l (unit_on m u ∷ []) ∙ ap (λ (x : List (List ℕ)). units_on n l ++ x) (one-other n m u h) ∙ append-nil (units_on n l)
