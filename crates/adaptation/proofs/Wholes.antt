-- AL2's wholes: what each operation answers case by case, and that reading undoes putting together.
--
--   field_most, field_length_most   a number takes at most one octet
--   field_is                       the slice of a number is its field
--   sent_empty, sent-long          refusal 2: no unit, or a whole that is too long
--   sent-room                      refusal 3: too little room
--   sent-parts                     else the whole is written, part after part
--   apart_read                     a whole that is neither too short nor too long is read
--   by_parts t e                     receiving, by what reading told
--   received_apart                 .. is that
--   whole_apart                    a whole that was put together is read as what it was put together from, and its check agrees
--   whole-received                 so its unit is handed up as it was, clean, or discarded for its number
--
-- Assumes nothing.
use mathlib.Core.Path.{◌≡◌, refl, sym, ap, ap₂, ◌∙◌}
use mathlib.Core.Bool.{Bool, true, false, and-false}
use mathlib.Core.List.{List, [], ◌∷◌, ◌++◌}
use Prim.Native.Nat.{ℕ, ◌+◌, ◌-◌, ◌≤◌, ◌<◌}
use native.Mathlib.Omega.{arith}
use borrow.Author.Tests.{le-leb, lt-leb, le-ltb, lt-ltb}
use lib.Dec.{leb}
use lib.ListN.{length, take, length-append}
use lib.Seq.{take_at}
use Rattle.octets.specs.Written.{written, written_next}
use Rattle.calls.specs.Refusal.{Told, refused, told, leaving, refusing}
use Rattle.calls.proofs.Laws.{checked_through}
use Rattle.checks.specs.Check.{check_of, agrees, eight}
use Rattle.adaptation.specs.Handed.{longest_unit}
use Rattle.adaptation.specs.AL2.{field, whole, is_sendable, sent, field_length, number_of, unit_of, Parts, read_tests, parts_of, apart, Receipt}
use Rattle.adaptation.specs.AL2.{settled, received}
use Rattle.adaptation.specs.AL2Claims.{is_numbered}
use Rattle.adaptation.specs.declared.al2.Due.{Due}
use Rattle.std.specs.Prelude.{Option, Some, None, MatchOption}
use Rattle.adaptation.proofs.Applying.{whole_length, headed}
use Rattle.checks.proofs.Laws.{sealed-front, agrees_own}

pub field_most : (n : Option ℕ) → length (field n) ≤ 1
field_most (Some n) = omega arith
field_most None = omega arith

pub field_length_most : (s : Bool) → field_length s ≤ 1
field_length_most true = omega arith
field_length_most false = omega arith

pub field_is : (n : Option ℕ) (v : List ℕ) → MatchOption n (v ≡ []) (λ a. v ≡ a ∷ []) → v ≡ field n
field_is (Some a) v h = h
field_is None v h = h

-- ---- sending

-- m is how many octets the number takes
module _ (n : Option ℕ) (u : List ℕ) (m : ℕ) (e : m ≡ length (field n)) where
  long : length (whole n u) ≡ m + length u + 1
  long = whole_length n u m e

  module _ (out : List ℕ) where
    pub sent_empty : length u ≡ 0 → sent n u out ≡ refusing out 2
    unfolding sent
    sent_empty z = rw z

    pub sent-long : longest_unit < m + length u + 1 → sent n u out ≡ refusing out 2
    unfolding sent
    sent-long l = rw (lt-leb (length (whole n u)) longest_unit (rw long l), and-false (leb 1 (length u)))

    module _ (p : 0 < length u) (fits : m + length u + 1 ≤ longest_unit) where
      allowed : is_sendable n u ≡ true
      allowed = rw (le-leb 1 (length u) p, le-leb (length (whole n u)) longest_unit (rw long fits))

      pub sent-room : length out < m + length u + 1 → sent n u out ≡ refusing out 3
      unfolding sent
      sent-room l = rw (allowed, lt-ltb (length out) (length (whole n u)) (rw long l))

      module _ (room : m + length u + 1 ≤ length out) where
        sent-whole : sent n u out ≡ leaving (m + length u + 1) (written out 0 (whole n u))
        unfolding sent
        sent-whole = rw (allowed, le-ltb (length out) (length (whole n u)) (rw long room), long)

        -- what stands in the output after the number, after the unit, and after the check
        pub sent-parts : (a b c : List ℕ) → a ≡ written out 0 (field n) → b ≡ written a m u
            → c ≡ written b (m + length u) (check_of eight (take (m + length u) b)) → sent n u out ≡ leaving (m + length u + 1) c
        sent-parts a b c ha hb hc =
            let v : List ℕ = field n ++ u in
            let k : m + length u ≡ length v = rw e (sym (length-append (field n) u)) in
            let both : b ≡ written out 0 v = hb ∙ ap₂ (λ (x : List ℕ) (i : ℕ). written x i u) ha e ∙ written_next out (field n) u (omega arith) in
            let all : c ≡ written out 0 (whole n u) =
            hc ∙ ap₂ (λ (i : ℕ) (x : List ℕ). written x i (check_of eight (take i x))) k both ∙ sealed-front eight v out (omega arith) in
            sent-whole ∙ ap (leaving (m + length u + 1)) (sym all)

-- ---- reading

module _ (s : Bool) (w : List ℕ) where
  pub apart_read : (n : Option ℕ) (t : Bool) → field_length s + 1 + 1 ≤ length w → length w ≤ longest_unit → number_of s w ≡ n → agrees eight w ≡ t
      → apart s w ≡ told (record { number = n; agreeing = t; unit = unit_of s w })
  unfolding apart
  apart_read n t l m e a = rw (le-leb (field_length s + 1 + 1) (length w) l, le-leb (length w) longest_unit m, e, a)

-- receiving, by what reading told
abbrev pub by_parts : Told Parts → Due → Told Receipt
by_parts (refused k) e = refused k
by_parts (told p) e = told (settled p.number p.agreeing p.unit e)

pub received_apart : (s : Bool) (w : List ℕ) (e : Due) → received s w e ≡ by_parts (apart s w) e
unfolding received apart
received_apart s w e = sym (checked_through (λ (t : Told Parts). by_parts t e) refused (read_tests s w) (told (parts_of s w)))

-- ---- both

unit-whole : (n : Option ℕ) (u : List ℕ) → unit_of (is_numbered n) (whole n u) ≡ u
unit-whole (Some n) u =
    let m : length (whole (Some n) u) - 1 - 1 ≡ length u = omega (arith, whole_length (Some n) u 1 refl) in
    ap (λ (k : ℕ). take k (u ++ check_of eight (n ∷ u))) m ∙ take_at u _ (length u) refl
unit-whole None u =
    let m : length (whole None u) - 1 - 0 ≡ length u = omega (arith, whole_length None u 0 refl) in
    ap (λ (k : ℕ). take k (u ++ check_of eight u)) m ∙ take_at u _ (length u) refl

field_length-is : (n : Option ℕ) → field_length (is_numbered n) ≡ length (field n)
field_length-is (Some n) = refl
field_length-is None = refl

pub whole_apart : (n : Option ℕ) (u : List ℕ) → 0 < length u → length (whole n u) ≤ longest_unit
    → apart (is_numbered n) (whole n u) ≡ told (record { number = n; agreeing = true; unit = u })
whole_apart n u p l =
    apart_read (is_numbered n) (whole n u) n true (omega (arith, whole_length n u (length (field n)) refl, field_length-is n)) l (headed n u (check_of eight (field n ++ u)))
    (agrees_own eight (field n ++ u))
    ∙ ap (λ (v : List ℕ). told (record { number = n; agreeing = true; unit = v })) (unit-whole n u)

pub whole-received : (n : Option ℕ) (u : List ℕ) (e : Due) → 0 < length u → length (whole n u) ≤ longest_unit
    → received (is_numbered n) (whole n u) e ≡ told (settled n true u e)
unfolding received
whole-received n u e p l = received_apart (is_numbered n) (whole n u) e ∙ ap (λ (t : Told Parts). by_parts t e) (whole_apart n u p l)
