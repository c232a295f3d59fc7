-- A check as it stands behind its content.
--
--   check8-once       there is one of 8 bits
--   octets_most       a check has at most two octets
--   check-length      it has the octets of its kind
--   check_octets      .. and they are octets
--   check-part        of a list that begins with the check, the part of that length is the check
--   check-fits        .. and it is there
--   sealed-front      a content written at the front, and its check behind it, are both written there together
--   agrees_own        a content with its own check behind it agrees
--   agrees-none       with a check of no octets it agrees
--   agrees_compared   to compare the last octets with the check of those before is to see whether they agree
--
-- Assumes nothing.
use mathlib.Core.Path.{◌≡◌, refl, sym, ap, ap₂, ◌∙◌}
use mathlib.Core.Bool.{true}
use mathlib.Core.List.{List, [], ◌∷◌, ◌++◌, head-eq_of_cons-eq}
use Prim.Native.Nat.{ℕ, ◌-◌, ◌≤◌, ◌<◌}
use native.Mathlib.Nat.{sub-zero}
use native.Mathlib.Omega.{arith}
use lib.ListN.{length, get_or, take, drop, length-append, length-drop}
use lib.Seq.{drop-length, take_all, take_at, drop_at}
use Rattle.octets.specs.Same.{same, same_self}
use Rattle.octets.specs.Written.{written, written_front, written_next}
use Rattle.checks.specs.Bits.{octets_of}
use Rattle.checks.specs.Check.{Kind, none, eight, sixteen, check_of, agrees}
use Rattle.checks.specs.Width.{kind_of}
use Rattle.checks.specs.declared.Width.{Width}
use Rattle.checks.specs.declared.Width.TheVariants.{Zero, Eight, Sixteen}
use Rattle.checks.proofs.Octets.{octets_of-length, octets_of-lt}

pub octets_most : (w : Width) → (kind_of w).octets ≤ 2
unfolding none eight sixteen
octets_most Zero = omega arith
octets_most Eight = omega arith
octets_most Sixteen = omega arith

pub check8-once : (u : List ℕ) (a b : ℕ) → a ∷ [] ≡ check_of eight u → b ∷ [] ≡ check_of eight u → a ≡ b
check8-once u a b p q = head-eq_of_cons-eq (p ∙ sym q)

module _ (κ : Kind) (u : List ℕ) where
  pub check-length : length (check_of κ u) ≡ κ.octets
  unfolding check_of
  check-length = octets_of-length κ.octets _

  pub check_octets : (i : ℕ) → get_or (check_of κ u) i 0 < 256
  unfolding check_of
  check_octets i = octets_of-lt κ.octets _ i

  module _ (l : ℕ) (r z : List ℕ) (n : l ≡ κ.octets) (e : r ≡ check_of κ u ++ z) where
    pub check-part : take l r ≡ check_of κ u
    check-part = ap (take l) e ∙ take_at (check_of κ u) z l (check-length ∙ sym n)

    pub check-fits : l ≤ length r
    check-fits = rw e (omega (arith, length-append (check_of κ u) z, check-length))

  pub sealed-front : (d : List ℕ) → length u ≤ length d
      → written (written d 0 u) (length u) (check_of κ (take (length u) (written d 0 u))) ≡ written d 0 (u ++ check_of κ u)
  sealed-front d h =
      ap (λ (x : List ℕ). written (written d 0 u) (length u) (check_of κ x)) (written_front d u h) ∙ written_next d u (check_of κ u) h

  pub agrees_own : agrees κ (u ++ check_of κ u) ≡ true
  unfolding agrees
  agrees_own =
      let n : length (u ++ check_of κ u) - κ.octets ≡ length u = omega (arith, length-append u (check_of κ u), check-length) in
      rw (n, take_at u (check_of κ u) (length u) refl, drop_at u (check_of κ u) (length u) refl) (same_self (check_of κ u))

pub agrees-none : (κ : Kind) (u : List ℕ) → κ.octets ≡ 0 → agrees κ u ≡ true
unfolding octets_of check_of agrees
agrees-none κ u z = rw (z, sub-zero, drop-length)

pub agrees_compared : (κ : Kind) (u r z : List ℕ) (l : ℕ) → l ≡ κ.octets → r ≡ check_of κ (take (length u - l) u) ++ z
    → same (take (length u - (length u - l)) (drop (length u - l) u)) (take l r) ≡ agrees κ u
unfolding agrees
agrees_compared κ u r z l n e =
    ap₂ same (take_all (length u - (length u - l)) (drop (length u - l) u) (omega (arith, length-drop (length u - l) u))) (check-part κ _ l r z n e)
    ∙ ap (λ (m : ℕ). same (drop (length u - m) u) (check_of κ (take (length u - m) u))) n
