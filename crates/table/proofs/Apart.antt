-- That slots stay apart: those of elements one behind another, those of each pass of a list, and those of a payload. Worked out on the
-- definitions alone.
--
--   slots-in_turn   the slots of an element before those behind it, and of each pass of a list behind the one before
--   numbers-in_turn the channels of slots, in turn
--   slots-are       a payload's slots are the entry's, cut to its octets
--   passes-are      how often an element is passed
--   cut-none        no octets: no slots
--   cut_more        a cut of one slot and more, for one octet or more
--   cut-front       a payload's slots are the entry's, the last maybe shorter
--
-- Assumes nothing.
use mathlib.Core.Path.{◌≡◌, refl, ◌∙◌}
use mathlib.Core.List.{List, [], ◌∷◌}
use Prim.Native.Nat.{ℕ, ◌-◌, min}
use native.Mathlib.Omega.{arith}
use borrow.Author.Tests.{ne_eqb}
use Rattle.table.specs.Slots.{Slot, copies, slots, cut, payload_slots}
use Rattle.table.specs.Claims.{SlotsInTurn, NumbersInTurn, SlotsAre, PassesAre, CutFront}

pub slots-in_turn : SlotsInTurn
unfolding slots copies
slots-in_turn n k c r i l s = (refl, refl, refl, refl, refl)

pub numbers-in_turn : NumbersInTurn
numbers-in_turn x l = (refl, refl)

pub slots-are : SlotsAre
unfolding payload_slots cut
slots-are l s n = (refl, refl, refl)

pub passes-are : PassesAre
passes-are n k = (refl, refl)

-- ---- cuts

pub cut-none : (l : List Slot) → cut 0 l ≡ []
unfolding cut
cut-none [] = refl
cut-none (x ∷ l) = refl

pub cut_more : (n : ℕ) (x : Slot) (l : List Slot) → (n ≡ 0 → ⊥)
    → cut n (x ∷ l) ≡ record { channel = x.channel; octets = min x.octets n } ∷ cut (n - x.octets) l
unfolding cut
cut_more n x l h = rw (ne_eqb n 0 h)

pub cut-front : (n : ℕ) (x : Slot) (l : List Slot) → CutFront n x l
cut-front n x l = record {
  whole = λ some fits. let e : min x.octets n ≡ x.octets = omega arith in cut_more n x l (λ z. omega arith) ∙ (rw e);
  short = λ some h.
      let e : min x.octets n ≡ n = omega arith in
      let z : n - x.octets ≡ 0 = omega arith in
      cut_more n x l (λ q. omega arith) ∙ (rw (e, z, cut-none l));
  none = cut-none (x ∷ l);
}
