-- Whether two lists of numbers are the same.
--
--   same u v       the test
--   same_self      a list is the same as itself
--   same-equal     .. and as no other
--   same_at        the test behind place j, by the elements there and the test behind them
--   same_lengths   lists of two lengths are not the same
--
-- Assumes nothing.
use Rattle.std.specs.Prelude.{◌≡◌, refl, Bool, true, false, ◌&&◌, List, [], ◌∷◌, ℕ, suc, ◌<◌, T, eqb, length, get_or, drop}
use Rattle.std.proofs.Common.{ap, ap₂, ◌∙◌, eq-eqb, eqb→eq, drop-cons}
use Rattle.std.proofs.Math.Bool.{and-false}
use Rattle.octets.specs.Every.{both_left, both_right}

abbrev pub same : List ℕ → List ℕ → Bool
same [] [] = true
same [] (b ∷ v) = false
same (a ∷ u) [] = false
same (a ∷ u) (b ∷ v) = eqb a b && same u v

pub same_self : (u : List ℕ) → same u u ≡ true
same_self [] = refl
same_self (a ∷ u) = ap (λ (t : Bool). t && same u u) (eq-eqb a a refl) ∙ same_self u

pub same-equal : (u v : List ℕ) → T (same u v) → u ≡ v
same-equal [] [] t = refl
same-equal [] (b ∷ v) t = absurd t
same-equal (a ∷ u) [] t = absurd t
same-equal (a ∷ u) (b ∷ v) t =
    ap₂ (λ (x : ℕ) (w : List ℕ). x ∷ w) (eqb→eq a b (both_left (eqb a b) (same u v) t)) (same-equal u v (both_right (eqb a b) (same u v) t))

pub same_at : (u v : List ℕ) (j : ℕ) → j < length u → j < length v
    → same (drop j u) (drop j v) ≡ (eqb (get_or u j 0) (get_or v j 0) && same (drop (suc j) u) (drop (suc j) v))
same_at u v j h k = ap₂ same (drop-cons u j 0 h) (drop-cons v j 0 k)

pub same_lengths : (u v : List ℕ) → (length u ≡ length v → ⊥) → same u v ≡ false
same_lengths [] [] h = absurd (h refl)
same_lengths [] (b ∷ v) h = refl
same_lengths (a ∷ u) [] h = refl
same_lengths (a ∷ u) (b ∷ v) h = ap (λ (t : Bool). eqb a b && t) (same_lengths u v (λ e. h (ap suc e))) ∙ and-false (eqb a b)
