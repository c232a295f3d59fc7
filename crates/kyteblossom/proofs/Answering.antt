-- The number of an answer, by what the call tells: below 0 exactly on a refusal.
--
--   answered     what is answered is `Answered`, where no refusal has the number 0, which is not below 0
--   not-below    an answer that is not below 0 was given where no test holds
--   told_so      .. and where it says how a call ends, the call was answered
--
-- Assumes nothing.
use mathlib.Core.Path.{◌≡◌, refl, sym, ap, ◌∙◌}
use mathlib.Core.Bool.{false, true≢false}
use mathlib.Core.List.{List}
use Prim.Native.Nat.{ℕ, zero, suc, ◌≤◌}
use native.Mathlib.Omega.{arith}
use lib.IntN.{ℤ, pos, neg_ℤ}
use Rattle.calls.specs.Refusal.{Told, refused, told, Ended, ended, leaving, Test, refusal, Refuses}
use Rattle.calls.proofs.Laws.{told-refused}
use Rattle.kyteblossom.specs.Answer.{answer}
use Rattle.kyteblossom.specs.Header.{is_below, told_refusal}
use Rattle.kyteblossom.specs.Claims.{Answered}

module _ {X : Type 0} (l : List Test) (positive : (k : ℕ) → refusal l ≡ refused k → 1 ≤ k) (before after : X) (r : ℤ) where
  pub answered : (q : Told ℕ) → r ≡ answer q → Refuses (ended q after) l before → Answered r l before after
  answered (told n) e h = record {
    below = (λ b. absurd (true≢false (sym b ∙ ap is_below e)), λ k. told-refused refl ((h.exactly k.0).1 k.1));
    number = λ k f. told-refused refl ((h.exactly k).1 f);
    none = λ f. ap told_refusal e;
    leaves = λ b. absurd (true≢false (sym b ∙ ap is_below e));
  }
  answered (refused zero) e h = absurd (omega (arith, positive 0 ((h.exactly 0).0 refl)))
  answered (refused (suc k)) e h = record {
    below = (λ b. (suc k, (h.exactly (suc k)).0 refl), λ i. ap is_below e);
    number = λ i f.
        let same : suc k ≡ i = cc ((h.exactly (suc k)).0 refl) in
        (e ∙ ap (λ (n : ℕ). neg_ℤ (pos n)) same, ap told_refusal e ∙ same);
    none = λ f. told-refused f ((h.exactly (suc k)).0 refl);
    leaves = λ b. h.leaves (suc k) refl;
  }

pub not-below : {X : Type 0} (l : List Test) (before after : X) (r : ℤ) → Answered r l before after → is_below r ≡ false → refusal l ≡ told tt
not-below l before after r a h = go (refusal l) refl
  where
    go : (t : Told (Unit {0})) → refusal l ≡ t → refusal l ≡ told tt
    go (told u) e = e
    go (refused k) e = absurd (true≢false (sym (a.below.1 (k, e)) ∙ h))

pub told_so : {X : Type 0} (P : Ended ℕ X → Type 0) (after : X) (q : Told ℕ) (r : ℤ) → r ≡ answer q → is_below r ≡ false → P (ended q after)
    → ((k : ℕ) → q ≡ refused k → 1 ≤ k) → (m : ℕ) × (r ≡ pos m) × P (leaving m after)
told_so P after (told m) r e h p positive = (m, e, p)
told_so P after (refused zero) r e h p positive = absurd (omega (arith, positive 0 refl))
told_so P after (refused (suc k)) r e h p positive = absurd (true≢false (sym (ap is_below e) ∙ h))
