-- What AL2 tells as missing is what was lost: the claim of specs/AL2Missing.antt. Since the last unit that was accepted, g units were lost or damaged, k of them
-- lost: so the next number is g past the one expected, and g - k units failed.
--
--   missing_is_lost
--
-- Assumes nothing.
use mathlib.Core.Path.{◌≡◌, refl, ap}
use mathlib.Core.Logic.{inl, inr}
use mathlib.Core.Bool.{true}
use mathlib.Core.List.{List, [], ◌∷◌}
use Prim.Native.Nat.{ℕ, ◌+◌, ◌%◌, ◌≤◌, ◌<◌}
use native.Mathlib.Decide.{dec_lt}
use native.Mathlib.Omega.{arith}
use Rattle.calls.specs.Refusal.{told}
use Rattle.adaptation.specs.Handed.{Handed}
use Rattle.adaptation.specs.AL2.{handed_up, accepting, received}
use Rattle.adaptation.specs.AL2Claims.{Counted, receipts}
use Rattle.adaptation.specs.AL2Missing.{Passage, intact, damaged, lost, arriving, Shown, shown_of, showing, Passable, MissingIsLost}
use Rattle.adaptation.specs.declared.al2.Due.{Due}
use Rattle.adaptation.proofs.InStep.{sendable, missing_told, failed_counted}

-- a unit that is handed up, and what is shown of those behind it
module _ (w : List ℕ) (l : List (List ℕ)) (e : Due) where
  shown-first : {u : Handed} {k : ℕ} {x : Due} {m : List Shown} → received true w e ≡ told (handed_up u k x) → shown_of (receipts l x) ≡ m
      → shown_of (receipts (w ∷ l) e) ≡ record { handed = u; missing = k } ∷ m
  unfolding receipts
  shown-first {u} {k} q r = rw q (ap (λ (m : List Shown). record { handed = u; missing = k } ∷ m) r)

-- a count is one more, or stays at 127
count_next : (c : ℕ) → Dec (c < 127) → (k : ℕ) × Counted true c k
count_next c (yes h) = (c + 1, inl (h, refl))
count_next c (no h) = (127, inr (omega arith, refl))

one_more : (c j g k : ℕ) → Counted true c j → g + 1 ≤ 127 → g ≡ c + k → g + 1 ≡ j + k
one_more c j g k (inl (l, q)) z e = omega arith
one_more c j g k (inr (l, q)) z e = absurd (omega arith)

-- e is due, the last accepted number was before it, and i is sent next; g units were lost or damaged since then, k of them lost
follow : (l : List Passage) (e : Due) (g k i : ℕ) → e.expected < 256 → i ≡ (e.expected + g) % 256 → (g ≤ 127 → g ≡ e.failed + k) → Passable g l
    → shown_of (receipts (arriving i l) e) ≡ showing k l
unfolding receipts
follow [] e g k i he is inv may = refl
follow (intact u ∷ l) e g k i he is inv (near, fits, may) =
    shown-first _ (arriving ((i + 1) % 256) l) e (missing_told u e g i k (he, omega arith, is) near (inl (inv near)) (sendable i u fits))
    (follow l (accepting i) 0 0 ((i + 1) % 256) (omega arith) (omega arith) (λ z. refl) may)
follow (damaged w ∷ l) e g k i he is inv (whole, fails, may) =
    let c = count_next e.failed (dec_lt e.failed 127) in
    shown-first w (arriving ((i + 1) % 256) l) e (failed_counted true w e c.0 c.1 whole fails)
    (follow l (record { expected = e.expected; failed = c.0 }) (g + 1) k ((i + 1) % 256) he (omega arith)
    (λ z. one_more e.failed c.0 g k c.1 z (inv (omega arith))) may)
follow (lost ∷ l) e g k i he is inv may = follow l e (g + 1) (k + 1) ((i + 1) % 256) he (omega arith) (λ z. omega (arith, inv (omega arith))) may

pub missing_is_lost : MissingIsLost
missing_is_lost i l hi may = follow l (record { expected = i; failed = 0 }) 0 0 i hi (omega arith) (λ z. refl) may
