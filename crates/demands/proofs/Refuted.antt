-- The wrong receivers do not keep AL1M's promise: each fails at a vector of the small set, or at demand 3.
--
--   wrong     none of them does
--
-- Assumes nothing.
use Rattle.std.specs.Prelude.{Ok}
use mathlib.Core.Path.{◌≡◌, sym, ap, subst, ◌∙◌}
use mathlib.Core.List.{List, [], ◌∷◌}
use Prim.Native.Nat.{ℕ, ◌≤◌}
use native.Mathlib.Nat.{le_refl}
use native.Mathlib.Omega.{arith}
use lib.ListN.{length, take}
use Rattle.octets.specs.Tests.{never}
use Rattle.codeword.specs.Claims.{RepairShows}
use Rattle.codeword.specs.CodeWord.{Octets}
use Rattle.adaptation.specs.Receiving.{RepairLent, lending, Receives, handed_unit}
use Rattle.adaptation.specs.declared.Badge.{Badge}
use Rattle.adaptation.specs.declared.Badge.TheVariants.{Clean, Corrected}
use Rattle.adaptation.specs.declared.al1m.Judgement.{Judgement}
use Rattle.demands.specs.Small.{ReceivedAs}
use Rattle.demands.specs.Wrong.{Receiver, Keeps, RefusesAll, FindsNothing, SameUnit, SaysClean, Somewhere, Miscounts, Misplaces, Wrong}
use Rattle.demands.proofs.Vectors.{octets-by, c5, w4, w6, small}
use Rattle.demands.proofs.Reached.{demand3}

-- what R answers at a vector, where it is lent the word's own octets, for the list too
abbrev own : List ℕ → RepairLent
own w = lending w w

module _ (R : Receiver) (keeps : Keeps R) (n e : ℕ) (w : List ℕ) (o : Octets w) (b : Badge) (k : ℕ) (u l : List ℕ) (row : ReceivedAs n e w b k u l)
    (list : e ≤ length w) where
  answers : R.answer n e w (own w) ≡ Ok (record { badge = b; changed = k; length = length u })
  answers = (row (own w) (R.leaves n e w (own w)) (R.answer n e w (own w)) (le_refl (length w)) list (keeps n e w (own w) o o o)).0

  hands : handed_unit b w (R.leaves n e w (own w)).repair (length u) ≡ u
  hands = (row (own w) (R.leaves n e w (own w)) (R.answer n e w (own w)) (le_refl (length w)) list (keeps n e w (own w) o o o)).1

-- their words
o4 : Octets w4
o4 = octets-by w4 tt

o5 : Octets c5
o5 = octets-by c5 tt

o6 : Octets w6
o6 = octets-by w6 tt

module _ (R : Receiver) (keeps : Keeps R) where
  -- A4, A5 and A6
  fourth : R.answer 8 2 w4 (own w4) ≡ Ok (record { badge = Corrected; changed = 2; length = 2 })
  fourth = answers R keeps 8 2 w4 o4 Corrected 2 (0x10 ∷ 0x80 ∷ []) (0 ∷ 1 ∷ []) small.3 (omega arith)

  fifth : R.answer 0 1 c5 (own c5) ≡ Ok (record { badge = Clean; changed = 0; length = 1 })
  fifth = answers R keeps 0 1 c5 o5 Clean 0 (0x01 ∷ []) [] small.4 (omega arith)

  sixth : R.answer 0 1 w6 (own w6) ≡ Ok (record { badge = Corrected; changed = 1; length = 1 })
  sixth = answers R keeps 0 1 w6 o6 Corrected 1 (0x01 ∷ []) (2 ∷ []) small.5 (omega arith)

  refuses : RefusesAll R → ⊥
  refuses h = let f = fifth in let r = h 0 1 c5 (own c5) o5 o5 o5 in never (cc)

  nothing : FindsNothing R → ⊥
  nothing h = let e = h 0 1 c5 (own c5) o5 o5 o5 _ fifth in never (cc)

  unit : SameUnit R → ⊥
  unit (u, h) =
      let p = sym (h 0 1 c5 (own c5) o5 o5 o5 _ fifth) ∙ hands R keeps 0 1 c5 o5 Clean 0 (0x01 ∷ []) [] small.4 (omega arith) in
      let q = sym (h 8 2 w4 (own w4) o4 o4 o4 _ fourth) ∙ hands R keeps 8 2 w4 o4 Corrected 2 (0x10 ∷ 0x80 ∷ []) (0 ∷ 1 ∷ []) small.3 (omega arith) in
      let z : ◌≡◌ {A = ℕ} 1 2 = ap length (sym p ∙ q) in
      omega arith

  clean : SaysClean R → ⊥
  clean h = let e = (h 0 1 w6 (own w6) o6 o6 o6 _ sixth).0 in never (cc)

  -- what a word that is handed up shows of the code word within reach
  shows : {P : (word found : List ℕ) → (after : RepairLent) → Judgement → Type 0} (m : Somewhere R P)
      → RepairShows m.word m.found m.lent m.told.changed (R.leaves m.width m.e m.word m.lent)
  shows m =
      (demand3.repairs m.width m.e m.word m.lent (R.leaves m.width m.e m.word m.lent) m.told
      (subst (λ r. Receives m.width m.e m.word m.lent r (R.leaves m.width m.e m.word m.lent)) m.answers
      (keeps m.width m.e m.word m.lent m.word_octets m.lent_octets m.list_octets))
      ).repaired m.found m.within

  counts : Miscounts R → ⊥
  counts m = m.differs (shows m).count

  places : Misplaces R → ⊥
  places m =
      m.differs (ap (λ (k : ℕ). take k (R.leaves m.width m.e m.word m.lent).places) (sym (shows m).count) ∙ (shows m).places)

pub wrong : Wrong
wrong = record { refuses_all = refuses; finds_nothing = nothing; same_unit = unit; says_clean = clean; miscounts = counts; misplaces = places }
