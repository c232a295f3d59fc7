-- Runs one behind another.
--
--   run-behind         where the one ends the other begins
--   permitted-behind   .. and what is permitted in each is permitted in both
--   called-behind      .. and what calls add in each they add in both
--
-- Assumes nothing.
use mathlib.Core.Path.{◌≡◌, refl, sym, ap, ◌∙◌}
use mathlib.Core.List.{List, [], ◌∷◌, ◌++◌, append_assoc}
use Prim.Native.Nat.{ℕ}
use Rattle.multiplex.specs.Calls.{Call, Answer, ours}
use Rattle.runs.specs.Runs.{Side, World, Event, Libraries, step, run}
use Rattle.runs.specs.Demand.{PermittedAll}
use Rattle.runs.specs.Carried.{called_at, over_run}

pub run-behind : (L : Libraries) (es fs : List Event) (x : World) → run L x (es ++ fs) ≡ run L (run L x es) fs
unfolding run
run-behind L [] fs x = refl
run-behind L (e ∷ es) fs x = run-behind L es fs (step L x e)

pub permitted-behind : (R : ℕ → ℕ → Type 0) (L : Libraries) (es fs : List Event) (x : World) → PermittedAll R L x es → PermittedAll R L (run L x es) fs
    → PermittedAll R L x (es ++ fs)
unfolding run PermittedAll
permitted-behind R L [] fs x p q = q
permitted-behind R L (e ∷ es) fs x p q = (p.0, permitted-behind R L es fs (step L x e) p.1 q)

pub called-behind : {A : Type 0} (f : Call → Answer → List A) (i : Side) (es fs : List Event) (x : World)
    → over_run f x i (es ++ fs) ≡ over_run f x i es ++ over_run f (run (λ j. ours) x es) i fs
unfolding run over_run
called-behind f i [] fs x = refl
called-behind {A = A} f i (e ∷ es) fs x =
    let y = step (λ j. ours) x e in
    ap (λ (l : List A). called_at f x i e ++ l) (called-behind f i es fs y)
    ∙ sym (append_assoc (called_at f x i e) (over_run f y i es) (over_run f (run (λ j. ours) y es) i fs))
