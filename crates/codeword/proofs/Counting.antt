-- In how many octets two words differ, and in which (specs/Claims.antt), by computing with the definitions.
--
--   distance_is      octet by octet
--   places_counted   as many places as octets in which they differ
--   places_exactly   the places are those at which they differ, ascending
--   changed-none    a word differs from itself at no place
--
-- It takes nothing from the other proofs of this crate: a distance that counts otherwise, or another list of places, is refused here, before a lemma that it
-- breaks besides.
--
-- Assumes nothing.
use mathlib.Core.Path.{◌≡◌, refl, ap, ◌∙◌}
use mathlib.Core.Logic.{◌≢◌}
use mathlib.Core.List.{List, [], ◌∷◌, map}
use Prim.Native.Nat.{ℕ, zero, suc, ◌<◌}
use native.Mathlib.Nat.{zero-add}
use native.Mathlib.Decide.{ℕ_discrete}
use native.Mathlib.Omega.{arith}
use borrow.Author.Tests.{eq-eqb, ne_eqb}
use lib.ListN.{length, get_or, length-map}
use lib.Seq.{ext_get_or}
use Rattle.algebra.specs.Lists.{Lists}
use Rattle.algebra.proofs.Laws.{lists-none, front, lists-skip, lists-take, lists_as, lists-same}
use Rattle.codeword.specs.Changed.{changed_places}
use Rattle.codeword.specs.CodeWord.{distance}
use Rattle.codeword.specs.Claims.{DistanceIs, PlacesExactly, PlacesCounted}

pub distance_is : DistanceIs
unfolding distance
distance_is a b v w = (refl, rw (eq-eqb a a refl) (zero-add (distance v w)), λ n. rw (ne_eqb a b n))

-- ---- how many places

pub places_counted : PlacesCounted
unfolding distance changed_places
places_counted [] [] e = refl
places_counted [] (b ∷ c) e = absurd (omega arith)
places_counted (a ∷ w) [] e = absurd (omega arith)
places_counted (a ∷ w) (b ∷ c) e = go (ℕ_discrete a b) (length-map (changed_places w c) suc ∙ places_counted w c (omega arith))
  where
    go : Dec (a ≡ b) → length (map suc (changed_places w c)) ≡ distance w c → length (changed_places (a ∷ w) (b ∷ c)) ≡ distance (a ∷ w) (b ∷ c)
    go (yes p) h = rw (eq-eqb a b p) (omega (arith, h))
    go (no p) h = rw (ne_eqb a b p) (omega (arith, h))

-- ---- which places

abbrev Differ : List ℕ → List ℕ → ℕ → Type 0
Differ w c p = get_or w p 0 ≢ get_or c p 0

moved_at : (l : List ℕ) (j : ℕ) → j < length l → suc (get_or l j 0) ≡ get_or (map suc l) j 0
moved_at [] j h = absurd (omega arith)
moved_at (a ∷ l) zero h = refl
moved_at (a ∷ l) (suc j) h = moved_at l j (omega arith)

front_at : (l : List ℕ) (j : ℕ) → j < suc (length l) → front (λ i. get_or l i 0) j ≡ get_or (0 ∷ map suc l) j 0
unfolding front
front_at l zero h = refl
front_at l (suc j) h = moved_at l j (omega arith)

changed_lists : (w c : List ℕ) → length c ≡ length w
    → Lists (length w) (length (changed_places w c)) (Differ w c) (λ j. get_or (changed_places w c) j 0)
unfolding changed_places
changed_lists [] [] e = lists-none _ _
changed_lists [] (b ∷ c) e = absurd (omega arith)
changed_lists (a ∷ w) [] e = absurd (omega arith)
changed_lists (a ∷ w) (b ∷ c) e = go (ℕ_discrete a b) (changed_lists w c (omega arith))
  where
    go : Dec (a ≡ b) → Lists (length w) (length (changed_places w c)) (Differ w c) (λ j. get_or (changed_places w c) j 0)
        → Lists (suc (length w)) (length (changed_places (a ∷ w) (b ∷ c))) (Differ (a ∷ w) (b ∷ c)) (λ j. get_or (changed_places (a ∷ w) (b ∷ c)) j 0)
    go (yes p) s = rw (eq-eqb a b p, length-map) (lists_as _ _ _ (Differ (a ∷ w) (b ∷ c)) _ _ (λ q h d. d) (λ q h d. d) (moved_at (changed_places w c))
        (lists-skip (length w) (length (changed_places w c)) (Differ (a ∷ w) (b ∷ c)) (λ j. get_or (changed_places w c) j 0) s (λ d. d p)))
    go (no p) s = rw (ne_eqb a b p, length-map) (lists_as _ _ _ (Differ (a ∷ w) (b ∷ c)) _ _ (λ q h d. d) (λ q h d. d) (front_at (changed_places w c))
        (lists-take (length w) (length (changed_places w c)) (Differ (a ∷ w) (b ∷ c)) (λ j. get_or (changed_places w c) j 0) s p))

pub places_exactly : PlacesExactly
places_exactly w c l e = (
  λ h. rw h (changed_lists w c e),
  λ s. let both = lists-same (length w) (length l) (length (changed_places w c)) (Differ w c) _ _ s (changed_lists w c e) in
      ext_get_or 0 l (changed_places w c) both.0 both.1,
)

pub changed-none : (w : List ℕ) → changed_places w w ≡ []
unfolding changed_places
changed-none [] = refl
changed-none (a ∷ w) = rw (eq-eqb a a refl) (ap (map suc) (changed-none w))
