-- Two lists whose elements stand in a relation, each to the one at its place.
--
--   Each R xs ys    as many ys as xs, and R holds of the first of each, of the second, ..
--   each-length     as many
--   each_append     one list behind another
--   each_take, each-drop   the fronts, and what is behind them
--   each_at         of the elements at one place
--   each_map        what follows of each element
--   each-any        of lists of one length, where R holds of everything
--   each_same       where R is that they are equal, the lists are
--   each_self       where R holds of everything and itself, of every list and itself
--
-- Assumes nothing.
use Rattle.std.specs.Prelude.{◌≡◌, refl, List, [], ◌∷◌, ◌++◌, ℕ, zero, suc, ◌<◌, length, get_or, take, drop}
use Rattle.std.proofs.Common.{ap, ap₂, not-suc-le-zero, le_of_suc-le-suc, arith}

pub data Each {A : Type 0} (R : A → A → Type 0) : List A → List A → Type 0 where
  each_none : Each R [] []
  each_more : {x y : A} {xs ys : List A} → R x y → Each R xs ys → Each R (x ∷ xs) (y ∷ ys)

module _ {A : Type 0} {R : A → A → Type 0} where
  pub each-length : {xs ys : List A} → Each R xs ys → length xs ≡ length ys
  each-length each_none = refl
  each-length (each_more r e) = ap suc (each-length e)

  pub each_append : {xs ys us vs : List A} → Each R xs ys → Each R us vs → Each R (xs ++ us) (ys ++ vs)
  each_append each_none f = f
  each_append (each_more r e) f = each_more r (each_append e f)

  pub each_take : (n : ℕ) {xs ys : List A} → Each R xs ys → Each R (take n xs) (take n ys)
  each_take zero e = each_none
  each_take (suc n) each_none = each_none
  each_take (suc n) (each_more r e) = each_more r (each_take n e)

  pub each-drop : (n : ℕ) {xs ys : List A} → Each R xs ys → Each R (drop n xs) (drop n ys)
  each-drop zero e = e
  each-drop (suc n) each_none = each_none
  each-drop (suc n) (each_more r e) = each-drop n e

pub each_at : {A : Type 0} {R : A → A → Type 0} (d : A) {xs ys : List A} → Each R xs ys → (j : ℕ) → j < length xs → R (get_or xs j d) (get_or ys j d)
each_at d each_none j h = absurd (not-suc-le-zero h)
each_at d (each_more r e) zero h = r
each_at d (each_more r e) (suc j) h = each_at d e j (le_of_suc-le-suc h)

pub each_map : {A : Type 0} {R S : A → A → Type 0} → ((x y : A) → R x y → S x y) → {xs ys : List A} → Each R xs ys → Each S xs ys
each_map f each_none = each_none
each_map f (each_more r e) = each_more (f _ _ r) (each_map f e)

pub each-any : {A : Type 0} (R : A → A → Type 0) → ((x y : A) → R x y) → (xs ys : List A) → length xs ≡ length ys → Each R xs ys
each-any R f [] [] e = each_none
each-any R f [] (y ∷ ys) e = absurd (omega arith)
each-any R f (x ∷ xs) [] e = absurd (omega arith)
each-any R f (x ∷ xs) (y ∷ ys) e = each_more (f x y) (each-any R f xs ys (omega arith))

pub each_same : {A : Type 0} {xs ys : List A} → Each ◌≡◌ xs ys → xs ≡ ys
each_same each_none = refl
each_same (each_more r e) = ap₂ (λ (a : _) (l : List _). a ∷ l) r (each_same e)

pub each_self : {A : Type 0} (R : A → A → Type 0) → ((a : A) → R a a) → (xs : List A) → Each R xs xs
each_self R h [] = each_none
each_self R h (x ∷ xs) = each_more (h x) (each_self R h xs)
