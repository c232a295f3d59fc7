-- The two polynomials of which the roots are α^15r, and the columns' values at all of these.
--
--   residue-roots, other-roots      the r of which α^15r is a root of the one polynomial, and of the other
--   is_small, are_small, roots_small  all the numbers of a list are below a bound; below 34, as the code asks of roots
--   Gained w c roots m v u          u has what v has of the columns of w, and their values at those of the c roots that are up to m
--   residues_gained, others_gained, last_gained
--                                   .. by a list of roots that is filled in
--   others-past                     .. or by none, where no root is up to m
--   values_are, few_values_are      all the values are filled in
--
-- That these are roots is worked out for each. Assumes nothing.
use mathlib.Core.Path.{◌≡◌, refl, sym, ap, ap₂, ◌∙◌}
use mathlib.Core.Bool.{Bool}
use mathlib.Core.List.{List, [], ◌∷◌, ◌++◌}
use Prim.Native.Nat.{ℕ, zero, suc, ◌+◌, ◌-◌, ◌*◌, ◌%◌, ◌≤◌, ◌<◌}
use native.Mathlib.Omega.{arith}
use native.Mathlib.Decide.{dec_lt}
use lib.Bits.{bit_xor}
use lib.Dec.{T, eqb, eqb→eq, ltb, ltb→lt, lit<}
use lib.ListN.{length, get_or, get_or-append}
use lib.Seq.{get_or-append-add}
use Rattle.octets.specs.Every.{every, every_at}
use Rattle.algebra.specs.Power.{pow}
use Rattle.algebra.specs.Value.{ev, terms}
use Rattle.algebra.proofs.Laws.{ev_local, terms-zero, terms-suc, pow-pow}
use Rattle.field.specs.Octet as Octet
use Rattle.field.specs.Octet.Laws.{power_zero, power-suc, sum_xor}
use Rattle.field.proofs.Laws.{power_wrap}
use Rattle.field.specs.Octet.Table.{worked, worked-is}
use Rattle.codeword.specs.Element.{elements, element, α}
use Rattle.codeword.specs.Element.Laws.{element-sum, element-zero}
use Rattle.codeword.proofs.Element.Laws.{element-power}
use Rattle.codeword.specs.Rows.{spaced, column, RowsAre, residues, others, Folding, Folded, Worth, Known, Filling, Repeated, ColumnsAre}
use Rattle.codeword.proofs.Columns.{spaced-at}
use Rattle.codeword.proofs.Filling.{repeated-stays, repeated-filled}

infixl 60 ◌⊕◌
open elements use {Carrier as F, add as ◌⊕◌}

abbrev pub residue-roots : List ℕ
residue-roots = 1 ∷ 2 ∷ 4 ∷ 8 ∷ 9 ∷ 13 ∷ 15 ∷ 16 ∷ []

abbrev pub other-roots : List ℕ
other-roots = 3 ∷ 5 ∷ 6 ∷ 7 ∷ 10 ∷ 11 ∷ 12 ∷ 14 ∷ []

unfoldable pub is_small : List ℕ → ℕ → ℕ → Bool
is_small l n j = ltb (get_or l j 0) n

unfoldable pub are_small : List ℕ → ℕ → Bool
are_small l n = every (is_small l n) (length l)

small_at : (l : List ℕ) (n : ℕ) → T (are_small l n) → (j : ℕ) → j < length l → get_or l j 0 < n
unfolding are_small is_small
small_at l n h j k = ltb→lt _ _ (every_at (is_small l n) (length l) h j k)

pub roots_small : (l : List ℕ) → T (are_small l 34) → (j : ℕ) → j < length l → get_or l j 0 < 34
roots_small l = small_at l 34

is_large : List ℕ → ℕ → ℕ → Bool
is_large l n j = ltb n (get_or l j 0)

other-roots_large : (j : ℕ) → j < 8 → 2 < get_or other-roots j 0
unfolding is_large
other-roots_large j l = ltb→lt _ _ (every_at (is_large other-roots 2) 8 tt j l)

-- ---- powers that can be computed

unfoldable powered : ℕ → ℕ
powered zero = 1
powered (suc k) = worked Octet.α (powered k)

powered-is : (k : ℕ) → powered k ≡ Octet.power Octet.α k
unfolding powered
powered-is zero = sym (power_zero Octet.α)
powered-is (suc k) = worked-is Octet.α _ ∙ ap (Octet.product Octet.α) (powered-is k) ∙ sym (power-suc Octet.α k)

-- α^15r to the t
term : ℕ → ℕ → ℕ
term r t = powered (15 * r * t % Octet.order)

term_is : (r t : ℕ) → element (term r t) ≡ pow elements (pow elements α (15 * r)) t
unfolding term
term_is r t =
    ap element (powered-is (15 * r * t % Octet.order) ∙ power_wrap (15 * r * t)) ∙ element-power (15 * r * t) ∙ sym (pow-pow elements α (15 * r) t)

summed : List ℕ → ℕ → ℕ → ℕ
summed t r zero = 0
summed t r (suc n) = bit_xor (summed t r n) (term r (get_or t n 0))

summed-is : (t : List ℕ) (r n : ℕ) → element (summed t r n) ≡ terms elements n (λ j. get_or t j 0) (pow elements α (15 * r))
unfolding summed
summed-is t r zero = element-zero ∙ sym (terms-zero elements _ _)
summed-is t r (suc n) =
    ap element (sym (sum_xor (summed t r n) (term r (get_or t n 0)))) ∙ element-sum _ _
    ∙ ap₂ (λ (x y : F). x ⊕ y) (summed-is t r n) (term_is r (get_or t n 0)) ∙ sym (terms-suc elements n _ _)

is_root : List ℕ → ℕ → Bool
is_root t r = eqb (term r 8) (summed t r (length t))

root_folding : (t : List ℕ) (r : ℕ) → T (is_root t r) → Folding t (pow elements α (15 * r))
unfolding is_root
root_folding t r h = sym (term_is r 8) ∙ ap element (eqb→eq _ _ h) ∙ summed-is t r (length t)

are_roots : List ℕ → List ℕ → Bool
are_roots t roots = every (λ j. is_root t (get_or roots j 0)) (length roots)

roots_folding : (t roots : List ℕ) → T (are_roots t roots) → (j : ℕ) → j < length roots → Folding t (pow elements α (15 * get_or roots j 0))
unfolding are_roots
roots_folding t roots h j l = root_folding t (get_or roots j 0) (every_at (λ j. is_root t (get_or roots j 0)) (length roots) h j l)

residues-fold : T (are_roots residues residue-roots)
unfolding are_roots is_root summed term powered worked
residues-fold = tt

others-fold : T (are_roots others other-roots)
unfolding are_roots is_root summed term powered worked
others-fold = tt

-- ---- the columns' values

module _ {w rows : List ℕ} (are : RowsAre w rows) where
  rows-worth : (p : ℕ) (y : F) → p < 15 → ev elements 17 (spaced rows 16 p) y ≡ ev elements 17 (column w (14 - p)) y
  rows-worth p y l = ev_local elements 17 _ _ y (λ d m. spaced-at rows 16 p d (16 * d + p) refl ∙ are.used d p m l)

  unfolded-worth : (r : ℕ) → Worth w 17 r rows
  unfolded-worth r = record { worth = λ p l. rows-worth p _ l }

  folded-worth : {t f : List ℕ} (r : ℕ) → Folded 8 t rows f → Folding t (pow elements α (15 * r)) → Worth w 8 r f
  folded-worth r h root = record { worth = λ p l. h.worth p _ (omega arith) root ∙ rows-worth p _ l }

-- ---- what is filled in of a word's columns, by one list of roots after another

pub record Gained (w : List ℕ) (c : ℕ) (roots : ℕ → ℕ) (m : ℕ) (v u : List ℕ) : Type 0 where
  pub stays : (r : ℕ) → r < 48 → Known w r v → Known w r u
  pub filled : (j : ℕ) → j < c → roots j ≤ m → Known w (roots j) u

gained_filling : {n c m : ℕ} {w f v u : List ℕ} {roots : ℕ → ℕ} → ((j : ℕ) → j < c → Worth w n (roots j) f) → Filling n f c roots m v u
    → Gained w c roots m v u
gained_filling {w = w} W h = record { stays = h.stays w W; filled = h.filled w W }

gained-past : {c m : ℕ} {w v : List ℕ} {roots : ℕ → ℕ} → ((j : ℕ) → j < c → m < roots j) → Gained w c roots m v v
gained-past past = record { stays = λ r l k. k; filled = λ j l e. absurd (omega (arith, past j l)) }

module _ {m : ℕ} {w rows v u : List ℕ} (are : RowsAre w rows) where
  pub residues_gained : {f : List ℕ} → Folded 8 residues rows f → Filling 8 f 8 (λ j. get_or residue-roots j 0) m v u
      → Gained w 8 (λ j. get_or residue-roots j 0) m v u
  residues_gained h = gained_filling (λ j l. folded-worth are _ h (roots_folding residues residue-roots residues-fold j l))

  pub others_gained : {f : List ℕ} → Folded 8 others rows f → Filling 8 f 8 (λ j. get_or other-roots j 0) m v u → Gained w 8 (λ j. get_or other-roots j 0) m v u
  others_gained h = gained_filling (λ j l. folded-worth are _ h (roots_folding others other-roots others-fold j l))

  pub last_gained : Filling 17 rows 1 (λ j. get_or (17 ∷ []) j 0) m v u → Gained w 1 (λ j. get_or (17 ∷ []) j 0) m v u
  last_gained = gained_filling (λ j l. unfolded-worth are _)

pub others-past : {m : ℕ} {w v : List ℕ} → m ≤ 2 → Gained w 8 (λ j. get_or other-roots j 0) m v v
others-past h = gained-past (λ j l. omega (arith, other-roots_large j l))

last-past : {m : ℕ} {w v : List ℕ} → m ≤ 16 → Gained w 1 (λ j. get_or (17 ∷ []) j 0) m v v
last-past {m} h = gained-past past
  where
    past : (j : ℕ) → j < 1 → m < get_or (17 ∷ []) j 0
    past zero l = omega arith
    past (suc j) l = absurd (omega arith)

-- the roots in the order in which they are filled in, and where each stands in it
order-filled : List ℕ
order-filled = residue-roots ++ (other-roots ++ 17 ∷ [])

places-filled : List ℕ
places-filled = 0 ∷ 0 ∷ 1 ∷ 8 ∷ 2 ∷ 9 ∷ 10 ∷ 11 ∷ 3 ∷ 4 ∷ 12 ∷ 13 ∷ 14 ∷ 5 ∷ 15 ∷ 6 ∷ 7 ∷ 16 ∷ []

place : ℕ → ℕ
place r = get_or places-filled r 0

place_small : (r : ℕ) → r < 18 → place r < 17
unfolding place places-filled are_small is_small
place_small r l = small_at places-filled 17 tt r l

is_placed : ℕ → Bool
is_placed r = eqb (get_or order-filled (place (suc r)) 0) (suc r)

all_placed : T (every is_placed 17)
unfolding is_placed order-filled places-filled place
all_placed = tt

placed : (r : ℕ) → r < 17 → get_or order-filled (place (suc r)) 0 ≡ suc r
unfolding is_placed
placed r l = eqb→eq _ _ (every_at is_placed 17 all_placed r l)

module _ {m : ℕ} {w v₀ v₁ v₂ v₃ : List ℕ} (one : Gained w 8 (λ j. get_or residue-roots j 0) m v₀ v₁)
    (two : Gained w 8 (λ j. get_or other-roots j 0) m v₁ v₂) (three : Gained w 1 (λ j. get_or (17 ∷ []) j 0) m v₂ v₃) where
  -- by the place of r in the order
  by_place : (r j : ℕ) → get_or order-filled j 0 ≡ r → j < 17 → r < 48 → r ≤ m → Known w r v₃
  unfolding order-filled
  by_place r j e l s h = go (dec_lt j 8) (dec_lt j 16)
    where
      rest : List ℕ
      rest = other-roots ++ 17 ∷ []

      later : (i : ℕ) → j ≡ 8 + i → get_or rest i 0 ≡ r
      later i a = sym (ap (λ (n : ℕ). get_or (residue-roots ++ rest) n 0) a ∙ get_or-append-add residue-roots rest i 0) ∙ e

      go : Dec (j < 8) → Dec (j < 16) → Known w r v₃
      go (yes a) d =
          let q : get_or residue-roots j 0 ≡ r = sym (get_or-append residue-roots rest 0 j a) ∙ e in
          three.stays r s (two.stays r s (rw q at (one.filled j a (rw q h))))
      go (no a) (yes b) =
          let q : get_or other-roots (j - 8) 0 ≡ r = sym (get_or-append other-roots (17 ∷ []) 0 (j - 8) (omega arith)) ∙ later (j - 8) (omega arith) in
          three.stays r s (rw q at (two.filled (j - 8) (omega arith) (rw q h)))
      go (no a) (no b) =
          let z : j - 8 ≡ 8 = omega arith in
          let q : 17 ≡ r = rw z at (later (j - 8) (omega arith)) in
          rw q at (three.filled 0 (lit< tt) (rw q h))

  all_known : (r : ℕ) → 0 < r → r < 18 → r ≤ m → Known w r v₃
  all_known r a b e =
      let s : suc (r - 1) ≡ r = omega arith in
      by_place r (place r) (rw s at (placed (r - 1) (omega arith))) (place_small r b) (omega arith) e

  pub values_are : {u : List ℕ} → Repeated 15 v₃ u → ColumnsAre m w u
  values_are {u} h r a b e = go (dec_lt r 18)
    where
      go : Dec (r < 18) → Known w r u
      go (yes l) = repeated-stays h l (all_known r a l e)
      go (no l) =
          let s : 18 + (r - 18) ≡ r = omega arith in
          rw s at (repeated-filled (r - 18) h (omega arith) (all_known (1 + (r - 18)) (omega arith) (omega arith) (omega arith)))

-- up to 16 values none is wanted twice, nor the one at 1
pub few_values_are : {m : ℕ} {w v₀ v₁ v₂ : List ℕ} → m ≤ 16 → Gained w 8 (λ j. get_or residue-roots j 0) m v₀ v₁
    → Gained w 8 (λ j. get_or other-roots j 0) m v₁ v₂ → ColumnsAre m w v₂
few_values_are l one two r a b e = all_known one two (last-past l) r a (omega arith) e
