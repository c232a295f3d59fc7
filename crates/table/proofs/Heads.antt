-- An element's own numbers, as the code reads them.
--
--   GoodNumbers        what holds of them where they are good
--   HeadIs             what they say: nothing good, a channel, or the start of an inner list of at least two
--   head_is            .. which is what the code reads
--   head-channel, head_inner   where they are good, by their second number
--   repeat_at, count_at   the first two, in what is left of the numbers from there on
--
-- Assumes nothing.
use mathlib.Core.Path.{◌≡◌, refl, ap, ◌∙◌}
use mathlib.Core.Bool.{Bool, true, false, cond}
use mathlib.Core.List.{List}
use Prim.Native.Nat.{ℕ, ◌+◌, ◌-◌, ◌≤◌, ◌<◌}
use native.Mathlib.Nat.{add-zero}
use native.Mathlib.Omega.{arith}
use borrow.Author.Tests.{le-ltb, eq-eqb, ne_eqb, ltb-false, eqb-true, eqb-false}
use lib.Dec.{eqb, ltb}
use lib.ListN.{length, get_or, drop, length-take}
use lib.Seq.{get_or-drop, get_or-take}
use Rattle.table.specs.declared.form.Head.{Head}
use Rattle.table.specs.declared.form.Head.TheVariants.{Channel, Inner}
use Rattle.std.specs.Prelude.{Option, Some, None, slice_range}
use Rattle.table.specs.Cursor.{cursor, head_at}

pub record GoodNumbers (s : List ℕ) (at left least : ℕ) : Type 0 where
  pub inside : at + 3 ≤ length s
  pub budget : 1 ≤ left
  pub often : least ≤ get_or s at 0

pub data HeadIs (s : List ℕ) (at left least : ℕ) : Option Head → Type 0 where
  is_malformed : HeadIs s at left least None
  is-channel : GoodNumbers s at left least → get_or s (at + 1) 0 ≡ 0 → HeadIs s at left least (Some (Channel (cursor (at + 3) (left - 1))))
  is_inner : GoodNumbers s at left least → 2 ≤ get_or s (at + 1) 0 → HeadIs s at left least (Some (Inner (get_or s (at + 1) 0) (cursor (at + 2) (left - 1))))

by_test : {A : Type 0} (P : A → Type 0) (b : Bool) (x y : A) → (b ≡ true → P x) → (b ≡ false → P y) → P (cond b x y)
by_test P true x y p q = p refl
by_test P false x y p q = q refl

pub head_is : (s : List ℕ) (at left least : ℕ) → HeadIs s at left least (head_at s at left least)
unfolding head_at
head_is s at left least =
    let P = HeadIs s at left least in
    let k = get_or s (at + 1) 0 in
    by_test P (ltb (length s) 3) _ _ (λ e. is_malformed) (λ a.
    by_test P (ltb (length s - 3) at) _ _ (λ e. is_malformed) (λ b.
    by_test P (eqb left 0) _ _ (λ e. is_malformed) (λ c.
    by_test P (ltb (get_or s at 0) least) _ _ (λ e. is_malformed) (λ d.
    let sound : GoodNumbers s at left least =
    record {
      inside = omega (arith, ltb-false (length s) 3 a, ltb-false (length s - 3) at b);
      budget = omega (arith, eqb-false left 0 c);
      often = ltb-false
          (get_or s at 0) least d;
    } in
    by_test P (eqb k 0) _ _ (λ e. is-channel sound (eqb-true _ _ e)) (λ e.
    by_test P (eqb k 1) _ _ (λ e. is_malformed) (λ f.
    is_inner sound (omega (arith, eqb-false k 0 e, eqb-false k 1 f))))))))

pub head-channel : (s : List ℕ) (at left least : ℕ) → GoodNumbers s at left least → get_or s (at + 1) 0 ≡ 0 → head_at s at left least
    ≡ Some (Channel (cursor (at + 3) (left - 1)))
unfolding head_at
head-channel s at left least p e =
    let short : 3 ≤ length s = omega (arith, p.inside) in
    let in₀ : at ≤ length s - 3 = omega (arith, p.inside) in
    let some : left ≡ 0 → ⊥ = λ z. omega (arith, p.budget) in
    rw (le-ltb _ _ short, le-ltb _ _ in₀, ne_eqb _ _ some, le-ltb _ _ p.often, eq-eqb _ _ e)

pub head_inner : (s : List ℕ) (at left least : ℕ) → GoodNumbers s at left least → 2 ≤ get_or s (at + 1) 0 → head_at s at left least
    ≡ Some (Inner (get_or s (at + 1) 0) (cursor (at + 2) (left - 1)))
unfolding head_at
head_inner s at left least p h =
    let short : 3 ≤ length s = omega (arith, p.inside) in
    let in₀ : at ≤ length s - 3 = omega (arith, p.inside) in
    let some : left ≡ 0 → ⊥ = λ z. omega (arith, p.budget) in
    let more : get_or s (at + 1) 0 ≡ 0 → ⊥ = λ z. omega arith in
    let two : get_or s (at + 1) 0 ≡ 1 → ⊥ = λ z. omega arith in
    rw (le-ltb _ _ short, le-ltb _ _ in₀, ne_eqb _ _ some, le-ltb _ _ p.often, ne_eqb _ _ more, ne_eqb _ _ two)

-- ---- where they stand

module _ (s t : List ℕ) (at : ℕ) (e : t ≡ slice_range s at (length s)) (l : 3 ≤ length t) where
  number_at : (i : ℕ) → i < 3 → get_or t i 0 ≡ get_or s (at + i) 0
  number_at i h = ap (λ (u : List ℕ). get_or u i 0) e ∙ get_or-take (length s - at) (drop at s) i 0 (omega (arith, length-take (length s - at) (drop at s), ap length e)) ∙ get_or-drop at s i 0

  pub repeat_at : get_or t 0 0 ≡ get_or s at 0
  repeat_at = number_at 0 (omega arith) ∙ ap (λ (n : ℕ). get_or s n 0) (add-zero at)

  pub count_at : get_or t 1 0 ≡ get_or s (at + 1) 0
  count_at = number_at 1 (omega arith)
