-- Numbers in a row, and rows of fourteen octets: each stands at the offset that the ones before it make, since their widths are known.
--
--   field-stands    a number of a row stands at the sum of the widths before it
--   row-behind      what stands behind the first rows
--   row_at          .. begins with the next
--   row-end         .. and behind all of them stands the rest
--
-- Assumes nothing.
use mathlib.Core.Path.{◌≡◌, refl, sym, ap, ◌∙◌}
use mathlib.Core.List.{List, [], ◌∷◌, ◌++◌, append_assoc}
use Prim.Native.Nat.{ℕ, zero, suc, ◌+◌, ◌*◌, ◌≤◌, ◌<◌}
use native.Mathlib.Omega.{arith}
use lib.ListN.{length, get_or, take, drop}
use lib.Seq.{drop-cons, drop-length, drop-drop, take_at, drop_at}
use Rattle.octets.specs.High.{high, worth, high-length, worth-high, fields, Fit, widths}
use Rattle.record.specs.Recorded.{flat}
use Rattle.record.specs.Form.{number_at}

pub field-stands : (ws ns : List ℕ) (i : ℕ) (s : List ℕ) (at k : ℕ) (q : List ℕ) → Fit ws ns → i < length ws → drop at s ≡ fields ws ns ++ q
    → k ≡ at + widths (take i ws) → number_at (get_or ws i 0) s k ≡ get_or ns i 0
field-stands [] ns i s at k q f h e o = absurd (omega arith)
field-stands (w ∷ ws) [] i s at k q f h e o = absurd f
field-stands (w ∷ ws) (n ∷ ns) zero s at k q f h e o =
    let here : k ≡ at = omega arith in
    ap (number_at w s) here
    ∙ ap (λ (l : List ℕ). worth (take w l)) (e ∙ append_assoc (high w n) (fields ws ns) q)
    ∙ ap worth (take_at (high w n) (fields ws ns ++ q) w (high-length w n)) ∙ worth-high w n f.0
field-stands (w ∷ ws) (n ∷ ns) (suc i) s at k q f h e o =
    field-stands ws ns i s (at + w) k q f.1 (omega arith)
    (sym (drop-drop w at s) ∙ ap (drop w) (e ∙ append_assoc (high w n) (fields ws ns) q)
    ∙ drop_at (high w n) (fields ws ns ++ q) w (high-length w n))
    (omega arith)

module _ {A : Type 0} (f : A → List ℕ) (d : A) where
  row-behind : (l : List A) (q : List ℕ) (j : ℕ) → ((i : ℕ) → i < length l → length (f (get_or l i d)) ≡ 14) → j ≤ length l
      → drop (14 * j) (flat f l ++ q) ≡ flat f (drop j l) ++ q
  unfolding flat
  row-behind l q zero w h = refl
  row-behind [] q (suc j) w h = absurd (omega arith)
  row-behind (x ∷ l) q (suc j) w h =
      let next : 14 * suc j ≡ 14 + 14 * j = omega arith in
      ap (λ (k : ℕ). drop k (f x ++ flat f l ++ q)) next ∙ sym (drop-drop (14 * j) 14 (f x ++ flat f l ++ q))
      ∙ ap (drop (14 * j)) (ap (drop 14) (append_assoc (f x) (flat f l) q) ∙ drop_at (f x) (flat f l ++ q) 14 (w 0 (omega arith)))
      ∙ row-behind l q j (λ i g. w (suc i) (omega arith)) (omega arith)

  module _ (l : List A) (q : List ℕ) (w : (i : ℕ) → i < length l → length (f (get_or l i d)) ≡ 14) where
    pub row_at : (j : ℕ) → j < length l → drop (14 * j) (flat f l ++ q) ≡ f (get_or l j d) ++ (flat f (drop (suc j) l) ++ q)
    unfolding flat
    row_at j h =
        row-behind l q j w (omega arith) ∙ ap (λ (r : List A). flat f r ++ q) (drop-cons l j d h)
        ∙ append_assoc (f (get_or l j d)) (flat f (drop (suc j) l)) q

    pub row-end : drop (14 * length l) (flat f l ++ q) ≡ q
    unfolding flat
    row-end = row-behind l q (length l) w (omega arith) ∙ ap (λ (r : List A). flat f r ++ q) (drop-length l)
