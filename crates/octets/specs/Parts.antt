-- A part of a list in which others have theirs.
--
--   apart             two places that differ: one comes first
--   drop-take         what is behind n elements of a part is a part
--   part-next         .. of the same end
--   part_elsewhere    what is written elsewhere leaves a part as it was
--   part_grown        what is written behind a part joins it
--
-- Assumes nothing.
use Rattle.std.specs.Prelude.{◌≡◌, ◌≢◌, ◌⊎◌, List, [], ◌∷◌, ◌++◌, ℕ, zero, suc, ◌+◌, ◌-◌, ◌≤◌, ◌<◌, length, get_or, take, drop}
use Rattle.std.proofs.Common.{sym, ap, ap₂, ◌∙◌, inl, inr, ⊎_elim, zero-add, suc-add, arith, length-take, length-drop, take-add, drop-drop, ext_get_or, get_or-take, get_or-drop}
use Rattle.std.proofs.Math.Decide.{dec_lt}
use Rattle.std.proofs.Math.Seq.{take-nil}
use Rattle.octets.specs.Written.{written, written-length, written_part, written_outside}

pub apart : (p q : ℕ) → q ≢ p → (q < p) ⊎ (p < q)
apart p q f = by (dec_lt q p)
  where
    by : Dec (q < p) → (q < p) ⊎ (p < q)
    by (yes l) = inl l
    by (no l) = inr (omega arith)

pub drop-take : (n m : ℕ) (l : List ℕ) → drop n (take (n + m) l) ≡ take m (drop n l)
drop-take zero m l = rw (zero-add m)
drop-take (suc n) m [] = rw (suc-add n m) (sym (take-nil m))
drop-take (suc n) m (x ∷ l) = rw (suc-add n m) (drop-take n m l)

pub part-next : (n k a : ℕ) (l : List ℕ) → n ≤ k → take (k - n) (drop (a + n) l) ≡ drop n (take k (drop a l))
part-next n k a l h =
    let e : k ≡ n + (k - n) = omega arith in
    ap (take (k - n)) (sym (drop-drop n a l)) ∙ sym (drop-take n (k - n) (drop a l)) ∙ ap (λ (j : ℕ). drop n (take j (drop a l))) (sym e)

module _ (d : List ℕ) (at : ℕ) (s : List ℕ) (fits : at + length s ≤ length d) where
  pub part_elsewhere : (k b : ℕ) → (b + k ≤ at) ⊎ (at + length s ≤ b) → take k (drop b (written d at s)) ≡ take k (drop b d)
  part_elsewhere k b apart =
      ext_get_or 0 (take k (drop b (written d at s))) (take k (drop b d))
      (length-take k (drop b (written d at s))
      ∙ rw (length-drop b (written d at s), written-length d at s fits, ← (length-drop b d)) (sym (length-take k (drop b d)))) each
    where
      off : (i : ℕ) → i < k → (b + i < at) ⊎ (at + length s ≤ b + i)
      off i h = ⊎_elim {C = (b + i < at) ⊎ (at + length s ≤ b + i)} (λ l. inl (omega arith)) (λ l. inr (omega arith)) apart

      each : (i : ℕ) → i < length (take k (drop b (written d at s))) → get_or (take k (drop b (written d at s))) i 0 ≡ get_or (take k (drop b d)) i 0
      each i h =
          let below : i < k = omega (arith, length-take k (drop b (written d at s))) in
          get_or-take k (drop b (written d at s)) i 0 below ∙ get_or-drop b (written d at s) i 0
          ∙ written_outside d at s fits (b + i) 0 (off i below) ∙ sym (get_or-drop b d i 0) ∙ sym (get_or-take k (drop b d) i 0 below)

pub part_grown : (h : List ℕ) (b k : ℕ) (x : List ℕ) → b + k + length x ≤ length h
    → take (k + length x) (drop b (written h (b + k) x)) ≡ take k (drop b h) ++ x
part_grown h b k x fits =
    take-add k (length x) (drop b (written h (b + k) x))
    ∙ ap₂ (λ (u v : List ℕ). u ++ v) (part_elsewhere h (b + k) x fits k b (inl (omega arith)))
    (ap (take (length x)) (drop-drop k b (written h (b + k) x)) ∙ written_part h (b + k) x fits)
