-- Forney's values, 16 at a time, and the corrections, one after another.
--
--   value_of-octet                a value is an octet
--   added_start, added_next      one place after another
--   corrected_start, corrected-next    16 places after another
--   corrected_listed              the places at the front of a list
--
-- Assumes nothing.
use mathlib.Core.Path.{◌≡◌, refl, sym, ap, ◌∙◌}
use mathlib.Core.List.{List}
use Prim.Native.Nat.{ℕ, ◌+◌, ◌-◌, ◌≤◌, ◌<◌}
use native.Mathlib.Omega.{arith}
use native.Mathlib.Decide.{ℕ_discrete, dec_lt}
use lib.ListN.{length, get_or, set, take, length-set}
use lib.Seq.{get_or-set_same, get_or-set_other, get_or-take}
use Rattle.field.specs.Octet as Octet
use Rattle.codeword.specs.Element.{octet}
use Rattle.codeword.specs.Element.Laws.{octet-lt}
use Rattle.codeword.specs.CodeWord.{Octets}
use Rattle.codeword.specs.Lanes.{lanes, Filled, Lanes}
use Rattle.codeword.specs.Places.{inverses}
use Rattle.codeword.specs.Search.{value_of}
use Rattle.codeword.specs.Values.{error_of, Added, Corrected}

pub value_of-octet : (p : List ℕ) (l x : ℕ) → value_of p l x < Octet.size
unfolding value_of
value_of-octet p l x = octet-lt _

pub added_start : {at y w : List ℕ} → Added 0 at y w w
added_start = record { long = refl; changed = λ k m. absurd (omega arith); same = λ p m. refl }

-- the places rise, so none is met twice
pub added_next : {k p v : ℕ} {at y w u : List ℕ} → p ≡ get_or at k 0 → p < length w → ((h i : ℕ) → h < i → i < k + 1 → get_or at h 0 < get_or at i 0)
    → v ≡ Octet.sum (get_or u p 0) (get_or y k 0) → Added k at y w u → Added (k + 1) at y w (set u p v)
added_next {k} {p} {v} {at} {y} {w} {u} at_p room rises e t = record {
  long = length-set u p v ∙ t.long;
  changed = λ i m. go i m (ℕ_discrete i k);
  same = λ q m. get_or-set_other u p q v 0 (λ z. m k (omega arith) (sym at_p ∙ sym z)) ∙ t.same q (λ i l. m i (omega arith));
}
  where
    other : (i : ℕ) → i < k → get_or at i 0 ≡ p → ⊥
    other i l z = omega (arith, rises i k l (omega arith))

    go : (i : ℕ) → i < k + 1 → Dec (i ≡ k) → get_or (set u p v) (get_or at i 0) 0 ≡ Octet.sum (get_or w (get_or at i 0) 0) (get_or y i 0)
    go i m (yes z) =
        rw (z, ← at_p) (get_or-set_same u p v 0 (omega (arith, t.long)) ∙ e ∙ ap (λ (x : ℕ). Octet.sum x (get_or y k 0)) (t.same p other))
    go i m (no z) = get_or-set_other u p (get_or at i 0) v 0 (other i (omega arith)) ∙ t.changed i (omega arith)

pub corrected_start : {n l : ℕ} {at o d w : List ℕ} → Octets w → Corrected n l 0 at o d w w
corrected_start h = record { long = refl; octets = h; changed = λ j m. absurd (omega arith); same = λ p m. refl }

-- `some` are the m places that `at` lists from j on
pub corrected-next : {n l j m : ℕ} {at some o d w u v x y : List ℕ} → m ≤ lanes → Octets v → ((k : ℕ) → k < m → get_or some k 0 ≡ get_or at (j + k) 0)
    → ((h i : ℕ) → h < i → i < j + m → get_or at h 0 < get_or at i 0)
    → Filled lanes m (λ k. octet (inverses n (get_or some k 0))) x → Lanes (λ k. error_of o d l (get_or x k 0)) y → Added m some y u v
    → Corrected n l j at o d w u → Corrected n l (j + m) at o d w v
corrected-next {n} {l} {j} {m} {at} {some} {o} {d} {w} {u} {v} {x} {y} few octets each rises points errors added t = record {
  long = added.long ∙ t.long;
  octets = octets;
  changed = λ i h. go i h (dec_lt i j);
  same = λ p h. added.same p (λ k o z. h (j + k) (omega arith) (sym (each k o) ∙ z)) ∙ t.same p (λ i o. h i (omega arith));
}
  where
    new : (k : ℕ) → k < m → get_or v (get_or at (j + k) 0) 0 ≡ Octet.sum (get_or w (get_or at (j + k) 0) 0) (error_of o d l (octet (inverses n (get_or at (j + k) 0))))
    new k h =
        rw (← each k h)
        (added.changed k h ∙ (rw (t.same (get_or some k 0) (λ i g z. below i g z), errors.entry k (omega arith), points.entry k h)))
      where
        below : (i : ℕ) → i < j → get_or at i 0 ≡ get_or some k 0 → ⊥
        below i g z = omega (arith, each k h, rises i (j + k) (omega arith) (omega arith))

    go : (i : ℕ) → i < j + m → Dec (i < j) → get_or v (get_or at i 0) 0 ≡ Octet.sum (get_or w (get_or at i 0) 0) (error_of o d l (octet (inverses n (get_or at i 0))))
    go i h (yes g) = added.same (get_or at i 0) (λ k f z. above k f (sym (each k f) ∙ z)) ∙ t.changed i g
      where
        above : (k : ℕ) → k < m → get_or at (j + k) 0 ≡ get_or at i 0 → ⊥
        above k f z = omega (arith, rises i (j + k) (omega arith) (omega arith))
    go i h (no g) = let e : j + (i - j) ≡ i = omega arith in rw e at (new (i - j) (omega arith))

-- the places may be listed by a longer list
pub corrected_listed : {n l : ℕ} {at o d w v : List ℕ} → Corrected n l l (take l at) o d w v → Corrected n l l at o d w v
corrected_listed {n} {l} {at} {o} {d} {w} {v} t = record {
  long = t.long;
  octets = t.octets;
  changed = λ j h. rw (get_or-take l at j 0 h) at (t.changed j h);
  same = λ p f. t.same p (λ j h z. f j h (sym (get_or-take l at j 0 h) ∙ z));
}
