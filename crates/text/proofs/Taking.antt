-- One octet more of a line.
--
--   begun           a beginning holds no octets
--   takes_newline   a newline ends the line
--   takes_over      an octet that the lent line has no room for is passed over, which is told
--   takes_octet     another is put behind those that stand
--
-- Assumes nothing.
use mathlib.Core.Path.{◌≡◌, sym, ap, ◌∙◌}
use mathlib.Core.Bool.{Bool, true, false, ◌||◌, or-true, or-false}
use mathlib.Core.List.{List, [], ◌∷◌, ◌++◌}
use Prim.Native.Nat.{ℕ, ◌+◌, ◌≤◌, ◌<◌}
use native.Mathlib.Numerals.{add-one}
use native.Mathlib.Omega.{arith}
use borrow.Author.Tests.{eq-eqb, ne_eqb, lt-ltb, le-ltb}
use lib.Dec.{eqb}
use lib.ListN.{length, take, set, length-take, length-append, length-set}
use lib.Seq.{take-nil, take_all, take-append-le, take-suc-set}
use Rattle.text.specs.declared.lines.Reading.{Reading}
use Rattle.text.specs.Lines.{SoFar, Takes}

pub begun : {whole : Bool} (line : List ℕ) → SoFar (record { length = 0; over = false; whole = whole }) line []
begun line =
    record {
      over = sym (le-ltb (length line) 0 (omega arith));
      count = sym (ap length (take-nil (length line)));
      stands = sym (take-nil (length line));
    }

module _ (r : Reading) (line : List ℕ) (x : ℕ) where
  pub takes_newline : x ≡ 10 → Takes r line x (record { length = r.length; over = r.over; whole = true }) line
  takes_newline e = (λ s h. rw (eq-eqb x 10 e) (record { over = h.over; count = h.count; stands = h.stands }), rw (eq-eqb x 10 e, or-true))

  module _ (none : x ≡ 10 → ⊥) where
    other : r.whole ≡ (r.whole || eqb x 10)
    other = rw (ne_eqb x 10 none, or-false)

    pub takes_over : length line ≤ r.length → Takes r line x (record { length = r.length; over = true; whole = r.whole }) line
    takes_over full = (λ s h. rw (ne_eqb x 10 none) (held s h), other)
      where
        held : (s : List ℕ) → SoFar r line s → SoFar (record { length = r.length; over = true; whole = r.whole }) line (s ++ x ∷ [])
        held s h =
            let k : length line ≤ length s = omega (arith, h.count, length-take (length line) s) in
            let e = take-append-le (length line) s (x ∷ []) k in
            record {
              over = sym (lt-ltb (length line) (length (s ++ x ∷ [])) (omega (arith, length-append s (x ∷ []))));
              count = rw e h.count;
              stands = rw e h.stands;
            }

    pub takes_octet : r.length < length line
        → Takes r line x (record { length = r.length + 1; over = r.over; whole = r.whole }) (set line r.length x)
    takes_octet room = (λ s h. rw (ne_eqb x 10 none) (held s h), other)
      where
        held : (s : List ℕ) → SoFar r line s
            → SoFar (record { length = r.length + 1; over = r.over; whole = r.whole }) (set line r.length x) (s ++ x ∷ [])
        held s h =
            let k : length s ≡ r.length = omega (arith, h.count, length-take (length line) s) in
            let m = length-append s (x ∷ []) in
            let all : take (length line) s ≡ s = take_all (length line) s (omega arith) in
            let both : take (length line) (s ++ x ∷ []) ≡ s ++ x ∷ [] = take_all (length line) (s ++ x ∷ []) (omega arith) in
            record {
              over =
                  h.over ∙ le-ltb (length line) (length s) (omega arith)
                  ∙ (rw length-set (sym (le-ltb (length line) (length (s ++ x ∷ [])) (omega arith))));
              count = rw (length-set, both) (omega arith);
              stands =
                  rw (length-set, both, add-one) (take-suc-set line r.length x room ∙ ap (λ (l : List ℕ). l ++ x ∷ []) (h.stands ∙ all));
            }
