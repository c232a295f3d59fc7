-- Units whose last octets rise, in the order that they are finished.
--
--   Rises             the units' last octets rise, and are as P says
--   rises-kept        .. and as Q says, which says less
--   rises-more        one more unit, whose last octet is behind theirs
--
-- Assumes nothing.
use mathlib.Core.Path.{◌≡◌, sym, ap, subst, ◌∙◌}
use mathlib.Core.Bool.{cond}
use mathlib.Core.List.{List, [], ◌∷◌, ◌++◌, flatten}
use Prim.Native.Nat.{ℕ, ◌+◌, ◌<◌}
use native.Mathlib.Decide.{dec_lt}
use native.Mathlib.Omega.{arith}
use borrow.Author.Tests.{lt-ltb, le-ltb}
use lib.Dec.{ltb}
use lib.ListN.{length, get_or, length-append, get_or-append}
use lib.Seq.{take-append-le}
use Rattle.multiplex.specs.Units.{UnitOn, units_on}
use Rattle.multiplex.specs.Claims.{EndsWith}
use Rattle.multiplex.proofs.Records.{unit_on}

module _ (ns xs : List ℕ) (held : ℕ → List ℕ) where
  pub record Rises (P : ℕ → Type 0) (us : List UnitOn) : Type 0 where
    pub last : ℕ → ℕ
    pub ends : (j : ℕ) → j < length us → EndsWith ns xs held us j (last j)
    pub each : (j : ℕ) → j < length us → P (last j)
    pub rise : (j : ℕ) → j + 1 < length us → last j < last (j + 1)

  pub rises-kept : (P Q : ℕ → Type 0) (us : List UnitOn) → ((b : ℕ) → P b → Q b) → Rises P us → Rises Q us
  rises-kept P Q us f z = record { last = z.last; ends = z.ends; each = λ j h. f (z.last j) (z.each j h); rise = z.rise }

  ends-before : (us : List UnitOn) (u : UnitOn) (j i : ℕ) → j < length us → EndsWith ns xs held us j i → EndsWith ns xs held (us ++ u ∷ []) j i
  ends-before us u j i h e = record {
    turn = e.turn;
    present = e.present;
    own = ap (λ (v : UnitOn). v.channel) (get_or-append us (u ∷ []) (unit_on 0 []) j h) ∙ e.own;
    all = e.all ∙ ap (λ (l : List UnitOn). flatten (units_on (get_or ns i 0) l)) (sym (take-append-le (j + 1) us (u ∷ []) (omega arith)));
  }

  module _ (P Q : ℕ → Type 0) (us : List UnitOn) (z : Rises P us) (u : UnitOn) (i : ℕ) (behind : (b : ℕ) → P b → b < i) (still : (b : ℕ) → P b → Q b)
      (here : Q i) (new : EndsWith ns xs held (us ++ u ∷ []) (length us) i) where
    last : ℕ → ℕ
    last j = cond (ltb j (length us)) (z.last j) i

    size : length (us ++ u ∷ []) ≡ length us + 1
    size = length-append us (u ∷ [])

    last-old : (j : ℕ) → j < length us → z.last j ≡ last j
    unfolding last
    last-old j h = rw (lt-ltb j (length us) h)

    last-new : (j : ℕ) → j ≡ length us → i ≡ last j
    unfolding last
    last-new j e = rw (le-ltb j (length us) (omega arith))

    by : (R : ℕ → ℕ → Type 0) → ((j : ℕ) → j < length us → R j (z.last j)) → R (length us) i → (j : ℕ) → j < length (us ++ u ∷ []) → R j (last j)
    by R old one j h = at (dec_lt j (length us))
      where
        at : Dec (j < length us) → R j (last j)
        at (yes k) = subst (R j) (last-old j k) (old j k)
        at (no k) =
            let e : length us ≡ j = omega (arith, size) in
            subst (R j) (last-new j (sym e)) (subst (λ (n : ℕ). R n i) e one)

    pub rises-more : Rises Q (us ++ u ∷ [])
    rises-more = record {
      last = last;
      ends = by (EndsWith ns xs held (us ++ u ∷ [])) (λ j h. ends-before us u j (z.last j) h (z.ends j h)) new;
      each = by (λ j b. Q b) (λ j h. still (z.last j) (z.each j h)) here;
      rise = λ j h. rising j (omega (arith, size)) (dec_lt (j + 1) (length us));
    }
      where
        rising : (j : ℕ) → j < length us → Dec (j + 1 < length us) → last j < last (j + 1)
        rising j h (yes k) = rw (← last-old j h, ← last-old (j + 1) k) (z.rise j k)
        rising j h (no k) = rw (← last-old j h, ← last-new (j + 1) (omega arith)) (behind (z.last j) (z.each j h))
